use Rattle.std.proofs.Common.{◌∙◌, ◌++◌, ℕ, List, ap}
use Rattle.phase_laws.specs.Order.{part}
use Rattle.worker_journals.specs.Journals.{entry_worker}
use Rattle.auction_text.proofs.{MovedLemmas.{lines_after_none}, PutLemmas.{in_memory}}
use Rattle.auction_text.specs.Order.{in_order}
use Rattle.auction_text.proofs.writing.reply_order.worker_text.Goals as goal

pub put_replies_of-requires : goal.put_replies_of-requires
put_replies_of-requires c = c.as_slice.ensures.value ∙ c.in_ok-late.ensures

pub returns : goal.returns
returns c =
    let put = c.put_replies_of.new.writer.items in
    c.in_ok-push_text.ensures ∙ ap (λ (l : List ℕ). put ++ l) c.bytes.ensures
    ∙ in_memory c.in_ok-text.text.items put c.new-block.result _ _ c.in_ok-text.ensures.items c.new-block.ensures c.in-Ok.ensures.whole
    ∙ lines_after_none (in_order (part entry_worker c.args.worker c.args.history.now.entries))
