use Rattle.std.{proofs.Common.{ap, sym, ◌++◌, ◌∙◌}, specs.Prelude.{option_map, option_to_list}}
use Rattle.auction_text.specs.Replies.{reply_text}
use Rattle.auction_text.proofs.writing.replies.put_view.Goals as goal
use Rattle.worker_journals.proofs.SaidLemmas.{only_item}

pub returns-in-Some-clause-text : goal.returns-in-Some-clause-text
returns-in-Some-clause-text g c =
    let shows = ap (λ seen. option_to_list (option_map (λ s. s.now) seen)) (sym c.in-Some.is) ∙ c.item_seen.ensures in
    c.put_item_seen.ensures.text ∙ ap (λ reply. c.args.block.now ++ reply_text reply) (only_item c.args.entry.now.reply c.in-Some.seen.now shows)
