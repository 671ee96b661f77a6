use Rattle.std.proofs.Common.{rules, ◌≡◌, List, ap}
use Rattle.auction_rows.specs.declared.rows.Entry.{Entry}
use Rattle.auction_text.proofs.PutLemmas.{put_failed, told_all, told_more, told_none, told_part}
use Rattle.auction_text.specs.Moved.{all_moved, gone_by, moved}
use Rattle.auction_text.specs.Replies.{history_line, history_text}
use Rattle.auction_text.proofs.writing.output.put_entries.Goals as goal

pub loop-entry-init : goal.loop-entry-init
loop-entry-init g c =
    let entries : c.into_iter-entry-iterator.result ≡ c.args.history.now.entries = search rules in
    told_none _ _ _ _ (ap (λ (es : List Entry). history_text (all_moved (gone_by c.args.before.now) es)) entries)

pub loop-entry-preserved : goal.loop-entry-preserved
loop-entry-preserved g c =
    let gone = gone_by c.args.before.now in
    told_more _ _ _ _ _ _ _ (history_line (moved gone c.in-Some.entry)) (history_text (all_moved gone c.next.new.self)) _ c.loop-entry.invariant
    (ap (λ (es : List Entry). history_text (all_moved gone es)) c.in-Some.ensures.steps) c.in_ok-put_entry.ensures.whole

pub returns-in_err-put_entry : goal.returns-in_err-put_entry
returns-in_err-put_entry g c =
    let gone = gone_by c.args.before.now in let part = c.in_err-put_entry.ensures.part in
    put_failed g.W.Write.contents _ _ _ _ _ c.from_residual.result c.in_err-put_entry.field-0.0 c.from_residual.ensures.1 part.0
    (told_part _ _ _ _ _ c.put_entry.new.block _ (history_line (moved gone c.in-Some.entry)) (history_text (all_moved gone c.next.new.self)) _ c.loop-entry.invariant
    (ap (λ (es : List Entry). history_text (all_moved gone es)) c.in-Some.ensures.steps) part.1)

pub returns : goal.returns
returns g c = record {
  whole = told_all _ _ _ _ _ _ c.loop-entry.invariant (ap (λ (es : List Entry). history_text (all_moved (gone_by c.args.before.now) es)) c.in-None.ensures.steps.0);
  part = tt;
}
