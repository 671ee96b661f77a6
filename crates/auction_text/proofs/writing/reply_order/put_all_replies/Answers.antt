use Rattle.std.proofs.Common.{arith, ◌≡◌, ◌<◌, ◌+◌, ◌-◌, ◌++◌, ◌∙◌, ℕ, List, ap, length, sym}
use Rattle.std.specs.Prelude.{slice_index}
use Rattle.phase_laws.specs.Order.{part}
use Rattle.auction_rows.specs.declared.rows.Entry.{Entry}
use Rattle.worker_journals.specs.Journals.{entry_worker}
use Rattle.auction_text.proofs.{EachLemmas.{each_at}, MovedLemmas.{replies_of-moved, workers-moved}}
use Rattle.auction_text.proofs.PutLemmas.{put_failed, told_all, told_more, told_none, told_part}
use Rattle.auction_text.proofs.WorkerReplies.{next_worker, no_worker, replies_from, replies_of_all}
use Rattle.auction_text.specs.{Moved.{BeforeView, all_moved, gone_by}, Order.{in_order}}
use Rattle.auction_text.specs.{Replies.{lines}, inner.Putting.{line_after}}
use Rattle.auction_text.specs.inner.Workers.{late_of, replies_of}
use Rattle.auction_text.proofs.writing.reply_order.put_all_replies.Goals as goal

pub loop-worker-init : goal.loop-worker-init
loop-worker-init g c =
    let n = length c.args.delayed.now in
    let es = all_moved (gone_by c.args.before.now) c.args.history.now.entries in
    let all : n - 0 ≡ n = omega arith in
    told_none _ _ _ _ (ap (replies_from es 0) all ∙ replies_of_all n es (workers-moved (gone_by c.args.before.now) n c.args.history.now.entries c.requires.workers))

pub put_replies_of-requires : goal.put_replies_of-requires
put_replies_of-requires g c =
    c.as_slice.ensures.value
    ∙ each_at (late_of c.args.history.now.entries) c.args.delayed.now c.loop-worker.worker c.index-delayed-worker.result c.requires.late (omega arith) c.index-delayed-worker.is

-- what is left of the lines: those of this worker, as they are put, and those of the others
own_lines : (before : BeforeView) (es : List Entry) (w n count : ℕ) → w < n → count ≡ slice_index before.requests w
    → replies_from (all_moved (gone_by before) es) w (n - w)
    ≡ lines (line_after count) (in_order (part entry_worker w es)) ++ replies_from (all_moved (gone_by before) es) (w + 1) (n - (w + 1))
own_lines before es w n count less is =
    let moved = all_moved (gone_by before) es in
    let own : lines (line_after count) (in_order (part entry_worker w es)) ≡ replies_of moved w =
    ap (λ (k : ℕ). lines (line_after k) (in_order (part entry_worker w es))) is ∙ replies_of-moved (gone_by before) w es in
    next_worker w n moved less ∙ ap (λ (l : List ℕ). l ++ replies_from moved (w + 1) (n - (w + 1))) (sym own)

pub loop-worker-preserved : goal.loop-worker-preserved
loop-worker-preserved g c =
    let es = c.args.history.now.entries in let w = c.loop-worker.worker in
    let n = length c.args.delayed.now in
    let next = own_lines c.args.before.now es w n c.requests_of.result (omega arith) c.requests_of.ensures in
    told_more _ _ _ _ _ _ _ (lines (line_after c.requests_of.result) (in_order (part entry_worker w es)))
    (replies_from (all_moved (gone_by c.args.before.now) es) (w + 1) (n - (w + 1))) _ c.loop-worker.invariant next c.in_ok-put_replies_of.ensures.whole

pub returns-in_err-put_replies_of : goal.returns-in_err-put_replies_of
returns-in_err-put_replies_of g c =
    let es = c.args.history.now.entries in let w = c.loop-worker.worker in
    let n = length c.args.delayed.now in
    let next = own_lines c.args.before.now es w n c.requests_of.result (omega arith) c.requests_of.ensures in
    let wrote = c.in_err-put_replies_of.ensures.part in
    put_failed g.W.Write.contents _ _ _ _ _ c.from_residual.result c.in_err-put_replies_of.field-0.0 c.from_residual.ensures.1 wrote.0
    (told_part _ _ _ _ _ c.put_replies_of.new.block _ (lines (line_after c.requests_of.result) (in_order (part entry_worker w es)))
    (replies_from (all_moved (gone_by c.args.before.now) es) (w + 1) (n - (w + 1))) _ c.loop-worker.invariant next wrote.1)

pub returns : goal.returns
returns g c = record {
  whole = told_all _ _ _ _ _ _ c.loop-worker.invariant (no_worker c.loop-worker.worker (length c.args.delayed.now) (all_moved (gone_by c.args.before.now) c.args.history.now.entries) (omega arith));
  part = tt;
}
