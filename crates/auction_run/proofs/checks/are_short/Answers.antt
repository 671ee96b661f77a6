use Rattle.std.proofs.{Common.{arith, ◌≡◌, ◌<◌, ◌∙◌, ap, below_more}, lemmas.Bool.{false≢true}}
use Rattle.std.specs.Prelude.{slice_index_or}
use Rattle.item_shards.specs.{OpeningBooks.{rows_of_book}, OpeningRows.{rows_by}}
use Rattle.auction_run.proofs.checks.are_short.Goals as goal

pub overflow_sub-counts : goal.overflow_sub-counts
overflow_sub-counts g c =
    let w = c.loop-worker.worker in
    let below : w < 16 = omega (arith, c.loop-worker-test.true, c.workers-worker-end.ensures, c.requires) in
    let stored : slice_index_or c.rows_by_each-counts.result w 0 ≡ rows_by (rows_of_book c.args.book.now) w = c.rows_by_each-counts.ensures w below ∙ ap (λ rows. rows_by rows w) c.rows.ensures.rows in
    omega (arith, stored, c.rows.ensures.few w below)

pub returns-then-requests_of-counts : goal.returns-then-requests_of-counts
returns-then-requests_of-counts g c =
    let w = c.loop-worker.worker in
    let below : w < 16 = omega (arith, c.loop-worker-test.true, c.workers-worker-end.ensures, c.requires) in
    let stored : slice_index_or c.rows_by_each-counts.result w 0 ≡ rows_by (rows_of_book c.args.book.now) w = c.rows_by_each-counts.ensures w below ∙ ap (λ rows. rows_by rows w) c.rows.ensures.rows in (
      λ yes. absurd (false≢true yes),
      λ short.
          let least = short w (omega (arith, c.loop-worker-test.true, c.workers-worker-end.ensures)) in
          absurd (omega (arith, stored, c.rows.ensures.few w below, c.requests_of.ensures, c.if-requests_of-counts.true, least)),
    )

pub loop-worker-preserved : goal.loop-worker-preserved
loop-worker-preserved g c =
    let w = c.loop-worker.worker in
    let below : w < 16 = omega (arith, c.loop-worker-test.true, c.workers-worker-end.ensures, c.requires) in
    let stored : slice_index_or c.rows_by_each-counts.result w 0 ≡ rows_by (rows_of_book c.args.book.now) w = c.rows_by_each-counts.ensures w below ∙ ap (λ rows. rows_by rows w) c.rows.ensures.rows in
    below_more _ w c.loop-worker.invariant (omega (arith, stored, c.rows.ensures.few w below, c.requests_of.ensures, c.if-requests_of-counts.false))
