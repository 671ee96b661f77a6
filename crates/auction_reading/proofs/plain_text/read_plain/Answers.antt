use Rattle.std.proofs.Common.{◌≡◌, ℕ, arith, drop, subst}
use Rattle.auction_reading.proofs.SaidLemmas.{has_read_none, has_read_then}
use Rattle.auction_reading.specs.inner.Said.{HasRead, read_by}
use Rattle.auction_reading.proofs.plain_text.read_plain.Goals as goal

pub loop-at-init : goal.loop-at-init
loop-at-init c = record { within = omega arith; reads = has_read_none (read_by c.args.progress.now) c.args.text.now c.requires.room }

pub read_line-requires : goal.read_line-requires
read_line-requires c = record { ends = c.requires.ends; within = omega arith; room = omega arith }

pub loop-at-preserved : goal.loop-at-preserved
loop-at-preserved c =
    let text = c.args.text.now in record {
      within = c.in_ok-next.ensures.line.within;
      reads = has_read_then (read_by c.args.progress.now) (read_by c.loop-at.progress) (read_by c.read_line.new.progress) text (drop c.loop-at.at text) (drop c.in_ok-next.next text) c.loop-at.invariant.reads c.in_ok-next.ensures.line.reads;
    }

pub returns-then-next-at-clause-reads : goal.returns-then-next-at-clause-reads
returns-then-next-at-clause-reads c =
    let text = c.args.text.now in
    let same : c.in_ok-next.next ≡ c.loop-at.at = omega (arith, c.if-next-at.true) in
    has_read_then (read_by c.args.progress.now) (read_by c.loop-at.progress) (read_by c.read_line.new.progress) text (drop c.loop-at.at text) (drop c.loop-at.at text) c.loop-at.invariant.reads
    (subst (λ (n : ℕ). HasRead (read_by c.loop-at.progress) (drop c.loop-at.at text) (read_by c.read_line.new.progress) (drop n text)) same c.in_ok-next.ensures.line.reads)
