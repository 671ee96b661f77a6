use Rattle.std.proofs.Common.{arith, ◌+◌, ◌∙◌, drop, refl}
use Rattle.live_reading.proofs.LiveLineLemmas.{bid_says}
use Rattle.live_reading.proofs.LiveTakingLemmas.{bid_rows, bid_text, text_none, text_then}
use Rattle.live_reading.specs.declared.line_taking.LineStop.TheVariants.{Full}
use Rattle.live_reading.proofs.line_taking.take_bids.Goals as goal

pub loop-at-init : goal.loop-at-init
loop-at-init c = record {
  after = omega arith;
  within = λ further. absurd (omega (arith, further));
  takes = text_none c.args.taken.now (drop c.args.from c.args.text.now);
  rows = refl;
  none = λ back. refl;
}

pub loop-at-preserved : goal.loop-at-preserved
loop-at-preserved c =
    let text = c.args.text.now in let at = c.loop-at.at in let old = c.loop-at.taken in
    let new = c.add.new.self in let inv = c.loop-at.invariant in let bid = c.in-Some.ensures in
    let one = c.in-Some.one in let next = c.in-Some.next in let below = c.if-one-taken.false in
    let added = c.in_ok-add.ensures.adds in
    let said = bid_says text at one next old.workers (old.count + 1) old.begun bid.whole c.requires.long bid.alone bid.says.within below bid.request in
    record {
      after = omega (arith, inv.after, bid.says.after);
      within = λ further. bid.says.within;
      takes = text_then c.args.taken.now old new (drop c.args.from text) (drop at text) (drop next text) Full inv.takes (bid_text old new text at next one bid.whole bid.says.after said below added);
      rows = bid_rows old new one added bid.request ∙ inv.rows;
      none = λ back. absurd (omega (arith, back, inv.after, bid.says.after));
    }

pub add-requires-clause-room : goal.add-requires-clause-room
add-requires-clause-room c = (omega arith, omega (arith, c.loop-at.invariant.rows, c.requires.room.1))
