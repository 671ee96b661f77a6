use Rattle.std.proofs.Common.{arith, ◌∙◌, refl}
use Rattle.auction_reading.proofs.buffered_lines.fill.Goals as goal

pub loop-init : goal.loop-init
loop-init g c = record { within = c.requires.held; more = omega arith; reads = λ all known. (all, known, refl) }

pub loop-preserved : goal.loop-preserved
loop-preserved g c =
    let inv = c.loop.invariant in
    let now = c.in_ok-now.ensures in record {
      within = now.within;
      more = omega (arith, now.more, inv.more);
      reads = λ all known.
          let (behind, are, so_far) = inv.reads all known in
          let (left, is, more) = now.reads behind are in
          (left, is, so_far ∙ more);
    }

pub returns-then-now-filled : goal.returns-then-now-filled
returns-then-now-filled g c =
    let inv = c.loop.invariant in
    let now = c.in_ok-now.ensures in record {
      len = omega (arith, c.read_more.ensures.len, c.loop.auto.buffer);
      more = omega (arith, now.more, inv.more);
      within = now.within;
      reads = λ all known.
          let (behind, are, so_far) = inv.reads all known in
          let (left, is, more) = now.reads behind are in
          (left, is, so_far ∙ more);
      end = λ same room. now.end c.if-now-filled.true (omega (arith, same, room, c.if-now-filled.true, c.loop.auto.buffer));
      fails = tt;
    }

pub returns-then-now-wanted : goal.returns-then-now-wanted
returns-then-now-wanted g c =
    let inv = c.loop.invariant in
    let now = c.in_ok-now.ensures in record {
      len = omega (arith, c.read_more.ensures.len, c.loop.auto.buffer);
      more = omega (arith, now.more, inv.more);
      within = now.within;
      reads = λ all known.
          let (behind, are, so_far) = inv.reads all known in
          let (left, is, more) = now.reads behind are in
          (left, is, so_far ∙ more);
      end = λ same room. absurd (omega (arith, same, now.more, inv.more, c.if-now-filled.false));
      fails = tt;
    }
