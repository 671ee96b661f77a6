use Rattle.std.proofs.Common.{arith, ◌++◌, ◌∙◌, ap, refl, subst, take}
use Rattle.auction_reading.proofs.SaidLemmas.{has_read_further, has_read_none, scripts_stay}
use Rattle.auction_reading.specs.inner.Said.{HasRead, read_by}
use Rattle.auction_reading.proofs.buffered_lines.read_lines.Goals as goal

pub loop-init : goal.loop-init
loop-init g c = record {
  within = omega arith;
  workers = refl;
  room = c.requires.room;
  reads = λ all known. (all, known, has_read_none (read_by c.args.progress.now) all c.requires.room);
}

pub loop-preserved : goal.loop-preserved
loop-preserved g c =
    let inv = c.loop.invariant in
    let lines = c.in_ok-left.ensures in record {
      within = omega (arith, lines.within, c.in_ok-now.ensures.within, c.take_lines.ensures.len);
      workers = scripts_stay c.loop.progress c.take_lines.new.progress _ _ lines.reads ∙ inv.workers;
      room = lines.reads.room;
      reads = λ all known.
          has_read_further (read_by c.args.progress.now) (read_by c.loop.progress) (read_by c.take_lines.new.progress) all (take c.loop.filled c.loop.buffer) (take c.in_ok-now.now c.fill.new.buffer)
          (take c.in_ok-left.left c.take_lines.new.buffer) _ _ (inv.reads all known) c.in_ok-now.ensures.reads lines.reads;
    }

pub returns-then-now-filled : goal.returns-then-now-filled
returns-then-now-filled g c =
    let inv = c.loop.invariant in
    let buffer = c.fill.new.buffer in record {
      within = omega (arith, inv.within, c.fill.ensures.len);
      end = λ none room. c.in_ok-now.ensures.end c.if-now-filled.true (omega (arith, room, c.fill.ensures.len));
      workers = inv.workers;
      room = inv.room;
      reads = λ all known.
          let (behind, are, so_far) = inv.reads all known in
          let (left, now, same) = c.in_ok-now.ensures.reads behind are in
          (left, now, subst (HasRead (read_by c.args.progress.now) all (read_by c.loop.progress)) (same ∙ ap (λ n. take n buffer ++ left) c.if-now-filled.true) so_far);
      fails = tt;
    }

pub returns-then-not-goes_on : goal.returns-then-not-goes_on
returns-then-not-goes_on g c =
    let inv = c.loop.invariant in
    let lines = c.in_ok-left.ensures in record {
      within = omega (arith, lines.within, c.in_ok-now.ensures.within, c.take_lines.ensures.len);
      end = λ none room. absurd (omega (arith, none, lines.some c.if-not-goes_on.true));
      workers = scripts_stay c.loop.progress c.take_lines.new.progress _ _ lines.reads ∙ inv.workers;
      room = lines.reads.room;
      reads = λ all known.
          has_read_further (read_by c.args.progress.now) (read_by c.loop.progress) (read_by c.take_lines.new.progress) all (take c.loop.filled c.loop.buffer) (take c.in_ok-now.now c.fill.new.buffer)
          (take c.in_ok-left.left c.take_lines.new.buffer) _ _ (inv.reads all known) c.in_ok-now.ensures.reads lines.reads;
      fails = tt;
    }
