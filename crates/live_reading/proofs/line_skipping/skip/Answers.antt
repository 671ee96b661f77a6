use Rattle.std.proofs.Common.{◌≡◌, ◌<◌, ◌∙◌, drop, false, length, subst, sym, true}
use Rattle.live_reading.proofs.SkippingLemmas.{passed_all, passed_whole, passes_held, passing_none, passing_part, passing_read}
use Rattle.live_reading.specs.{LineBuffers.{held}, inner.Lines.{IsPast}}
use Rattle.live_reading.proofs.line_skipping.skip.Goals as goal
use Rattle.record_reading.specs.declared.buffers.TheConstants.{ROOM_TO_READ}

pub loop-init : goal.loop-init
loop-init g c = record { passing = λ bytes known. passing_none g.R.Read.remaining c.args.front bytes c.args.lines.now known }

pub returns-then-is_whole-clause-passes : goal.returns-then-is_whole-clause-passes
returns-then-is_whole-clause-passes g c = λ bytes known.
    let front = c.args.front in let len = c.front_len-len.result.0 in
    let passes = passes_held front c.held.result.now (held c.loop.lines) len c.front_len-len.result.1 true c.held.ensures.value c.if-is_whole.true c.front_len-len.ensures.passes in
    passed_whole g.R.Read.remaining front bytes c.loop.lines c.take.new.self len (c.loop.invariant.passing bytes known) c.take.ensures.underneath c.take.ensures.held passes

pub loop-preserved : goal.loop-preserved
loop-preserved g c = record {
  passing = λ bytes known.
      let front = c.args.front in let len = c.front_len-len.result.0 in
      let passes = passes_held front c.held.result.now (held c.loop.lines) len c.front_len-len.result.1 false c.held.ensures.value c.if-is_whole.false c.front_len-len.ensures.passes in
      passing_read g.R.Read.remaining front bytes c.take.new.self c.read_on.new.self
      (passing_part g.R.Read.remaining front bytes c.loop.lines c.take.new.self len (c.loop.invariant.passing bytes known) c.take.ensures.underneath c.take.ensures.held passes) c.in_ok-read_on.ensures.reads;
}

pub returns-then-not-branch-clause-passes : goal.returns-then-not-branch-clause-passes
returns-then-not-branch-clause-passes g c = λ bytes known.
    let rem = g.R.Read.remaining in let front = c.args.front in
    let len = c.front_len-len.result.0 in
    let more : c.in_ok-read_on.field-0 ≡ false = c.if-not-branch.true in
    let last = c.read_on.new.self in
    let passes = passes_held front c.held.result.now (held c.loop.lines) len c.front_len-len.result.1 false c.held.ensures.value c.if-is_whole.false c.front_len-len.ensures.passes in
    let same : held last ≡ drop len (held c.loop.lines) = c.in_ok-read_on.ensures.none more ∙ c.take.ensures.held in
    let room : length (held last) < ROOM_TO_READ = subst (λ xs. length xs < ROOM_TO_READ) (sym same) passes.0 in
    passed_all rem front bytes last
    (passing_read rem front bytes c.take.new.self last
    (passing_part rem front bytes c.loop.lines c.take.new.self len (c.loop.invariant.passing bytes known) c.take.ensures.underneath c.take.ensures.held passes) c.in_ok-read_on.ensures.reads)
    (subst (λ xs. IsPast front xs xs) (sym same) passes.1.0) (c.in_ok-read_on.ensures.end more room)
