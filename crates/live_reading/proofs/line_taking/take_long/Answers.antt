use Rattle.std.proofs.Common.{arith, ◌≡◌, ◌+◌, ◌∙◌, ap}
use Rattle.csv.specs.Reading.{default_config, records}
use Rattle.live_reading.{proofs.LiveTakingLemmas.{from_long}, specs.LiveLines.{first_worker}}
use Rattle.live_reading.proofs.line_taking.take_long.Goals as goal

pub returns-clause-takes : goal.returns-clause-takes
returns-clause-takes g c =
    let old = c.args.taken.now in
    let place : c.in-Some.place ≡ old.count + 1 = omega (arith, c.in-Some.ensures) in
    from_long g.R.Read.remaining c.args.lines.now c.skip.new.lines old c.count_to.new.self c.clear.new.self c.in_ok-worker.worker c.in-Some.place c.requires.no_feed c.requires.full
    c.clear.ensures.underneath c.clear.ensures.held c.in_ok-skip.ensures.passes
    (c.in_ok-worker.ensures.value ∙ ap (λ xs. first_worker old.workers (records default_config xs)) c.held.ensures.value) place c.count_to.ensures
