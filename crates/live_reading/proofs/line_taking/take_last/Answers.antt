use Rattle.std.proofs.Common.{arith, ◌≡◌, ◌<◌, ap, false, length, subst, sym}
use Rattle.live_reading.proofs.LiveLineLemmas.{last_is_short}
use Rattle.live_reading.{proofs.LiveTakingLemmas.{from_last, last_stop}, specs.LineBuffers.{held}}
use Rattle.live_reading.specs.{LiveLines.{is_long}, inner.Taking.{TakesFrom, TakesSaid, next_says}}
use Rattle.live_reading.proofs.line_taking.take_last.Goals as goal
use Rattle.record_reading.specs.declared.buffers.TheConstants.{ROOM_TO_READ}

pub take_read-requires-clause-short : goal.take_read-requires-clause-short
take_read-requires-clause-short g c =
    let lines = c.args.lines.now in
    let few : length (held lines) < ROOM_TO_READ = omega (arith, ap length c.held.ensures.value) in
    subst (λ xs. is_long xs ≡ false) (sym c.held-2.ensures.value) (last_is_short (held lines) c.requires.no_feed few)

pub take_read-requires-clause-room : goal.take_read-requires-clause-room
take_read-requires-clause-room g c = (omega (arith, c.requires.open.0, c.args.taken.now.some), c.requires.open.1)

pub returns-in-Some-clause-takes : goal.returns-in-Some-clause-takes
returns-in-Some-clause-takes g c =
    let rem = g.R.Read.remaining in let lines = c.args.lines.now in let old = c.args.taken.now in
    let new = c.take_read.new.taken in
    let few : length (held lines) < ROOM_TO_READ = omega (arith, ap length c.held.ensures.value) in
    let said = subst (λ xs. TakesSaid old (next_says old xs) new c.in_ok-fault-2.fault) c.held-2.ensures.value c.in_ok-fault-2.ensures.takes in
    subst (λ f. TakesFrom rem lines old c.clear.new.self new (last_stop f)) c.in-Some.is
    (from_last rem lines c.clear.new.self old new c.in_ok-fault-2.fault c.requires.no_feed (c.requires.end few) said c.clear.ensures.underneath c.clear.ensures.held)

pub returns-in-None-clause-takes : goal.returns-in-None-clause-takes
returns-in-None-clause-takes g c =
    let rem = g.R.Read.remaining in let lines = c.args.lines.now in let old = c.args.taken.now in
    let new = c.take_read.new.taken in
    let few : length (held lines) < ROOM_TO_READ = omega (arith, ap length c.held.ensures.value) in
    let said = subst (λ xs. TakesSaid old (next_says old xs) new c.in_ok-fault-2.fault) c.held-2.ensures.value c.in_ok-fault-2.ensures.takes in
    subst (λ f. TakesFrom rem lines old c.clear.new.self new (last_stop f)) c.in-None.is
    (from_last rem lines c.clear.new.self old new c.in_ok-fault-2.fault c.requires.no_feed (c.requires.end few) said c.clear.ensures.underneath c.clear.ensures.held)
