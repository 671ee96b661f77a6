use Rattle.std.proofs.{Common.{subst}, lemmas.Result.{IfOk-weaker}}
use Rattle.live_reading.proofs.LiveTakingLemmas.{from_held, from_none, from_read, from_then}
use Rattle.live_reading.specs.LineBuffers.{held}
use Rattle.live_reading.specs.declared.line_taking.LineStop.TheVariants.{Fault, Full}
use Rattle.live_reading.specs.inner.Taking.{TakesText, stop_at}
use Rattle.live_reading.proofs.line_taking.take_lines.Goals as goal

pub loop-init : goal.loop-init
loop-init g c = record { takes = from_none g.R.Read.remaining c.args.lines.now c.args.taken.now; none = c.requires.none }

pub loop-preserved : goal.loop-preserved
loop-preserved g c =
    let rem = g.R.Read.remaining in let lines = c.loop.lines in let mid = c.take_held.new.lines in
    let old = c.loop.taken in let new = c.take_held.new.taken in
    let text = subst (λ f. TakesText old (held lines) new (stop_at f) (held mid)) c.in_default.is c.in_ok-fault.ensures.takes in
    let here = from_held rem lines mid old new Full c.in_ok-fault.ensures.underneath text in
    let all = from_then rem c.args.lines.now lines mid c.args.taken.now old new Full c.loop.invariant.takes here in
    record {
      takes = from_read rem c.args.lines.now mid c.read_on.new.self c.args.taken.now new all c.in_ok-read_on.ensures.reads;
      none = (c.may_end.ensures.open c.if-may_end.false).0;
    }

pub returns-in-Some-clause-takes : goal.returns-in-Some-clause-takes
returns-in-Some-clause-takes g c =
    let rem = g.R.Read.remaining in let lines = c.loop.lines in let mid = c.take_held.new.lines in
    let old = c.loop.taken in let new = c.take_held.new.taken in let how = Fault c.in-Some.fault in
    let text = subst (λ f. TakesText old (held lines) new (stop_at f) (held mid)) c.in-Some.is c.in_ok-fault.ensures.takes in
    from_then rem c.args.lines.now lines mid c.args.taken.now old new how c.loop.invariant.takes (from_held rem lines mid old new how c.in_ok-fault.ensures.underneath text)

pub returns-then-may_end-clause-takes : goal.returns-then-may_end-clause-takes
returns-then-may_end-clause-takes g c =
    let rem = g.R.Read.remaining in let lines = c.loop.lines in let mid = c.take_held.new.lines in
    let old = c.loop.taken in let new = c.take_held.new.taken in
    let text = subst (λ f. TakesText old (held lines) new (stop_at f) (held mid)) c.in_default.is c.in_ok-fault.ensures.takes in
    from_then rem c.args.lines.now lines mid c.args.taken.now old new Full c.loop.invariant.takes (from_held rem lines mid old new Full c.in_ok-fault.ensures.underneath text)

pub returns-then-not-branch-clause-takes : goal.returns-then-not-branch-clause-takes
returns-then-not-branch-clause-takes g c =
    let rem = g.R.Read.remaining in let lines = c.loop.lines in let mid = c.take_held.new.lines in
    let next = c.read_on.new.self in let first = c.args.taken.now in let old = c.loop.taken in
    let new = c.take_held.new.taken in
    let text = subst (λ f. TakesText old (held lines) new (stop_at f) (held mid)) c.in_default.is c.in_ok-fault.ensures.takes in
    let here = from_held rem lines mid old new Full c.in_ok-fault.ensures.underneath text in
    let all = from_then rem c.args.lines.now lines mid first old new Full c.loop.invariant.takes here in
    let read = from_read rem c.args.lines.now mid next first new all c.in_ok-read_on.ensures.reads in
    IfOk-weaker c.take_last.result _ _ (λ how last. from_then rem c.args.lines.now next c.take_last.new.lines first new c.take_last.new.taken how read last) c.take_last.ensures.takes
