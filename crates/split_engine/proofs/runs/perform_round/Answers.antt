use Rattle.std.proofs.{Common.{sym, ap, length, ◌∙◌}, lemmas.Result.{IfOk-weaker}}
use Rattle.split_engine.proofs.runs.perform_round.Goals as goal

-- the table has as many records after the joined phase
pub split_phase-requires-clause-hot : goal.split_phase-requires-clause-hot
split_phase-requires-clause-hot g c =
    let given = c.requires.state in let new = c.in_ok-joined_phase.ensures.state given.0 given.1 given.2 given.3 given.4 in
    λ sent lives. ap length c.deref.ensures.value ∙ c.in_ok-choose.ensures ∙ c.requires.hot ∙ given.4.size_is ∙ sym new.size_is

pub split_phase-requires-clause-state : goal.split_phase-requires-clause-state
split_phase-requires-clause-state g c =
    let given = c.requires.state in
    λ sent lives. (given.0, given.1, given.2, given.3, c.in_ok-joined_phase.ensures.state given.0 given.1 given.2 given.3 given.4)

pub returns-clause-state : goal.returns-clause-state
returns-clause-state g c =
    IfOk-weaker c.split_phase.result _ _
    (λ new gone n opened few all f. gone n opened few all (c.in_ok-joined_phase.ensures.state n opened few all f)) c.split_phase.ensures.state
