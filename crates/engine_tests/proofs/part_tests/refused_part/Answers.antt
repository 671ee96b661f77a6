use Rattle.std.{proofs.Common.{◌≡◌, Result, subst, sym}, specs.Prelude.{IfErr}}
use Rattle.auction_run.specs.{Boards.{IsUpToDate}, GoingOn.{GivesBack, IsStopped}}
use Rattle.engine_tests.proofs.part_tests.refused_part.Goals as goal

-- What holds of a fault holds of the same one.
same_fault : {T E : Type 0} (P : E → Type 0) {r s : Result T E} → r ≡ s → IfErr r P → IfErr s P
same_fault P same h = subst (λ r. IfErr r P) same h

pub returns : goal.returns
returns g c =
    let B = g.B.Board in let run = c.run_on_shown-refused in let back = c.given_back-back in
    let stopped = same_fault (IsStopped c.args.state _ _) back.ensures run.ensures.answer.stopped in
    let untouched = same_fault (λ why. GivesBack why → run.new.board ≡ c.args.board.now) back.ensures run.ensures.untouched tt in
    subst (λ board. IsUpToDate B.has board back.result.0) (sym untouched)
    (subst (λ state. IsUpToDate B.has c.args.board.now state) (sym stopped.0) c.requires)
