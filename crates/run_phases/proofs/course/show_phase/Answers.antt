use Rattle.std.proofs.Common.{rules, sym, subst}
use Rattle.phase_boards.specs.Boards.{CanShow}
use Rattle.run_phases.proofs.course.show_phase.Goals as goal

pub publish-requires : goal.publish-requires
publish-requires g c = λ watched. subst (CanShow g.B.Board.has c.args.board.now) (sym c.in_ok-rows.ensures) (c.requires watched)

pub returns : goal.returns
returns g c = search rules
