use Rattle.std.proofs.Common.{ap}
use Rattle.phase_floor.specs.States.{JoinedState}
use Rattle.phase_floor.proofs.joined.Joined.limit.Goals as goal

pub returns-clause-limit : goal.returns-clause-limit
returns-clause-limit c = ap (λ (s : JoinedState). s.limit) c.self.view_is
