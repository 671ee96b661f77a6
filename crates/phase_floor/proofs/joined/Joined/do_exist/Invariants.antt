use Rattle.std.proofs.Common.{ℕ, ◌<◌, get_or}
use Rattle.auction_rows.specs.declared.requests.Object.{Object}
use Rattle.phase_floor.specs.States.{DoesExist, states_of}
use Rattle.phase_floor.proofs.joined.Joined.do_exist.Given as goal

abbrev pub invariant-loop-object : goal.invariant-loop-object
invariant-loop-object l = (k : ℕ) (d : Object) → k < l.object-index → DoesExist l.self.opening (states_of l.self) (get_or l.objects k d)
