-- A state with which another run can begin, and one that lasts.
use Rattle.std.specs.Prelude.{map}
use Rattle.shard_boxes.specs.declared.limits.TheConstants.{MOST_COMMITS}
use Rattle.worker_slices.specs.declared.counters.Counters.{Counters}
use Rattle.closing_laws.specs.Standing.{stores}
use Rattle.phase_floor.specs.States.{JoinedState}

-- counters whose commits are the accepted stores
abbrev pub stores_as_commits : Counters → Counters
stores_as_commits counters = record counters { commits = stores counters }

-- the same state before a phase 0, where what each worker has committed is its rows
abbrev pub for_next_run : JoinedState → JoinedState
for_next_run state = record state { phase = 0; counters = map stores_as_commits state.counters }

-- the same state, of which each worker may commit as much as counters can count
abbrev pub lasting : JoinedState → JoinedState
lasting state = record state { limit = MOST_COMMITS }
