-- The order in which a worker's entries are to stand.
use Rattle.std.specs.Prelude.{ℕ, suc, ◌<◌, ◌≡◌, ◌==◌, Bool, true, false, List, if◌then◌else◌}
use Rattle.phase_laws.specs.Numbers.{greatest_by}
use Rattle.auction_rows.specs.Requests.{is_splittable}
use Rattle.auction_rows.specs.declared.{requests.Request.Request, rows.Entry.Entry}
use Rattle.history_check.specs.declared.lines.Order.{TheVariants.{Any, StoresFirst, Strict}, Order}

-- whether a request may stand after no later request of its script
abbrev pub is_bound : Order → Request → Bool
is_bound Any request = false
is_bound StoresFirst request = is_splittable request
is_bound Strict request = true

-- an entry may stand before another: not if that is bound, and an earlier request of the same
-- script
abbrev pub MayPrecede : Order → Entry → Entry → Type 0
MayPrecede order d e = d.worker ≡ e.worker → is_bound order e.request ≡ true → d.index < e.index

-- one past an entry's index, if it is of this worker
abbrev pub turn : ℕ → Entry → ℕ
turn worker e = if e.worker == worker then suc e.index else 0

-- one past the greatest index of a worker's entries, and 0 if it has none
abbrev pub turn_after : ℕ → List Entry → ℕ
turn_after worker history = greatest_by (turn worker) history
