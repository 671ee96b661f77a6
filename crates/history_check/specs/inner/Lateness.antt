-- Requests that are bound, and come too late.
use Rattle.std.specs.Prelude.{ℕ, ◌&&◌, Bool, nat_lt}
use Rattle.auction_rows.specs.declared.requests.Request.{Request}
use Rattle.history_check.specs.{Orders.{is_bound}, declared.lines.Order.{Order}}

-- whether a request is bound, and its worker's turn has passed
abbrev pub is_late : Order → Request → ℕ → ℕ → Bool
is_late order request index turn = is_bound order request && nat_lt index turn
