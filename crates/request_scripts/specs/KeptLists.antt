-- Requests that are kept, for which room was asked ahead.
use Rattle.std.specs.Prelude.{ℕ, List}
use Rattle.auction_rows.specs.declared.requests.Request.{Request}

-- what is kept
pub record KeptList : Type 0 where
  -- the requests, in their order
  pub requests : List Request
  -- for how many in all a place was asked
  pub room : ℕ
