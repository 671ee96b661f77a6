-- A short request whose facts lie behind others.
use Rattle.std.specs.Prelude.{ℕ, ◌+◌, ◌<◌, ◌^◌, List, length}
use Rattle.auction_rows.specs.declared.requests.Facts.{Facts}
use Rattle.request_scripts.specs.declared.short_request.ShortRequest.{ShortRequest}
use Rattle.request_scripts.specs.declared.short_request.ShortRequest.TheVariants as ask

-- a short request, of which the facts lie after so many others
abbrev pub shifted : ℕ → ShortRequest → ShortRequest
shifted before (ask.StoreItem facts time) = ask.StoreItem (before + facts) time
shifted before short = short

-- so many facts more before these can be counted
abbrev pub CanShift : List Facts → ℕ → Type 0
CanShift all before = before + length all < 2 ^ 64
