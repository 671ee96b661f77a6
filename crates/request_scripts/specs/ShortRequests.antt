-- A request in few bytes, and what is said with the facts that are kept beside it.
use Rattle.std.specs.List.{AllByRecursion}
use Rattle.std.specs.Prelude.{◌≡◌, ℕ, ◌+◌, ◌<◌, ◌≤◌, List, [], ◌∷◌, ⊤, map, length, slice_index_or}
use Rattle.auction_rows.specs.declared.requests.Request.TheVariants.{StoreItem, StoreBid, StoreComment, BuyNow, ViewItem, ViewBids, ViewCategory, ViewUser}
use Rattle.auction_rows.specs.declared.requests.{Facts.Facts, Request.Request}
use Rattle.request_scripts.specs.declared.short_request.ShortRequest.{ShortRequest}
use Rattle.request_scripts.specs.declared.short_request.ShortRequest.TheVariants as ask

-- the facts that a request stores, if it does
abbrev pub facts_in : Request → List Facts
facts_in (StoreItem facts time) = facts ∷ []
facts_in (StoreBid bidder item amount time) = []
facts_in (StoreComment author about item stars) = []
facts_in (BuyNow buyer item quantity time) = []
facts_in (ViewItem item) = []
facts_in (ViewBids item) = []
facts_in (ViewCategory category) = []
facts_in (ViewUser user) = []

-- facts that no short request says
abbrev pub no_facts : Facts
no_facts = record { seller = 0; category = 0; name = []; quantity = 0; start = 0; closes = 0 }

-- the facts at a place, past the end those that no short request says
abbrev pub facts_at : List Facts → ℕ → Facts
facts_at facts place = slice_index_or facts place no_facts

-- the request that a short one says, with the facts that are kept
abbrev pub request_from : List Facts → ShortRequest → Request
request_from all (ask.StoreItem facts time) = StoreItem (facts_at all facts) time
request_from all (ask.StoreBid bidder item amount time) = StoreBid bidder item amount time
request_from all (ask.StoreComment author about item stars) = StoreComment author about item stars
request_from all (ask.BuyNow buyer item quantity time) = BuyNow buyer item quantity time
request_from all (ask.ViewItem item) = ViewItem item
request_from all (ask.ViewBids item) = ViewBids item
request_from all (ask.ViewCategory category) = ViewCategory category
request_from all (ask.ViewUser user) = ViewUser user

-- the place of a short request lies within the facts
abbrev pub HasRequest : List Facts → ShortRequest → Type 0
HasRequest all (ask.StoreItem facts time) = facts < length all
HasRequest all (ask.StoreBid bidder item amount time) = ⊤
HasRequest all (ask.StoreComment author about item stars) = ⊤
HasRequest all (ask.BuyNow buyer item quantity time) = ⊤
HasRequest all (ask.ViewItem item) = ⊤
HasRequest all (ask.ViewBids item) = ⊤
HasRequest all (ask.ViewCategory category) = ⊤
HasRequest all (ask.ViewUser user) = ⊤

-- the requests that short ones say, with the facts that are kept
abbrev pub requests_from : List Facts → List ShortRequest → List Request
requests_from all shorts = map (request_from all) shorts

-- the place of each short request lies within the facts
abbrev pub HaveRequests : List Facts → List ShortRequest → Type 0
HaveRequests all shorts = AllByRecursion (HasRequest all) shorts

-- a short request says a request, with the facts that are kept
pub record SaysRequest (all : List Facts) (short : ShortRequest) (request : Request) : Type 0 where
  -- the place lies within the facts
  pub within : HasRequest all short
  -- the request is the one that is said
  pub is : request_from all short ≡ request

-- a list of such a length and capacity has room for so many more
abbrev pub HasListRoom : ℕ → ℕ → ℕ → Type 0
HasListRoom more len capacity = len + more ≤ capacity
