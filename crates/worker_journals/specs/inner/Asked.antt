-- The requests of a journal's heads, where they lie.
use Rattle.std.specs.List.{AllByRecursion}
use Rattle.std.specs.Prelude.{◌≡◌, ℕ, ◌<◌, List, [], ◌∷◌, ◌++◌, Option, map, length, slice_get, unwrap_or}
use Rattle.auction_rows.specs.declared.requests.Request.{TheVariants.{ViewUser}, Request}
use Rattle.worker_journals.specs.declared.asked.Asked.{TheVariants.{Kept, Own}, Asked}
use Rattle.worker_journals.specs.declared.heads.Head.{Head}

-- a request that no head says
abbrev pub no_request : Request
no_request = ViewUser 0

-- the request of a script at a head's index
abbrev pub asked_at : List Request → Head → Request
asked_at script head = unwrap_or (slice_get script head.index) no_request

-- the requests of heads
abbrev pub requests_of : Asked → List Head → List Request
requests_of (Kept kept) heads = kept.requests
requests_of (Own script) heads = map (asked_at script) heads

-- the request of a head at a place, with an index
abbrev pub request_at : Asked → ℕ → ℕ → Option Request
request_at (Kept kept) place index = slice_get kept.requests place
request_at (Own script) place index = slice_get script index

-- there is such a request
abbrev pub HasRequestAt : Asked → ℕ → ℕ → Type 0
HasRequestAt (Kept kept) place index = place < length kept.requests
HasRequestAt (Own script) place index = index < length script

-- a head's index lies within a script
abbrev pub IsWithin : List Request → Head → Type 0
IsWithin script head = head.index < length script

-- there is a request for each head
abbrev pub HaveRequests : Asked → List Head → Type 0
HaveRequests (Kept kept) heads = length kept.requests ≡ length heads
HaveRequests (Own script) heads = AllByRecursion (IsWithin script) heads

-- for how many requests in all there is room: none is added to a script
abbrev pub room_of : Asked → ℕ
room_of (Kept kept) = kept.room
room_of (Own script) = 0

-- one more can be kept
abbrev pub CanKeep : Asked → Type 0
CanKeep (Kept kept) = length kept.requests < kept.room
CanKeep (Own script) = ⊥

-- the same with one request more
abbrev pub with_request : Asked → Request → Asked
with_request (Kept kept) request = Kept (record kept { requests = kept.requests ++ request ∷ [] })
with_request (Own script) request = Own script
