-- What a script gives of its requests.
use Rattle.std.specs.Prelude.{ℕ, List, [], Option, Some, None, slice_get, unwrap_or}
use Rattle.auction_rows.specs.declared.requests.Request.{TheVariants.{StoreBid}, Request}
use Rattle.request_scripts.specs.declared.script.BidRequest.{BidRequest}

-- a bid that a script asks for, as a request
abbrev pub request_of : BidRequest → Request
request_of bid = StoreBid bid.bidder bid.item bid.amount bid.time

-- a request, if it is a bid
abbrev pub only_bid : Request → Option Request
only_bid (StoreBid bidder item amount time) = Some (StoreBid bidder item amount time)
only_bid request = None

-- a worker's script, empty for a worker that there isn't
abbrev pub script_at : List (List Request) → ℕ → List Request
script_at scripts worker = unwrap_or (slice_get scripts worker) []
