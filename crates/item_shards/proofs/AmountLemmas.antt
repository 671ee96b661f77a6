-- Bids of which the amounts tell which one is greater.
use Rattle.std.proofs.Common.{◌≡◌, ◌<◌, Bool, true, false, cond, Option, Some, None, ap, subst}
use Rattle.std.specs.{Bool.{OnTrue}, Cmp.{nat_cmp_is}, Option.{option_cmp}}
use Rattle.std.specs.{Ordering.{is_lt, ord_max}, declared.cmp.Ordering.TheVariants.{Less, Greater}}
use Rattle.auction_rows.specs.{Orders.{bid_cmp}, declared.requests.BidEntry.{BidEntry}}
use Rattle.top_records.specs.TopLaws.{IsPast}
use Rattle.item_shards.specs.Slices.{IsOutbid}

less_by_amount : (bid other : BidEntry) → bid.amount < other.amount → bid_cmp bid other ≡ Less
less_by_amount bid other less = rw (← nat_cmp_is bid.amount other.amount Less less)

greater_by_amount : (bid other : BidEntry) → bid.amount < other.amount → bid_cmp other bid ≡ Greater
greater_by_amount bid other less = rw (← nat_cmp_is other.amount bid.amount Greater less)

-- a bid that the greatest outbids leaves that
pub greatest_stays : (greatest by : Option BidEntry) (bid : BidEntry) → by ≡ greatest → IsOutbid bid by →
    ord_max (option_cmp bid_cmp) greatest (Some bid) ≡ greatest
greatest_stays greatest None bid is out = absurd out
greatest_stays greatest (Some other) bid is out =
    subst (λ (g : Option BidEntry). ord_max (option_cmp bid_cmp) g (Some bid) ≡ g) is
    (ap (λ r. cond (is_lt r) (Some other) (Some bid)) (less_by_amount bid other out))

-- a bid that the least of the listed ones outbids is past it
pub past_outbid : (bid : BidEntry) (least : Option BidEntry) → IsOutbid bid least → IsPast bid_cmp least bid
past_outbid bid None out = absurd out
past_outbid bid (Some other) out = greater_by_amount bid other out

-- what follows from what is said of `true`
pub then_on_true : {P Q : Type 0} (b : Bool) → OnTrue b P → (P → Q) → OnTrue b Q
then_on_true true p f = f p
then_on_true false p f = tt
