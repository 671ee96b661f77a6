use Rattle.std.proofs.Common.{arith}
use Rattle.record_reading.proofs.{DigitLemmas.{more_behind}, PlainLineLemmas.{bid_in_place}}
use Rattle.record_reading.proofs.plain_lines.any_bid.Goals as goal

pub item_to_comma-requires-clause-within : goal.item_to_comma-requires-clause-within
item_to_comma-requires-clause-within c = more_behind _ _ _ _ _ c.requires.ends c.in_ok-bidder.ensures.there (λ e. omega (arith, e))

pub number_to-requires-clause-within : goal.number_to-requires-clause-within
number_to-requires-clause-within c = more_behind _ _ _ _ _ c.requires.ends c.in_ok-item.ensures.there (λ e. omega (arith, e))

pub last_number-requires-clause-within : goal.last_number-requires-clause-within
last_number-requires-clause-within c = more_behind _ _ _ _ _ c.requires.ends c.in_ok-amount.ensures.there (λ e. omega (arith, e))

pub returns : goal.returns
returns c =
    bid_in_place c.args.text.now c.args.at c.in_ok-bidder.bidder c.in_ok-bidder.at_item c.in_ok-item.item c.in_ok-item.at_amount c.in_ok-amount.amount
    c.in_ok-amount.at_time c.in_ok-time.time c.in_ok-time.next c.in_ok-bidder.ensures c.in_ok-item.ensures c.in_ok-amount.ensures c.in_ok-time.ensures
