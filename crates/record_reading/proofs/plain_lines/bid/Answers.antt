use Rattle.record_reading.proofs.{PlainFieldLemmas.{number_to_feed}, PlainLineLemmas.{bid_in_place}}
use Rattle.record_reading.proofs.WholeLineLemmas.{bid_alone, bid_line}
use Rattle.record_reading.proofs.plain_lines.bid.Goals as goal

pub returns-clause-asks : goal.returns-clause-asks
returns-clause-asks c =
    bid_in_place c.args.text.now c.args.at c.in_ok-bidder.bidder c.in_ok-bidder.at_item c.in_ok-item.item c.in_ok-item.at_amount c.in_ok-amount.amount
    c.in_ok-amount.at_time c.in_ok-time.time c.in_ok-time.next c.in_ok-bidder.ensures c.in_ok-item.ensures c.in_ok-amount.ensures
    (number_to_feed c.args.text.now c.in_ok-amount.at_time 64 c.in_ok-time.time c.in_ok-time.next c.in_ok-time.ensures)

pub returns-clause-alone : goal.returns-clause-alone
returns-clause-alone c =
    bid_alone c.args.text.now c.args.at c.in_ok-bidder.bidder c.in_ok-bidder.at_item c.in_ok-item.item c.in_ok-item.at_amount c.in_ok-amount.amount
    c.in_ok-amount.at_time c.in_ok-time.time c.in_ok-time.next c.in_ok-bidder.ensures c.in_ok-item.ensures c.in_ok-amount.ensures c.in_ok-time.ensures

pub returns-clause-line : goal.returns-clause-line
returns-clause-line c =
    bid_line c.args.text.now c.args.at c.in_ok-bidder.bidder c.in_ok-bidder.at_item c.in_ok-item.item c.in_ok-item.at_amount c.in_ok-amount.amount
    c.in_ok-amount.at_time c.in_ok-time.time c.in_ok-time.next c.in_ok-bidder.ensures c.in_ok-item.ensures c.in_ok-amount.ensures c.in_ok-time.ensures
