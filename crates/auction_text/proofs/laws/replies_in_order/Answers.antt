use Rattle.std.proofs.{Common.{ap}, lemmas.List.Sorted.{ranks_by}}
use Rattle.auction_rows.specs.declared.rows.Entry.{Entry}
use Rattle.auction_text.proofs.ReplyOrder.{precedence_total}
use Rattle.auction_text.proofs.SortLemmas.{permutation-sorted, sorted-already, sorted_from_up, ties-sorted, up-sorted}
use Rattle.auction_text.specs.{Order.{comes_before}, Replies.{lines, reply_line}}
use Rattle.auction_text.proofs.laws.replies_in_order.Goals as goal

pub returns-clause-same : goal.returns-clause-same
returns-clause-same c = permutation-sorted comes_before

pub returns-clause-sorted : goal.returns-clause-sorted
returns-clause-sorted c = λ entries.
    let order = ranks_by precedence_total (λ (e : Entry). e) in
    sorted_from_up comes_before order _ (up-sorted comes_before order entries)

pub returns-clause-stable : goal.returns-clause-stable
returns-clause-stable c = λ entries entry. ties-sorted comes_before (ranks_by precedence_total (λ (e : Entry). e)) entry entries

pub returns-clause-already : goal.returns-clause-already
returns-clause-already c = λ entries up.
    ap (lines reply_line) (sorted-already comes_before (ranks_by precedence_total (λ (e : Entry). e)) entries up)
