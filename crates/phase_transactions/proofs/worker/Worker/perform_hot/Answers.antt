use Rattle.std.proofs.Common.{sym, ap, subst, ◌∙◌}
use Rattle.auction_rows.specs.declared.requests.Request.{Request}
use Rattle.worker_slices.specs.Homes.{IsHotStore}
use Rattle.phase_transactions.proofs.AnswerLemmas.{none_if_full, same_if_none, stored_if_some}
use Rattle.phase_transactions.specs.{Performing.{hot_request}}
use Rattle.phase_transactions.specs.inner.Storing.{HasStoredOrIsFull}
use Rattle.phase_transactions.proofs.worker.Worker.perform_hot.Goals as goal

pub bid_hot-requires-clause-asks : goal.bid_hot-requires-clause-asks
bid_hot-requires-clause-asks g c = c.bid_request.ensures

pub bid_hot-requires-clause-hot : goal.bid_hot-requires-clause-hot
bid_hot-requires-clause-hot g c =
    subst (λ (r : Request). IsHotStore c.args.self.now.slices r) (ap hot_request c.in-Bid.is ∙ sym c.bid_request.ensures) c.requires.hot

pub returns-in-Bid : goal.returns-in-Bid
returns-in-Bid g c =
    let old = c.args.self.now in let new = c.bid_hot.new.self in
    let is = c.bid_request.ensures ∙ sym (ap hot_request c.in-Bid.is) in
    let stored = subst (λ (r : Request). HasStoredOrIsFull old new r c.args.index c.bid_hot.result) is c.bid_hot.ensures in
    record {
      none = rw c.ok.ensures.value (none_if_full _ _ _ _ c.bid_hot.result stored);
      unchanged = rw c.ok.ensures.value (same_if_none _ _ _ _ c.bid_hot.result stored);
      stored = rw c.ok.ensures.value (stored_if_some _ _ _ _ c.bid_hot.result stored);
    }

pub returns-in-Comment : goal.returns-in-Comment
returns-in-Comment g c =
    let old = c.args.self.now in let new = c.comment_hot.new.self in
    let is = sym (ap hot_request c.in-Comment.is) in
    let stored = subst (λ (r : Request). HasStoredOrIsFull old new r c.args.index c.comment_hot.result) is c.comment_hot.ensures in
    record {
      none = rw c.ok-in-Comment.ensures.value (none_if_full _ _ _ _ c.comment_hot.result stored);
      unchanged = rw c.ok-in-Comment.ensures.value (same_if_none _ _ _ _ c.comment_hot.result stored);
      stored = rw c.ok-in-Comment.ensures.value (stored_if_some _ _ _ _ c.comment_hot.result stored);
    }
