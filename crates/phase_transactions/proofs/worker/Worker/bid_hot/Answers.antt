use Rattle.std.proofs.Common.{◌≡◌, Some, sym, ap, subst, ◌∙◌}
use Rattle.auction_rows.specs.Refusals.{number_refusal}
use Rattle.auction_rows.specs.declared.requests.Request.{Request}
use Rattle.request_scripts.specs.Scripts.{request_of}
use Rattle.phase_transactions.specs.Workers.{WorkerState}
use Rattle.phase_transactions.proofs.worker.Worker.bid_hot.Goals as goal

pub refuse-requires-clause-refused : goal.refuse-requires-clause-refused
refuse-requires-clause-refused g c =
    let bid = c.args.bid.now in
    subst (λ (r : Request). number_refusal c.args.self.now.opening r ≡ Some c.in-Some.reason) (sym c.requires.asks)
    (sym (ap (λ (w : WorkerState). number_refusal w.opening (request_of bid)) c.self.view_is) ∙ sym (c.bidder_refusal.ensures bid.item bid.amount bid.time) ∙ c.in-Some.is)

pub bid_home-home-requires : goal.bid_home-home-requires
bid_home-home-requires g c =
    let bid = c.args.bid.now in
    sym (ap (λ (w : WorkerState). number_refusal w.opening (request_of bid)) c.self.view_is) ∙ sym (c.bidder_refusal.ensures bid.item bid.amount bid.time) ∙ c.in_default.is
