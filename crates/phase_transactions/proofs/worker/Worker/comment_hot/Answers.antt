use Rattle.std.proofs.Common.{◌≡◌, None, false, length, sym, ap, subst, ◌∙◌}
use Rattle.auction_rows.specs.{Refusals.{number_refusal}, Requests.{is_view}}
use Rattle.auction_rows.specs.StoreReplies.{reply_of}
use Rattle.auction_rows.specs.declared.requests.Request.{Request}
use Rattle.phase_transactions.proofs.AnswerLemmas.{stores}
use Rattle.phase_transactions.specs.{Txns.{IsReplyTo}, Workers.{WorkerState}}
use Rattle.phase_transactions.specs.inner.Begun.{MayBegin}
use Rattle.phase_transactions.proofs.worker.Worker.comment_hot.Goals as goal

pub homes-homes-requires-clause-allowed : goal.homes-homes-requires-clause-allowed
homes-homes-requires-clause-allowed g c =
    let old = c.args.self.now in let request = c.args.call.request.now in
    subst (λ (r : Request). number_refusal old.opening r ≡ None) c.requires.asks (sym (ap (λ (w : WorkerState). number_refusal w.opening request) c.self.view_is) ∙ sym c.number_refusal.ensures ∙ c.in_default.is)

pub store_hot-requires-clause-may : goal.store_hot-requires-clause-may
store_hot-requires-clause-may g c =
    let initial = g.N.PhaseName.initial in let old = c.args.self.now in
    subst (λ (r : Request). MayBegin (length initial) old r c.homes-homes.result) (sym c.requires.asks) c.homes-homes.ensures.may

pub store_hot-requires-clause-store : goal.store_hot-requires-clause-store
store_hot-requires-clause-store g c = subst (λ (r : Request). is_view r ≡ false) (sym c.requires.asks) (stores c.args.stored.now)

pub store_hot-requires-clause-due : goal.store_hot-requires-clause-due
store_hot-requires-clause-due g c =
    let old = c.args.self.now in
    subst (λ (r : Request). IsReplyTo old.counters old.journal.worker r (reply_of c.due-due.result)) (sym c.requires.asks) c.due-due.ensures
