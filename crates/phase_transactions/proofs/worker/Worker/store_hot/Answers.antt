use Rattle.std.proofs.Common.{◌≡◌, ◌≤◌, suc, length, subst}
use Rattle.item_shards.specs.CommitNumbers.{last_number}
use Rattle.phase_transactions.proofs.AnswerLemmas.{hot_stored, hot_answered, full_stored, reply_by, unless_due, written_at}
use Rattle.phase_transactions.specs.Workers.{WorkerState}
use Rattle.phase_transactions.proofs.worker.Worker.store_hot.Goals as goal
use Rattle.auction_rows.specs.StoreReplies.{reply_of}

pub add_store-requires-clause-home : goal.add_store-requires-clause-home
add_store-requires-clause-home g c =
    written_at c.args.self.now c.args.call.request.now c.args.homes.now (length g.N.PhaseName.initial, c.requires.may.homes_are)

pub returns : goal.returns
returns g c =
    let w = c.args.self.now in let request = c.args.call.request.now in let may = c.requires.may in
    let reply = reply_of c.reply_unless-reply.result in let refused = c.refusal_with-refused.result in
    let told = unless_due w request refused c.reply_unless-reply.result c.args.due c.reply_unless-reply.ensures c.requires.due in
    hot_stored w c.add_store.new.self c.in_ok-number.number c.args.call.index request reply
    (λ shards. hot_answered w shards (length g.N.PhaseName.initial) c.args.call.index request c.args.homes.now reply c.fixed.result c.requires.store may.goes may.homes_are c.requires.hot c.fixed.ensures
    (reply_by w c.fixed.result request refused reply may.allowed c.refusal_with-refused.ensures told))
    (subst (λ (s : WorkerState). c.in_ok-number.number ≡ suc s.clock) c.self.view_is c.in_ok-number.ensures.number) c.in_ok-number.ensures.within c.add_store.ensures

pub returns-in_err-number : goal.returns-in_err-number
returns-in_err-number g c =
    full_stored c.args.self.now c.args.call.request.now c.args.call.index c.from_residual.result c.in_err-number.field-0.0 c.from_residual.ensures.1 c.in_err-number.ensures.fault
    (subst (λ (s : WorkerState). last_number ≤ s.clock) c.self.view_is c.in_err-number.ensures.full)
