use Rattle.std.proofs.Common.{◌≡◌, true, false, Some, None, length, Result, Ok, Err, sym, ap, subst, ◌∙◌}
use Rattle.std.specs.Prelude.{is_err, IfErr}
use Rattle.auction_rows.specs.{Refusals.{number_refusal}, Requests.{is_view}, StoreReplies.{reply_of}}
use Rattle.auction_rows.specs.declared.requests.Request.{Request}
use Rattle.phase_transactions.proofs.AnswerLemmas.{reply_by, stores, unless_due}
use Rattle.phase_transactions.proofs.BegunLemmas.{begun_fails, fault_performed, item_first, needed_first}
use Rattle.phase_transactions.proofs.EmptyLemmas.{stored_performed, refused_untaken, hot_untaken}
use Rattle.phase_transactions.proofs.FirstLemmas.{begun_before}
use Rattle.phase_transactions.specs.{Performing.{HasCommitted, HasFailed}, Txns.{is_put_off, IsReplyTo}, WorkerFields.{state_in}}
use Rattle.phase_transactions.specs.Workers.{WorkerState, IsLawfulWorker}
use Rattle.phase_transactions.specs.declared.fault.PermitFault.TheVariants.{Memory}
use Rattle.phase_transactions.specs.inner.{Begun.{MayBegin, step_of}, Takens.{AreBack, AreHeldAll, held_in}}
use Rattle.phase_transactions.proofs.worker.Worker.store.Goals as goal
use Rattle.worker_slices.specs.Slicing.{hot_objects}

of_err : {T E : Type 0} {P : Type 0} (result : Result T E) → is_err result ≡ true → IfErr result (λ _. P) → P
of_err (Ok x) is p = absurd (cc)
of_err (Err e) is p = p

pub returns-in-Some : goal.returns-in-Some
returns-in-Some g c =
    let initial = g.N.PhaseName.initial in let old = c.args.self.now in let can = c.requires.can in
    let request = c.args.call.request.now in
    let refused : number_refusal old.opening request ≡ Some c.in-Some.reason = sym (ap (λ (w : WorkerState). number_refusal w.opening request) c.self.view_is) ∙ sym c.number_refusal.ensures ∙ c.in-Some.is in
    stored_performed initial old c.refuse.new.self request c.args.call.index can.idle c.refuse.result c.refuse.ensures
    (λ answer stored. refused_untaken old (length initial) c.args.call.index request c.in-Some.reason answer refused) can.goes

pub homes-homes-requires-clause-allowed : goal.homes-homes-requires-clause-allowed
homes-homes-requires-clause-allowed g c =
    let old = c.args.self.now in let request = c.args.call.request.now in
    subst (λ (r : Request). number_refusal old.opening r ≡ None) c.requires.asks (sym (ap (λ (w : WorkerState). number_refusal w.opening request) c.self.view_is) ∙ sym c.number_refusal.ensures ∙ c.in_default.is)

pub homes-homes-requires-clause-goes : goal.homes-homes-requires-clause-goes
homes-homes-requires-clause-goes g c = subst (λ (r : Request). is_put_off (hot_objects c.args.self.now.slices) r ≡ false) c.requires.asks c.requires.can.goes

pub store_hot-requires-clause-may : goal.store_hot-requires-clause-may
store_hot-requires-clause-may g c =
    let initial = g.N.PhaseName.initial in let old = c.args.self.now in
    subst (λ (r : Request). MayBegin (length initial) old r c.homes-homes.result) (sym c.requires.asks) c.homes-homes.ensures.may

pub store_hot-requires-clause-store : goal.store_hot-requires-clause-store
store_hot-requires-clause-store g c = subst (λ (r : Request). is_view r ≡ false) (sym c.requires.asks) (stores c.args.stored.now)

pub store_hot-requires-clause-due : goal.store_hot-requires-clause-due
store_hot-requires-clause-due g c =
    let old = c.args.self.now in
    subst (λ (r : Request). IsReplyTo old.counters old.journal.worker r (reply_of c.due-due.result)) (sym c.requires.asks) c.due-due.ensures

pub returns-in-None-None : goal.returns-in-None-None
returns-in-None-None g c =
    let initial = g.N.PhaseName.initial in let old = c.args.self.now in let can = c.requires.can in
    let request = c.args.call.request.now in let homes = c.homes-homes.result in
    let may = subst (λ (r : Request). MayBegin (length initial) old r homes) (sym c.requires.asks) c.homes-homes.ensures.may in
    stored_performed initial old c.store_hot.new.self request c.args.call.index can.idle c.store_hot.result c.store_hot.ensures
    (λ answer stored. hot_untaken old c.store_hot.new.self (length initial) c.args.call.index request homes answer may.allowed stored may.asked
    (sym c.shard.ensures ∙ c.in-None-None.is-0) (sym c.shard-2.ensures ∙ c.in-None-None.is-1)) can.goes

pub returns-in_err-begun : goal.returns-in_err-begun
returns-in_err-begun g c =
    let initial = g.N.PhaseName.initial in let old = c.args.self.now in
    let request = c.args.call.request.now in let homes = c.homes-homes.result in
    fault_performed initial old c.begin.new.self request c.args.call.index c.from_residual.result c.in_err-begun.field-0.0 c.from_residual.ensures.1
    (c.in_err-begun.ensures.full request (subst (λ (r : Request). MayBegin (length initial) old r homes) (sym c.requires.asks) c.homes-homes.ensures.may))

pub prepare-requires : goal.prepare-requires
prepare-requires g c =
    let initial = g.N.PhaseName.initial in let old = c.args.self.now in
    let request = c.args.call.request.now in let homes = c.homes-homes.result in
    let step = step_of initial g.N.PhaseName.workers c.args.boxes.now old.key homes in
    let its = c.in_ok-begun.ensures.begun request (subst (λ (r : Request). MayBegin (length initial) old r homes) (sym c.requires.asks) c.homes-homes.ensures.may) in
    record { begun = item_first step c.begin.new.self request c.in_ok-begun.begun its (subst IsLawfulWorker c.self-2.view_is c.self-2.invariant.lawful) }

pub put_back-requires : goal.put_back-requires
put_back-requires g c =
    let initial = g.N.PhaseName.initial in let old = c.args.self.now in
    let request = c.args.call.request.now in let homes = c.homes-homes.result in
    let its = c.in_ok-begun.ensures.begun request (subst (λ (r : Request). MayBegin (length initial) old r homes) (sym c.requires.asks) c.homes-homes.ensures.may) in
    let begun = begun_before c.in_ok-begun.begun c.prepare.new.begun c.prepare.ensures.same c.prepare.ensures.number its in
    subst (λ (s : WorkerState). AreHeldAll initial g.N.PhaseName.workers c.args.boxes.now s.key (held_in c.prepare.new.begun.taken)) (sym c.self-2.view_is) begun.held

pub returns-then-is_err : goal.returns-then-is_err
returns-then-is_err g c =
    let initial = g.N.PhaseName.initial in let old = c.args.self.now in
    let request = c.args.call.request.now in let homes = c.homes-homes.result in
    let step = step_of initial g.N.PhaseName.workers c.args.boxes.now old.key homes in
    let its = c.in_ok-begun.ensures.begun request (subst (λ (r : Request). MayBegin (length initial) old r homes) (sym c.requires.asks) c.homes-homes.ensures.may) in
    let begun = begun_before c.in_ok-begun.begun c.prepare.new.begun c.prepare.ensures.same c.prepare.ensures.number its in
    let back : WorkerState = record (state_in c.self-2.inside) { key = c.put_back.new.key } in
    subst (λ (s : WorkerState). HasFailed initial s back request Memory) (λ i. record (c.begin.ensures.worker i) { key = old.key })
    (begun_fails step c.begin.new.self request c.prepare.new.begun begun back
    (subst (λ (s : WorkerState). AreBack s.key c.put_back.new.key) c.self-2.view_is c.put_back.ensures)
    (of_err c.prepare.result (sym c.is_err.ensures.value ∙ c.if-is_err.true) c.prepare.ensures.refused)
    (λ i. record (c.self-2.view_is i) { key = c.put_back.new.key }))

pub put_store-requires-clause-begun : goal.put_store-requires-clause-begun
put_store-requires-clause-begun g c =
    let initial = g.N.PhaseName.initial in let old = c.args.self.now in
    let request = c.args.call.request.now in let homes = c.homes-homes.result in
    let its = c.in_ok-begun.ensures.begun request (subst (λ (r : Request). MayBegin (length initial) old r homes) (sym c.requires.asks) c.homes-homes.ensures.may) in
    (old.key, begun_before c.in_ok-begun.begun c.prepare.new.begun c.prepare.ensures.same c.prepare.ensures.number its)

pub refusal-refused-requires : goal.refusal-refused-requires
refusal-refused-requires g c =
    let initial = g.N.PhaseName.initial in let old = c.args.self.now in
    let request = c.args.call.request.now in let homes = c.homes-homes.result in
    let step = step_of initial g.N.PhaseName.workers c.args.boxes.now old.key homes in
    let its = c.in_ok-begun.ensures.begun request (subst (λ (r : Request). MayBegin (length initial) old r homes) (sym c.requires.asks) c.homes-homes.ensures.may) in
    let begun = begun_before c.in_ok-begun.begun c.prepare.new.begun c.prepare.ensures.same c.prepare.ensures.number its in
    record {
      homes = (length initial, begun.may.homes_are);
      there = λ item t needs at. needed_first step c.begin.new.self request c.prepare.new.begun begun item t needs at;
    }

pub put_store-requires-clause-answered : goal.put_store-requires-clause-answered
put_store-requires-clause-answered g c =
    let initial = g.N.PhaseName.initial in let old = c.args.self.now in
    let request = c.args.call.request.now in let homes = c.homes-homes.result in
    let its = c.in_ok-begun.ensures.begun request (subst (λ (r : Request). MayBegin (length initial) old r homes) (sym c.requires.asks) c.homes-homes.ensures.may) in
    let refused = c.refusal-refused.ensures in let w = c.begin.new.self in
    let told = subst (λ (r : Request). IsReplyTo w.counters w.journal.worker r (reply_of c.due.result)) (sym c.requires.asks) c.due.ensures in record {
      seen = refused.seen;
      saw = refused.saw;
      answered = reply_by w refused.seen request c.refusal-refused.result (reply_of c.reply_unless-reply.result) its.may.allowed refused.by
          (unless_due w request c.refusal-refused.result c.reply_unless-reply.result c.due.result c.reply_unless-reply.ensures told);
    }

pub returns : goal.returns
returns g c =
    let initial = g.N.PhaseName.initial in let old = c.args.self.now in
    let request = c.args.call.request.now in let homes = c.homes-homes.result in
    let reply = reply_of c.reply_unless-reply.result in
    let its = c.in_ok-begun.ensures.begun request (subst (λ (r : Request). MayBegin (length initial) old r homes) (sym c.requires.asks) c.homes-homes.ensures.may) in
    let begun = begun_before c.in_ok-begun.begun c.prepare.new.begun c.prepare.ensures.same c.prepare.ensures.number its in (
      reply,
      subst (λ (s : WorkerState). HasCommitted initial s c.put_store.new.self request c.args.call.index reply) (λ i. record (c.begin.ensures.worker i) { key = old.key })
          (c.put_store.ensures old.key begun),
    )
