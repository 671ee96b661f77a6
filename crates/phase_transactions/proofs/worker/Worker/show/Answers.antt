use Rattle.std.proofs.Common.{◌≡◌, Some, None, false, length, sym, ap, subst, ◌∙◌}
use Rattle.auction_rows.specs.Refusals.{number_refusal}
use Rattle.auction_rows.specs.declared.{requests.Request.{TheVariants.{ViewItem}, Request}, replies.Reply.Reply}
use Rattle.item_shards.specs.declared.shard.acts.Look.TheVariants as look
use Rattle.worker_slices.specs.Slicing.{hot_objects}
use Rattle.phase_transactions.proofs.BegunLemmas.{fault_performed}
use Rattle.phase_transactions.proofs.EmptyLemmas.{stored_performed, refused_untaken}
use Rattle.phase_transactions.proofs.ViewLemmas.{asks_view, can_view}
use Rattle.phase_transactions.specs.Performing.{HasCommittedSome, HaveOpening}
use Rattle.phase_transactions.specs.{Txns.{is_put_off}, Workers.{WorkerState}}
use Rattle.phase_transactions.specs.inner.Asking.{homes_viewed, view_request}
use Rattle.phase_transactions.specs.inner.{Begun.{CanView, MayBeginOn, step_of}, Viewing.{IsShownBy}}
use Rattle.phase_transactions.proofs.worker.Worker.show.Goals as goal

pub returns-in-Some : goal.returns-in-Some
returns-in-Some g c =
    let initial = g.N.PhaseName.initial in let old = c.args.self.now in
    let request = c.args.call.request.now in
    let refused : number_refusal old.opening request ≡ Some c.in-Some.reason = sym (ap (λ (w : WorkerState). number_refusal w.opening request) c.self.view_is) ∙ sym c.number_refusal.ensures ∙ c.in-Some.is in
    stored_performed initial old c.refuse.new.self request c.args.call.index c.requires.can.idle c.refuse.result c.refuse.ensures
    (λ answer stored. refused_untaken old (length initial) c.args.call.index request c.in-Some.reason answer refused) c.requires.can.goes

pub shard_viewed-shard-requires-clause-allowed : goal.shard_viewed-shard-requires-clause-allowed
shard_viewed-shard-requires-clause-allowed g c =
    let old = c.args.self.now in let request = c.args.call.request.now in
    subst (λ (r : Request). number_refusal old.opening r ≡ None) c.requires.view (sym (ap (λ (w : WorkerState). number_refusal w.opening request) c.self.view_is) ∙ sym c.number_refusal.ensures ∙ c.in_default.is)

pub shard_viewed-shard-requires-clause-goes : goal.shard_viewed-shard-requires-clause-goes
shard_viewed-shard-requires-clause-goes g c = subst (λ (r : Request). is_put_off (hot_objects c.args.self.now.slices) r ≡ false) c.requires.view c.requires.can.goes

pub returns-in_err-one : goal.returns-in_err-one
returns-in_err-one g c =
    let initial = g.N.PhaseName.initial in let old = c.args.self.now in
    let request = c.args.call.request.now in let shard = c.shard_viewed-shard.result in
    let homes = homes_viewed c.args.viewed shard in
    fault_performed initial old c.begin_one.new.self request c.args.call.index c.from_residual.result c.in_err-one.field-0.0 c.from_residual.ensures.1
    (c.in_err-one.ensures.full request homes (subst (λ (r : Request). MayBeginOn (length initial) old r homes shard) (sym c.requires.view) c.shard_viewed-shard.ensures.may))

pub item_on-seen-requires : goal.item_on-seen-requires
item_on-seen-requires g c =
    let initial = g.N.PhaseName.initial in let old = c.args.self.now in
    let request = c.args.call.request.now in let shard = c.shard_viewed-shard.result in
    let homes = homes_viewed c.args.viewed shard in
    let step = step_of initial g.N.PhaseName.workers c.args.boxes.now old.key homes in
    let its = c.in_ok-one.ensures.begun request homes (subst (λ (r : Request). MayBeginOn (length initial) old r homes shard) (sym c.requires.view) c.shard_viewed-shard.ensures.may) in
    let openings = subst (HaveOpening initial) (sym (ap (λ (s : WorkerState). s.opening) c.begin_one.ensures.worker)) c.requires.can.opened in
    subst (λ (r : Request). CanView c.in_ok-one.one.held.shard r) (c.requires.view ∙ ap view_request c.in-Item.is)
    (can_view step c.begin_one.new.self request c.in_ok-one.one its (asks_view c.args.viewed c.requires.view) openings)

pub put_view-requires-clause-view : goal.put_view-requires-clause-view
put_view-requires-clause-view g c = asks_view c.args.viewed c.requires.view

pub put_view-requires-clause-shown : goal.put_view-requires-clause-shown
put_view-requires-clause-shown g c =
    let shard = c.in_ok-one.one.held.shard in let item = c.in-Item.item in
    let is : c.args.call.request.now ≡ ViewItem item = c.requires.view ∙ ap view_request c.in-Item.is in
    subst (λ (r : Request). IsShownBy shard r (look.Item item) c.of_item.result) (sym is)
    (subst (λ (reply : Reply). IsShownBy shard (ViewItem item) (look.Item item) reply) (sym c.of_item.ensures) c.item_on-seen.ensures)

pub put_view-requires-clause-begun : goal.put_view-requires-clause-begun
put_view-requires-clause-begun g c =
    let initial = g.N.PhaseName.initial in let old = c.args.self.now in
    let request = c.args.call.request.now in let shard = c.shard_viewed-shard.result in
    let homes = homes_viewed c.args.viewed shard in
    let its = c.in_ok-one.ensures.begun request homes (subst (λ (r : Request). MayBeginOn (length initial) old r homes shard) (sym c.requires.view) c.shard_viewed-shard.ensures.may) in
    (old.key, (homes, its))

pub returns-in-Item : goal.returns-in-Item
returns-in-Item g c =
    let initial = g.N.PhaseName.initial in let old = c.args.self.now in
    let request = c.args.call.request.now in let shard = c.shard_viewed-shard.result in
    let homes = homes_viewed c.args.viewed shard in
    let its = c.in_ok-one.ensures.begun request homes (subst (λ (r : Request). MayBeginOn (length initial) old r homes shard) (sym c.requires.view) c.shard_viewed-shard.ensures.may) in
    subst (λ (s : WorkerState). HasCommittedSome initial s c.put_view.new.self request c.args.call.index) (λ i. record (c.begin_one.ensures.worker i) { key = old.key }) (c.put_view.ensures old.key (homes, its))

pub show_whole-requires-clause-can : goal.show_whole-requires-clause-can
show_whole-requires-clause-can g c =
    let initial = g.N.PhaseName.initial in let old = c.args.self.now in
    let request = c.args.call.request.now in let shard = c.shard_viewed-shard.result in
    let homes = homes_viewed c.args.viewed shard in
    let step = step_of initial g.N.PhaseName.workers c.args.boxes.now old.key homes in
    let its = c.in_ok-one.ensures.begun request homes (subst (λ (r : Request). MayBeginOn (length initial) old r homes shard) (sym c.requires.view) c.shard_viewed-shard.ensures.may) in
    let openings = subst (HaveOpening initial) (sym (ap (λ (s : WorkerState). s.opening) c.begin_one.ensures.worker)) c.requires.can.opened in
    can_view step c.begin_one.new.self request c.in_ok-one.one its (asks_view c.args.viewed c.requires.view) openings

pub show_whole-requires-clause-begun : goal.show_whole-requires-clause-begun
show_whole-requires-clause-begun g c =
    let initial = g.N.PhaseName.initial in let old = c.args.self.now in
    let request = c.args.call.request.now in let shard = c.shard_viewed-shard.result in
    let homes = homes_viewed c.args.viewed shard in
    let its = c.in_ok-one.ensures.begun request homes (subst (λ (r : Request). MayBeginOn (length initial) old r homes shard) (sym c.requires.view) c.shard_viewed-shard.ensures.may) in
    (old.key, (homes, its))

pub returns : goal.returns
returns g c =
    let initial = g.N.PhaseName.initial in let old = c.args.self.now in
    let request = c.args.call.request.now in let shard = c.shard_viewed-shard.result in
    let homes = homes_viewed c.args.viewed shard in
    let its = c.in_ok-one.ensures.begun request homes (subst (λ (r : Request). MayBeginOn (length initial) old r homes shard) (sym c.requires.view) c.shard_viewed-shard.ensures.may) in
    subst (λ (s : WorkerState). HasCommittedSome initial s c.show_whole.new.self request c.args.call.index) (λ i. record (c.begin_one.ensures.worker i) { key = old.key }) (c.show_whole.ensures old.key (homes, its))
