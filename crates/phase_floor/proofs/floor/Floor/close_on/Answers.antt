use Rattle.std.proofs.Common.{◌≡◌, ◌++◌, ◌+◌, Bool, List, map, length, sym, ap, ◌∙◌, subst, arith}
use Rattle.std.{proofs.lemmas.List.{length-map}, specs.List.{AllByRecursion}}
use Rattle.auction_rows.specs.declared.rows.Entry.{Entry}
use Rattle.shard_boxes.specs.{Closed.{AreSpent}, Keys.{BoxId, KeyState}, States.{state_of}}
use Rattle.worker_journals.proofs.AddedLemmas.{added_front, last_merged}
use Rattle.worker_journals.specs.{Histories.{HistoryView}, Journals.{IsJournalOf}}
use Rattle.worker_journals.specs.Merged.{AreByWorker, added}
use Rattle.closing_laws.specs.Phases.{journal_of}
use Rattle.phase_floor.proofs.Closings.{nothing_added, in_order, are_spent}
use Rattle.phase_floor.proofs.Cold.{all_kept, has_settled}
use Rattle.phase_floor.proofs.Leaving.{shards_one, slices_known, slices_can, reconciled, kept_left, leaves}
use Rattle.phase_floor.proofs.floor.Floor.close_on.Goals.{After-reconciled-shards}
use Rattle.phase_floor.specs.{Closings.{HasReconciled}, Floors.{FloorState, IsOpen}}
use Rattle.phase_floor.proofs.floor.Floor.close_on.Given as given
use Rattle.phase_floor.proofs.floor.Floor.close_on.Goals as goal
use Rattle.phase_permits.specs.Kinds.{IsEmptyIf}

pub of-requires : goal.of-requires
of-requires g c =
    let own = c.self.inside.counters.ok in
    omega (arith, c.requires.receipts.0, ap (λ (f : FloorState). length f.counters) c.self.view_is, own.0, own.1, c.args.receipts.ok.0)

pub add_phase_on-requires-clause-few : goal.add_phase_on-requires-clause-few
add_phase_on-requires-clause-few g c =
    let e = c.in_ok-journals.ensures in let receipts = c.args.receipts.items in
    let is_open = subst (IsOpen g.N.PhaseName.initial g.N.PhaseName.workers) c.self.view_is c.self.invariant.1 in
    omega (arith, ap length e.parts.journals_are, length-map receipts journal_of, c.requires.receipts.0, is_open.workers_are, is_open.kept.few_workers, c.in_ok-journals.field-0.journals.ok.0)

pub add_phase_on-requires-clause-by_worker : goal.add_phase_on-requires-clause-by_worker
add_phase_on-requires-clause-by_worker g c =
    let e = c.in_ok-journals.ensures in let initial = g.N.PhaseName.initial in let workers = g.N.PhaseName.workers in
    subst AreByWorker (sym e.parts.journals_are)
    (in_order initial workers c.args.self (subst (IsOpen initial workers) c.self.view_is c.self.invariant.1) c.args.receipts.items c.requires.receipts e.finished)

pub add_phase_on-requires-clause-asked : goal.add_phase_on-requires-clause-asked
add_phase_on-requires-clause-asked g c = λ scripts is.
    subst (AllByRecursion (IsJournalOf scripts.now)) (sym c.in_ok-journals.ensures.parts.journals_are) (c.requires.asked scripts is)

pub close_kept-given-requires : goal.close_kept-given-requires
close_kept-given-requires g c =
    let e = c.in_ok-journals.ensures in let initial = g.N.PhaseName.initial in let workers = g.N.PhaseName.workers in
    let spent = are_spent initial workers c.args.self (subst (IsOpen initial workers) c.self.view_is c.self.invariant.1) c.args.receipts.items c.requires.receipts e.finished in
    subst (λ (boxes : List BoxId). AreSpent boxes workers c.in_ok-journals.field-0.keys.items) (sym (ap (λ (f : FloorState). f.boxes) c.self.view_is))
    (subst (λ (keys : List KeyState). AreSpent c.args.self.boxes workers keys) (sym e.parts.keys_are) spent)

pub reconciled-shards-requires : goal.reconciled-shards-requires
reconciled-shards-requires g c =
    let initial = g.N.PhaseName.initial in let workers = g.N.PhaseName.workers in let receipts = c.args.receipts.items in
    let e = c.in_ok-journals.ensures in let h = c.in_ok-add_phase_on.ensures in let parts = c.in_ok-journals.field-0 in
    let is_open = subst (IsOpen initial workers) c.self.view_is c.self.invariant.1 in
    let same = all_kept g.K.Kind.IS_JOINED c.args.self receipts parts.slices.items (subst (IsEmptyIf g.K.Kind.IS_JOINED) (ap (λ (f : FloorState). f.stocks) c.self.view_is) c.self.invariant.0) c.requires.receipts e.slices in
    let shards = map state_of c.close_kept-given.result.0.items in let closed = c.close_kept-given.ensures.closed in
    record {
      shards = shards_one initial workers c.args.self is_open receipts c.requires.receipts e.finished shards c.args.history.now c.add_phase_on.new.self parts.journals.items parts.stashes.items parts.keys.items parts.counters.items parts.slices.items e.parts same h.added h.lawful closed;
      known = slices_known initial workers c.args.self is_open receipts c.requires.receipts e.finished shards c.args.history.now c.add_phase_on.new.self parts.journals.items parts.stashes.items parts.keys.items parts.counters.items parts.slices.items e.parts same h.added h.lawful closed;
      can = slices_can initial workers c.args.self is_open receipts c.requires.receipts e.finished shards c.args.history.now c.add_phase_on.new.self parts.journals.items parts.stashes.items parts.keys.items parts.counters.items parts.slices.items e.parts same h.added h.lawful closed;
    }

module _ (g : given.Over) (c : After-reconciled-shards g) where
  is_open : IsOpen g.N.PhaseName.initial g.N.PhaseName.workers c.args.self
  is_open = subst (IsOpen g.N.PhaseName.initial g.N.PhaseName.workers) c.self.view_is c.self.invariant.1

  opening_is : c.self.inside.opening ≡ c.args.self.opening
  opening_is = ap (λ (f : FloorState). f.opening) c.self.view_is

  limit_is : c.self.inside.limit ≡ c.args.self.limit
  limit_is = ap (λ (f : FloorState). f.limit) c.self.view_is

  abbrev entries : List Entry
  entries = added c.args.history.now.entries c.add_phase_on.new.self.entries

  -- the phase has reconciled
  did : HasReconciled g.N.PhaseName.initial c.args.self c.args.receipts.items (map state_of c.reconciled-shards.result) entries
  did =
      let receipts = c.args.receipts.items in let e = c.in_ok-journals.ensures in let h = c.in_ok-add_phase_on.ensures in let parts = c.in_ok-journals.field-0 in
      let same = all_kept g.K.Kind.IS_JOINED c.args.self receipts parts.slices.items (subst (IsEmptyIf g.K.Kind.IS_JOINED) (ap (λ (f : FloorState). f.stocks) c.self.view_is) c.self.invariant.0) c.requires.receipts e.slices in
      reconciled g.N.PhaseName.initial g.N.PhaseName.workers c.args.self is_open receipts c.requires.receipts e.finished (map state_of c.close_kept-given.result.0.items) c.args.history.now c.add_phase_on.new.self parts.journals.items parts.stashes.items parts.keys.items
      parts.counters.items parts.slices.items e.parts same h.added h.lawful c.close_kept-given.ensures.closed (map state_of c.reconciled-shards.result) c.reconciled-shards.ensures

pub invariant_of-state : goal.invariant_of-state
invariant_of-state g c =
    let after = (goal.at.invariant_of-state g c).After-reconciled-shards in
    let e = c.in_ok-journals.ensures in
    kept_left g.N.PhaseName.initial g.N.PhaseName.workers c.args.self (is_open g after) c.args.receipts.items c.requires.receipts e.finished (entries g after) c.reconciled-shards.result (did g after)
    c.self.inside.opening c.self.inside.limit c.in_ok-journals.field-0.counters.items (opening_is g after) (limit_is g after) e.parts.counters_are

pub returns-clause-closed : goal.returns-clause-closed
returns-clause-closed g c = did g (goal.at.returns-clause-closed g c).After-reconciled-shards

pub returns-clause-joined : goal.returns-clause-joined
returns-clause-joined g c joined =
    let after = (goal.at.returns-clause-joined g c).After-reconciled-shards in
    let cold = ap (λ (f : FloorState). f.stocks) (sym c.self.view_is) ∙ subst (λ (b : Bool). IsEmptyIf b c.self.inside.stocks.items) joined c.self.invariant.0 in
    has_settled g.N.PhaseName.initial c.args.self c.args.receipts.items (map state_of c.reconciled-shards.result) (entries g after) cold c.requires.receipts (did g after)

pub returns-clause-leaves : goal.returns-clause-leaves
returns-clause-leaves g c =
    let after = (goal.at.returns-clause-leaves g c).After-reconciled-shards in
    let e = c.in_ok-journals.ensures in let parts = c.in_ok-journals.field-0 in
    leaves g.N.PhaseName.initial g.N.PhaseName.workers c.args.self (is_open g after) c.args.receipts.items c.requires.receipts e.finished (entries g after) c.reconciled-shards.result (did g after)
    c.self.inside.opening c.self.inside.limit parts.counters.items (opening_is g after) (limit_is g after) e.parts.counters_are
    (c.self.inside.phase + 1) parts.stashes.items (ap (λ (f : FloorState). f.phase + 1) c.self.view_is) e.parts.stashes_are

pub returns-clause-history : goal.returns-clause-history
returns-clause-history g c = added_front c.args.history.now c.add_phase_on.new.self c.in_ok-journals.field-0.journals.items c.in_ok-add_phase_on.ensures.added

pub returns-clause-last : goal.returns-clause-last
returns-clause-last g c = last_merged c.args.history.now c.add_phase_on.new.self c.in_ok-journals.field-0.journals.items c.in_ok-add_phase_on.ensures.added

pub returns-in_err-journals-clause-history : goal.returns-in_err-journals-clause-history
returns-in_err-journals-clause-history g c = nothing_added c.args.history.now.entries

pub returns-in_err-reserve-clause-history : goal.returns-in_err-reserve-clause-history
returns-in_err-reserve-clause-history g c = nothing_added c.args.history.now.entries

pub returns-in_err-add_phase_on-clause-history : goal.returns-in_err-add_phase_on-clause-history
returns-in_err-add_phase_on-clause-history g c =
    let old = c.args.history.now.entries in let same = ap (λ (h : HistoryView). h.entries) c.in_err-add_phase_on.ensures.refused in
    same ∙ nothing_added old ∙ ap (λ new. old ++ added old new) (sym same)
