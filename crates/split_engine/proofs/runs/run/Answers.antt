use Rattle.std.proofs.{Common.{length, ap, sym, ◌∙◌, subst, arith}, lemmas.List.{length-map}}
use Rattle.split_engine.proofs.{Counts.{are_scripts}, Ends.{state_at_first}, States.{have_length}}
use Rattle.split_engine.specs.{Serving.{lists}, inner.Phases.{AllFinished}}
use Rattle.split_engine.proofs.runs.run.Goals as goal

pub loop-round-init : goal.loop-round-init
loop-round-init g c = let s = g.A.Application in let e = c.in_ok-cursors.ensures in record {
  state = λ n few fits. state_at_first s.rules s.fits n c.args.table.items (lists c.args.scripts.now) c.new-2.result c.in_ok-cursors.cursors.items
      (e.0 ∙ sym (length-map c.args.scripts.now (λ v. v.items))) e.1 c.new-2.ensures fits;
  hot = omega (arith, c.in_ok-phasing.ensures, c.len.ensures, c.args.table.ok.0);
}

pub is_finished-requires : goal.is_finished-requires
is_finished-requires g c =
    let s = g.A.Application in let fits = c.requires.fits in let f = c.loop-round.invariant.state fits.0 fits.1 fits.2 in record {
      len = ap length c.deref.ensures.value
          ∙ have_length s.rules (length c.args.table.items) 0 (lists c.args.scripts.now) c.loop-round.state.cursors.items c.loop-round.state.so_far.history f.served
          ∙ length-map c.args.scripts.now (λ v. v.items);
    }

pub finish-requires : goal.finish-requires
finish-requires g c = subst (λ ds. AllFinished (lists c.args.scripts.now) ds) c.deref.ensures.value (c.is_finished.ensures.0 c.if-is_finished.true)

pub returns-then-is_finished-clause-outcome : goal.returns-then-is_finished-clause-outcome
returns-then-is_finished-clause-outcome g c =
    let fits = c.requires.fits in
    (c.finish.ensures fits.0 c.args.table.items (c.loop-round.invariant.state fits.0 fits.1 fits.2)).outcome

pub perform_round-requires-clause-state : goal.perform_round-requires-clause-state
perform_round-requires-clause-state g c =
    let fits = c.requires.fits in
    λ sent lives. (fits.0, c.args.table.items, fits.1, (are_scripts g.A.Application.rules (length c.args.table.items) (lists c.args.scripts.now) c.requires.scripts), c.loop-round.invariant.state fits.0 fits.1 fits.2)

pub loop-round-preserved : goal.loop-round-preserved
loop-round-preserved g c = record {
  state = λ n few fits. c.in_ok-state.ensures.state n c.args.table.items few (are_scripts g.A.Application.rules (length c.args.table.items) (lists c.args.scripts.now) c.requires.scripts) (c.loop-round.invariant.state n few fits);
  hot = c.perform_round.ensures.hot ∙ c.loop-round.invariant.hot;
}

pub perform_round-requires-clause-hot : goal.perform_round-requires-clause-hot
perform_round-requires-clause-hot g c =
    let fits = c.requires.fits in let f = c.loop-round.invariant.state fits.0 fits.1 fits.2 in
    λ sent lives. c.loop-round.invariant.hot ∙ sym f.size_is

pub joined_phase-requires-clause-state : goal.joined_phase-requires-clause-state
joined_phase-requires-clause-state g c =
    let fits = c.requires.fits in
    (fits.0, c.args.table.items, fits.1, (are_scripts g.A.Application.rules (length c.args.table.items) (lists c.args.scripts.now) c.requires.scripts), c.loop-round.invariant.state fits.0 fits.1 fits.2)

pub finish-requires-2 : goal.finish-requires-2
finish-requires-2 g c = c.in_ok-joined_phase.ensures.ends (omega arith)

pub returns-clause-outcome : goal.returns-clause-outcome
returns-clause-outcome g c =
    let fits = c.requires.fits in
    (c.finish-2.ensures fits.0 c.args.table.items
    (c.in_ok-joined_phase.ensures.state fits.0 c.args.table.items fits.1 (are_scripts g.A.Application.rules (length c.args.table.items) (lists c.args.scripts.now) c.requires.scripts) (c.loop-round.invariant.state fits.0 fits.1 fits.2))).outcome

pub perform_round-requires-clause-few : goal.perform_round-requires-clause-few
perform_round-requires-clause-few g c = λ sent lives. let few = c.requires.scripts.few in omega (arith, few, length-map c.args.scripts.now (λ v. v.items))

pub perform_round-requires-clause-total : goal.perform_round-requires-clause-total
perform_round-requires-clause-total g c = λ sent lives. let few = c.requires.scripts.few in omega (arith, few)

pub joined_phase-requires-clause-few : goal.joined_phase-requires-clause-few
joined_phase-requires-clause-few g c = let few = c.requires.scripts.few in omega (arith, few, length-map c.args.scripts.now (λ v. v.items))

pub joined_phase-requires-clause-total : goal.joined_phase-requires-clause-total
joined_phase-requires-clause-total g c = let few = c.requires.scripts.few in omega (arith, few)

pub returns-then-is_finished-clause-fits : goal.returns-then-is_finished-clause-fits
returns-then-is_finished-clause-fits g c n few fits = (c.finish.ensures n c.args.table.items (c.loop-round.invariant.state n few fits)).fits

pub returns-clause-fits : goal.returns-clause-fits
returns-clause-fits g c n few fits =
    (c.finish-2.ensures n c.args.table.items
    (c.in_ok-joined_phase.ensures.state n c.args.table.items few (are_scripts g.A.Application.rules (length c.args.table.items) (lists c.args.scripts.now) c.requires.scripts) (c.loop-round.invariant.state n few fits))).fits

pub returns-then-is_finished-clause-count : goal.returns-then-is_finished-clause-count
returns-then-is_finished-clause-count g c =
    let fits = c.requires.fits in
    (c.finish.ensures fits.0 c.args.table.items (c.loop-round.invariant.state fits.0 fits.1 fits.2)).as_many

pub returns-clause-count : goal.returns-clause-count
returns-clause-count g c =
    let fits = c.requires.fits in
    (c.finish-2.ensures fits.0 c.args.table.items
    (c.in_ok-joined_phase.ensures.state fits.0 c.args.table.items fits.1 (are_scripts g.A.Application.rules (length c.args.table.items) (lists c.args.scripts.now) c.requires.scripts) (c.loop-round.invariant.state fits.0 fits.1 fits.2))).as_many

pub returns-then-is_finished-clause-len : goal.returns-then-is_finished-clause-len
returns-then-is_finished-clause-len g c =
    let fits = c.requires.fits in
    (c.finish.ensures fits.0 c.args.table.items (c.loop-round.invariant.state fits.0 fits.1 fits.2)).size_is

pub returns-clause-len : goal.returns-clause-len
returns-clause-len g c =
    let fits = c.requires.fits in
    (c.finish-2.ensures fits.0 c.args.table.items
    (c.in_ok-joined_phase.ensures.state fits.0 c.args.table.items fits.1 (are_scripts g.A.Application.rules (length c.args.table.items) (lists c.args.scripts.now) c.requires.scripts) (c.loop-round.invariant.state fits.0 fits.1 fits.2))).size_is
