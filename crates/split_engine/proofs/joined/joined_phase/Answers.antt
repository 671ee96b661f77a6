use Rattle.std.proofs.Common.{◌≡◌, ◌+◌, ℕ, List, length, get_or, ap, sym, ◌∙◌, subst, arith}
use Rattle.std.proofs.lemmas.List.{length-map}
use Rattle.split_engine.proofs.{Counts.{turn_room}, Ends.{finished_set, finished_whole}}
use Rattle.split_engine.proofs.{States.{listed, have_at, have_length, state_turned}, Works.{all_at}}
use Rattle.split_engine.specs.Serving.{lists, IsScript}
use Rattle.split_engine.specs.{declared.state.TheConstants.{MOST_COMMITS}, inner.Phases.{HasServed}}
use Rattle.split_engine.proofs.joined.joined_phase.Goals as goal

pub index_mut-requires : goal.index_mut-requires
index_mut-requires g c =
    let s = g.A.Application in let given = c.requires.state in
    let f = c.loop-worker.invariant.state given.0 given.1 given.2 given.3 given.4 in
    omega (
      arith,
      c.loop-worker-test.true,
      c.loop-worker.state.cursors.ok.0,
      have_length s.rules (length given.1) 0 (lists c.args.scripts.now) c.loop-worker.state.cursors.items c.loop-worker.state.so_far.history f.served,
      length-map c.args.scripts.now (λ v. v.items),
    )

pub take_turn-requires : goal.take_turn-requires
take_turn-requires g c =
    let s = g.A.Application in let given = c.requires.state in
    let f = c.loop-worker.invariant.state given.0 given.1 given.2 given.3 given.4 in
    let at = listed c.args.scripts.now c.loop-worker.worker c.index-scripts-worker.result c.loop-worker-test.true c.index-scripts-worker.is in
    let here : 0 + c.loop-worker.worker ≡ c.loop-worker.worker = omega arith in
    let left = turn_room s.rules s.fits given.0 given.1 (lists c.args.scripts.now) c.loop-worker.state.so_far.table.items c.loop-worker.state.so_far.history c.loop-worker.state.cursors.items
    c.loop-worker.worker c.index-scripts-worker.result.items c.index_mut.result.now MOST_COMMITS c.requires.total at.0 at.1 c.index_mut.ensures.value f in
    record {
      script = subst (λ (p : ℕ × List g.row.A-Request.Denot). IsScript s.rules p.0 p.1) (λ i. (sym f.size_is i, (sym at.1 ∙ sym c.deref-in-loop-worker.ensures.value) i))
          (all_at (IsScript s.rules (length given.1)) (lists c.args.scripts.now) c.loop-worker.worker c.index-scripts-worker.result.items at.0 given.3);
      served = subst (λ (p : ℕ × ℕ × List g.row.A-Request.Denot). HasServed s.rules p.0 p.1 p.2 c.index_mut.result.now c.loop-worker.state.so_far.history)
          (λ i. (sym f.size_is i, here i, sym c.deref-in-loop-worker.ensures.value i))
          (have_at s.rules (length given.1) 0 (lists c.args.scripts.now) c.loop-worker.state.cursors.items c.loop-worker.worker c.index-scripts-worker.result.items c.index_mut.result.now
          c.loop-worker.state.so_far.history at.0 at.1 c.index_mut.ensures.value f.served);
      room = omega (arith, left, ap length c.deref-in-loop-worker.ensures.value);
      fits = (given.0, given.2, f.fits);
    }

pub loop-worker-preserved : goal.loop-worker-preserved
loop-worker-preserved g c = record {
  ends = λ large.
      let s = g.A.Application in let given = c.requires.state in
      let f = c.loop-worker.invariant.state given.0 given.1 given.2 given.3 given.4 in
      let at = listed c.args.scripts.now c.loop-worker.worker c.index-scripts-worker.result c.loop-worker-test.true c.index-scripts-worker.is in
      let e = c.in_ok-take_turn.ensures.ends large in
      finished_set (lists c.args.scripts.now) c.loop-worker.state.cursors.items c.loop-worker.worker c.index-scripts-worker.result.items c.take_turn.new.cursor at.0 at.1
      (have_length s.rules (length given.1) 0 (lists c.args.scripts.now) c.loop-worker.state.cursors.items c.loop-worker.state.so_far.history f.served)
      (c.loop-worker.invariant.ends large) (e.0 ∙ ap length c.deref-in-loop-worker.ensures.value, e.1);
  state = λ n opened few all was.
      let s = g.A.Application in let f = c.loop-worker.invariant.state n opened few all was in
      let at = listed c.args.scripts.now c.loop-worker.worker c.index-scripts-worker.result c.loop-worker-test.true c.index-scripts-worker.is in
      state_turned s.rules s.fits n opened (lists c.args.scripts.now) c.loop-worker.state.so_far.table.items c.take_turn.new.so_far.table.items c.loop-worker.state.so_far.history c.take_turn.new.so_far.history
      c.loop-worker.state.cursors.items c.loop-worker.worker c.deref-in-loop-worker.result.now c.take_turn.new.cursor at.0
      (c.deref-in-loop-worker.ensures.value ∙ at.1 ∙ ap (λ d. get_or (lists c.args.scripts.now) c.loop-worker.worker d) (sym c.deref-in-loop-worker.ensures.value)) f c.in_ok-take_turn.ensures.turned;
}

pub returns-clause-ends : goal.returns-clause-ends
returns-clause-ends g c = λ large.
    let s = g.A.Application in let given = c.requires.state in
    let f = c.loop-worker.invariant.state given.0 given.1 given.2 given.3 given.4 in
    finished_whole (lists c.args.scripts.now) c.loop-worker.state.cursors.items c.loop-worker.worker
    (omega (arith, c.loop-worker-test.false, length-map c.args.scripts.now (λ v. v.items)))
    (have_length s.rules (length given.1) 0 (lists c.args.scripts.now) c.loop-worker.state.cursors.items c.loop-worker.state.so_far.history f.served)
    (c.loop-worker.invariant.ends large)

pub returns-clause-state : goal.returns-clause-state
returns-clause-state g c = λ n opened few all f. c.loop-worker.invariant.state n opened few all f
