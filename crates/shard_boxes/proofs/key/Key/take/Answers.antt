use Rattle.std.proofs.Common.{◌<◌, ◌++◌, true, ap, sym, ◌∙◌, subst, arith, length}
use Rattle.shard_boxes.proofs.{BoxSteps.{plus_zero}, GrantLemmas.{history_by}}
use Rattle.shard_boxes.proofs.KeySteps.{key_after, seen_after, holds_after, read}
use Rattle.shard_boxes.specs.{Keys.{KeyState, SeatState, taking}, Lines.{IsShardHistory, lines_of}}
use Rattle.shard_boxes.specs.{Passes.{GrantState, start_of}, Seats.{own_of}, States.{state_of}}
use Rattle.shard_boxes.specs.declared.shard_box.Knowledge.{Knowledge}
use Rattle.shard_boxes.proofs.key.Key.take.Goals as goal

pub returns-clause-key : goal.returns-clause-key
returns-clause-key g c =
    let inside = c.self.inside in let grant = c.index_mut-grant.result.now in
    let lines = c.take.new.grant.knows.seen in
    let below : c.args.s < length inside.grants.items = omega (arith, inside.grants.ok.0, c.self.invariant.1, c.requires.known) in
    let knows = c.take.ensures.taken.view in
    key_after (λ t. record t { holds = true; seen = lines }) inside.worker c.args.s inside.grants.items grant c.take.new.grant c.args.self.now c.self.view_is below c.index_mut-grant.ensures.value c.take.ensures.place
    (λ i. record { holds = (knows i).holds; lines = own_of (knows i); seen = (knows i).seen })
    ∙ ap (taking c.args.self.now c.args.s) (sym (seen_after inside.worker c.args.s inside.grants.items c.take.new.grant below))

pub returns-clause-holds : goal.returns-clause-holds
returns-clause-holds g c =
    let inside = c.self.inside in
    let below : c.args.s < length inside.grants.items = omega (arith, inside.grants.ok.0, c.self.invariant.1, c.requires.known) in
    holds_after inside.worker c.args.s inside.grants.items c.take.new.grant below ∙ ap (λ (v : Knowledge). v.holds) c.take.ensures.taken.view

pub returns-clause-history : goal.returns-clause-history
returns-clause-history g c =
    let initial = g.N.PhaseName.initial in let workers = g.N.PhaseName.workers in
    let inside = c.self.inside in let grant = c.index_mut-grant.result.now in
    let at = c.index_mut-grant.ensures.value in let taken = c.take.ensures.taken in
    let below : c.args.s < length inside.grants.items = omega (arith, inside.grants.ok.0, c.self.invariant.1, c.requires.known) in
    let fit = c.self.invariant.2 c.args.s grant below in
    subst (λ lines. IsShardHistory initial workers c.args.s lines (state_of c.take.result)) (sym (seen_after inside.worker c.args.s inside.grants.items c.take.new.grant below))
    (history_by initial workers c.args.s grant.knows c.take.new.grant.knows.seen (state_of c.take.result) c.requires.known (c.requires.opened c.args.s c.requires.known)
    (ap (λ (l : GrantState). start_of l.knows) at ∙ fit.start_is) (ap (λ (l : GrantState). l.knows.workers) at ∙ fit.workers_are) taken.kept taken.state)

pub returns-clause-later : goal.returns-clause-later
returns-clause-later g c =
    let inside = c.self.inside in let grant = c.index_mut-grant.result.now in
    let taken = c.take.ensures.taken in
    let below : c.args.s < length inside.grants.items = omega (arith, inside.grants.ok.0, c.self.invariant.1, c.requires.known) in
    let seen = seen_after inside.worker c.args.s inside.grants.items c.take.new.grant below in
    let seat = read inside.worker inside.grants.items c.args.s grant c.args.self.now c.self.view_is below c.index_mut-grant.ensures.value in
    (taken.later.0, seen ∙ taken.later.1 ∙ ap (λ (t : SeatState). t.seen ++ taken.later.0) (sym seat))

pub returns-clause-own : goal.returns-clause-own
returns-clause-own g c =
    let inside = c.self.inside in let grant = c.index_mut-grant.result.now in
    let taken = c.take.ensures.taken in let at = c.index_mut-grant.ensures.value in
    let below : c.args.s < length inside.grants.items = omega (arith, inside.grants.ok.0, c.self.invariant.1, c.requires.known) in
    let fit = c.self.invariant.2 c.args.s grant below in
    let seen = seen_after inside.worker c.args.s inside.grants.items c.take.new.grant below in
    let seat = read inside.worker inside.grants.items c.args.s grant c.args.self.now c.self.view_is below at in
    let first = ap (λ (l : GrantState). l.knows.first) at ∙ fit.from ∙ ap (λ (k : KeyState). k.worker) c.self.view_is in
    let one : 0 < length grant.knows.own = omega (arith, ap (λ (l : GrantState). length l.knows.own) at, fit.as_many) in
    (λ i. lines_of (sym first i) (seen i)) ∙ ap (λ n. lines_of n c.take.new.grant.knows.seen) (plus_zero grant.knows.first) ∙ sym (taken.own 0 one) ∙ ap (λ (t : SeatState). t.lines) (sym seat)
