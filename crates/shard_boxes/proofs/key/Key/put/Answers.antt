use Rattle.std.proofs.Common.{ℕ, ◌<◌, List, sym, ap, ◌∙◌, subst, arith, length}
use Rattle.shard_boxes.proofs.{BoxSteps.{length-with_first}, GrantLemmas.{place_is}}
use Rattle.shard_boxes.proofs.{KeySteps.{read, key_after, put_seat_is}, Sweeps.{each_set}}
use Rattle.shard_boxes.specs.inner.Passing.{MayPut}
use Rattle.shard_boxes.specs.Keys.{SeatState, KeyState, seat_at, with_seat, put_seat}
use Rattle.shard_boxes.specs.{Lines.{Line, after_lines}, Passes.{GrantState, start_of}}
use Rattle.shard_boxes.specs.{Seats.{IsFor}, States.{ShardState, state_of}}
use Rattle.shard_boxes.proofs.key.Key.put.Goals as goal

pub put-requires : goal.put-requires
put-requires g c =
    let inside = c.self.inside in let grants = inside.grants.items in
    let grant = c.index_mut-grant.result.now in
    let below : c.args.number < length grants = subst (λ n. c.args.number < n) (sym (sym inside.grants.ok.0 ∙ c.self.invariant.1)) c.requires.known in
    let at = c.index_mut-grant.ensures.value in
    let start = ap (λ (l : GrantState). start_of l.knows) at ∙ (c.self.invariant.2 c.args.number grant below).start_is in
    let seat = read inside.worker grants c.args.number grant c.args.self.now c.self.view_is below at in
    record {
      place = place_is grants c.args.self.now.boxes c.args.number grant c.args.shard_box.now (ap (λ (x : KeyState). x.boxes) c.self.view_is) below at c.requires.place;
      holds = ap (λ (t : SeatState). t.holds) (sym seat) ∙ c.requires.holds;
      may = subst (λ (y : ShardState × List (ℕ × Line)). MayPut (after_lines y.0 y.1) (state_of c.args.shard) g.L.LineName.line) (λ i. (sym start i, (seat i).seen)) c.requires.may;
    }

pub returns : goal.returns
returns g c =
    let inside = c.self.inside in let grant = c.index_mut-grant.result.now in
    let below : c.args.number < length inside.grants.items = omega (arith, inside.grants.ok.0, c.self.invariant.1, c.requires.known) in
    let fit = c.self.invariant.2 c.args.number grant below in let is = c.self.view_is in
    let at = c.index_mut-grant.ensures.value in
    let first = ap (λ (l : GrantState). l.knows.first) at ∙ fit.from in
    let alone = ap (λ (l : GrantState). length l.knows.own) at ∙ fit.as_many in
    key_after (λ t. put_seat inside.worker t g.L.LineName.line) inside.worker c.args.number inside.grants.items grant c.put.new.grant c.args.self.now is below at (ap (λ (l : GrantState). l.box_id) c.put.ensures)
    (put_seat_is inside.worker grant c.put.new.grant g.L.LineName.line c.put.ensures first alone)
    ∙ ap (λ (x : KeyState). with_seat c.args.self.now c.args.number (put_seat x.worker (seat_at c.args.self.now c.args.number) g.L.LineName.line)) is

pub invariant_of-self : goal.invariant_of-self
invariant_of-self g c =
    let inside = c.self.inside in let grant = c.index_mut-grant.result.now in
    let below : c.args.number < length inside.grants.items = omega (arith, inside.grants.ok.0, c.self.invariant.1, c.requires.known) in
    let fit = c.self.invariant.2 c.args.number grant below in let at = c.index_mut-grant.ensures.value in
    let new = c.put.ensures in (
      c.self.invariant.0,
      c.self.invariant.1,
      each_set (λ k (l : GrantState). IsFor g.N.PhaseName.initial g.N.PhaseName.workers k inside.worker 1 l) inside.grants.items c.args.number c.put.new.grant below c.self.invariant.2 (record {
        start_is = ap (λ (l : GrantState). start_of l.knows) new ∙ ap (λ (l : GrantState). start_of l.knows) at ∙ fit.start_is;
        workers_are = ap (λ (l : GrantState). l.knows.workers) new ∙ ap (λ (l : GrantState). l.knows.workers) at ∙ fit.workers_are;
        from = ap (λ (l : GrantState). l.knows.first) new ∙ ap (λ (l : GrantState). l.knows.first) at ∙ fit.from;
        as_many = ap (λ (l : GrantState). length l.knows.own) new ∙ length-with_first grant.knows.own _ ∙ ap (λ (l : GrantState). length l.knows.own) at ∙ fit.as_many;
      }),
      c.self.invariant.3,
      c.self.invariant.4,
    )
