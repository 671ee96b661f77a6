use Rattle.std.proofs.Common.{◌≡◌, ◌<◌, ◌≤◌, ◌^◌, List, length, get_or, vec_capacity, sym, ◌∙◌, subst}
use Rattle.shard_boxes.{proofs.GrantLemmas.{as_many_states}, specs.Keys.{BoxId, AreNewKeys}}
use Rattle.shard_boxes.specs.inner.Grants.{AreSpare, AreNewGrants}
use Rattle.shard_boxes.proofs.boxes.Boxes.open.Goals as goal

pub open_all-grants-requires : goal.open_all-grants-requires
open_all-grants-requires g c =
    let count : c.len-count.result ≡ length g.N.PhaseName.initial = c.len-count.ensures ∙ c.args.shards.ok.0 ∙ as_many_states c.args.shards.items g.N.PhaseName.initial c.requires.opening in
    record {
      opening = c.requires.opening;
      opened = c.requires.opened;
      boxes = c.deref.ensures.len ∙ c.in-Ok.ensures.len ∙ count;
      spare = subst (λ (boxes : List BoxId). AreSpare boxes c.in-Ok.grants.items) (sym c.deref.ensures.value) c.in-Ok.ensures.spare;
    }

pub deal_all-keys-requires : goal.deal_all-keys-requires
deal_all-keys-requires g c =
    let workers = g.N.PhaseName.workers in
    let count : c.len-count.result ≡ length g.N.PhaseName.initial = c.len-count.ensures ∙ c.args.shards.ok.0 ∙ as_many_states c.args.shards.items g.N.PhaseName.initial c.requires.opening in
    record {
      few = c.requires.few;
      boxes = c.deref-2.ensures.len ∙ c.in-Ok.ensures.len ∙ count;
      grants = subst (λ (boxes : List BoxId). AreNewGrants g.N.PhaseName.initial workers boxes 0 workers c.open_all-grants.result.items) (c.deref.ensures.value ∙ sym c.deref-2.ensures.value) c.open_all-grants.ensures;
      workers = subst (λ n. n < 2 ^ 32) c.requires.workers c.ranges.workers.fits;
      rooms = c.in-Ok-make_rooms.ensures.len ∙ c.requires.workers;
      each = λ w d low. let room = c.in-Ok-make_rooms.ensures.each w d (subst (λ n. w < n) (sym c.requires.workers) low) in (room.0, subst (λ n. n ≤ vec_capacity (get_or c.in-Ok-make_rooms.rooms.items w d)) count room.1);
      keys = (c.in-Ok-with_capacity.ensures.len, subst (λ n. n ≤ vec_capacity c.in-Ok-with_capacity.keys) c.requires.workers c.in-Ok-with_capacity.ensures.capacity);
    }

pub invariant_of-result : goal.invariant_of-result
invariant_of-result g c =
    let count : c.len-count.result ≡ length g.N.PhaseName.initial = c.len-count.ensures ∙ c.args.shards.ok.0 ∙ as_many_states c.args.shards.items g.N.PhaseName.initial c.requires.opening in
    (c.in-Ok.ensures.len ∙ count, c.requires.few.1, c.requires.some.0, c.in-Ok-with_capacity-2.ensures.len, subst (λ n. n ≤ vec_capacity c.in-Ok-with_capacity-2.closed_shards) count c.in-Ok-with_capacity-2.ensures.capacity, c.requires.few.0, c.requires.opened)

pub returns-clause-keys : goal.returns-clause-keys
returns-clause-keys g c = subst (λ (boxes : List BoxId). AreNewKeys boxes g.N.PhaseName.workers c.deal_all-keys.result.items) c.deref-2.ensures.value c.deal_all-keys.ensures

pub returns-clause-boxes : goal.returns-clause-boxes
returns-clause-boxes g c =
    sym c.in-Ok.boxes.ok.0 ∙ c.in-Ok.ensures.len ∙ c.len-count.ensures ∙ c.args.shards.ok.0
    ∙ as_many_states c.args.shards.items g.N.PhaseName.initial c.requires.opening
