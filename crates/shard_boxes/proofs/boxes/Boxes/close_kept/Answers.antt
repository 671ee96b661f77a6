use Rattle.std.proofs.Common.{◌≡◌, ◌<◌, le_trans, List, [], length, map, slice_index_or, sym, ap, ◌∙◌, subst}
use Rattle.std.proofs.lemmas.List.{get_or-map, length-map}
use Rattle.phase_laws.proofs.ListLemmas.{all-get_or}
use Rattle.shard_boxes.{proofs.GrantLemmas.{no_grant, as_many}, specs.Closed.{AreSpent}}
use Rattle.shard_boxes.specs.{Keys.{BoxId, KeyState, no_key, lines_at}, States.{state_of}}
use Rattle.shard_boxes.specs.inner.Grants.{AreFree, AreSpare}
use Rattle.shard_boxes.proofs.boxes.Boxes.close_kept.Goals as goal

pub returns-clause-closed : goal.returns-clause-closed
returns-clause-closed g c =
    let grants = c.collect_all-grants.result.items in let keys = c.args.keys.items in (
      (let same : length (map state_of c.take_all-shards.result.0.items) ≡ length c.take_all-shards.result.0.items = simp length-map in same ∙ c.take_all-shards.ensures.len),
      λ s low.
          let box = c.take_all-shards.ensures.each s no_grant low in
          let below : s < length grants = subst (λ n. s < n) (sym (as_many grants c.deref.result.now c.collect_all-grants.ensures.free.0 ∙ c.deref.ensures.len ∙ c.self.invariant.0)) low in record {
            lines = box.0;
            history = box.1;
            own = λ w lower.
                box.2 w lower ∙ ap (λ l. slice_index_or l w []) (c.collect_all-grants.ensures.own s no_grant below)
                ∙ get_or-map (λ (k : KeyState). lines_at k s) keys w no_key [] (subst (λ n. w < n) (sym c.requires.0) lower);
            seen = λ w lower.
                le_trans (all-get_or _ keys w no_key (subst (λ n. w < n) (sym c.requires.0) lower) (c.collect_all-grants.ensures.seen s no_grant below)) box.3;
          },
    )

pub collect_all-grants-requires : goal.collect_all-grants-requires
collect_all-grants-requires g c = record {
  workers = c.self.invariant.2;
  boxes = c.deref.ensures.len ∙ c.self.invariant.0;
  spent = subst (λ (boxes : List BoxId). AreSpent boxes g.N.PhaseName.workers c.args.keys.items) (sym (c.deref.ensures.value ∙ c.self.view_is)) c.requires;
}

pub take_all-shards-requires : goal.take_all-shards-requires
take_all-shards-requires g c =
    let grants = c.collect_all-grants.result.items in let keys = c.args.keys.items in let made = c.collect_all-grants.ensures in
    let room = c.self.invariant in record {
      opened = room.6;
      boxes = c.deref-2.ensures.len ∙ room.0;
      free = subst (λ (boxes : List BoxId). AreFree g.N.PhaseName.initial g.N.PhaseName.workers boxes 0 grants) (c.deref.ensures.value ∙ sym c.deref-2.ensures.value) made.free;
      own = λ s d low. let same : length (map (λ (k : KeyState). lines_at k s) keys) ≡ length keys = simp length-map in ap length (made.own s d low) ∙ same ∙ c.requires.0;
      closed_shards = (room.3, room.4);
    }

pub invariant_of-result : goal.invariant_of-result
invariant_of-result g c = subst (λ (boxes : List BoxId). AreSpare boxes c.take_all-shards.result.1.items) c.deref-2.ensures.value c.take_all-shards.ensures.spare

pub returns-clause-spare : goal.returns-clause-spare
returns-clause-spare g c = sym c.self.inside.boxes.ok.0 ∙ c.self.invariant.0
