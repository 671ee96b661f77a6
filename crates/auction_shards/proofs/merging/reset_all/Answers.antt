use Rattle.std.proofs.Common.{◌≡◌, ◌<◌, map, length, set, refl, sym, ap, ◌∙◌, arith}
use Rattle.std.proofs.lemmas.List.{Edits.{map_over_more}, length-map, get_or-map, map-set}
use Rattle.shard_boxes.specs.States.{state_of}
use Rattle.auction_shards.specs.Shards.{at_start}
use Rattle.auction_shards.proofs.merging.reset_all.Goals as goal

pub loop-s-init : goal.loop-s-init
loop-s-init c = (refl, refl)

pub loop-s-preserved : goal.loop-s-preserved
loop-s-preserved c =
    let was = c.loop-s.invariant in let s = c.loop-s.s in let items = c.loop-s.shards.items in let all = c.args.shards.now.items in let r = c.reset_clock.ensures in
    let old = c.index_mut.result.now in let new = c.reset_clock.new.self in
    let same : length (map state_of all) ≡ length all = simp length-map in
    let low : s < length items = omega (arith, was.0, c.loop-s.shards.ok.0, c.len-s-end.ensures, c.args.shards.now.ok.0) in
    let below : s < length (map state_of all) = omega (arith, same, c.len-s-end.ensures, c.args.shards.now.ok.0) in
    let started : state_of new ≡ at_start (state_of old) = (λ i. record { number = r.same.number i; shards = r.same.shards i; opening = r.same.opening i; clock = r.clock i; contents = r.contents i }) in
    let seen = ap state_of c.index_mut.ensures.value ∙ sym (get_or-map state_of items s old (state_of old) low) in (
      was.0,
      map-set state_of items s new ∙ ap (λ t. set (map state_of items) s t) started
          ∙ map_over_more at_start (map state_of all) (map state_of items) s (state_of old) below was.1 seen,
    )
