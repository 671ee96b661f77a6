use Rattle.std.proofs.Common.{◌≡◌, length, map, ap, ◌∙◌, subst, arith}
use Rattle.std.proofs.lemmas.List.{length-map, map_push}
use Rattle.shard_boxes.{proofs.Each.{each_push}, specs.States.{state_of, no_shard}}
use Rattle.auction_shards.proofs.Blank.{blank_of_new, one_of_blank}
use Rattle.auction_shards.specs.Making.{AreBlank, IsBlank}
use Rattle.auction_shards.proofs.shards.Shards.new.Goals as goal

pub loop-number-preserved : goal.loop-number-preserved
loop-number-preserved c =
    let was = c.loop-number.invariant in let p = c.in_ok-push.ensures in
    let before = c.loop-number.shards in let shard = c.in_ok-new.field-0 in
    let same : length (map state_of before.items) ≡ length before.items = simp length-map in
    let many : length (map state_of before.items) ≡ c.loop-number.number = omega (arith, same, was.len, before.ok.0) in record {
      len = omega (arith, was.len, p.len);
      blank = each_push (λ s state. IsBlank c.args.opening c.args.count s state) (map state_of before.items) (map state_of c.push.new.self.items) (state_of shard) no_shard c.loop-number.number many
          (ap (map state_of) p.items ∙ map_push state_of before.items shard) was.blank (blank_of_new c.args.opening c.args.count c.loop-number.number shard c.in_ok-new.ensures);
    }

pub invariant_of-result : goal.invariant_of-result
invariant_of-result c =
    let was = c.loop-number.invariant in let shards = c.loop-number.shards in
    let all : c.loop-number.number ≡ c.args.count = omega arith in
    let same : length (map state_of shards.items) ≡ length shards.items = simp length-map in
    one_of_blank c.args.opening c.args.count (map state_of shards.items) (omega (arith, same, was.len, all, shards.ok.0)) c.requires
    (subst (λ n. AreBlank c.args.opening c.args.count n (map state_of shards.items)) all was.blank)
