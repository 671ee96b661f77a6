use Rattle.std.proofs.Common.{◌≡◌, length, map, ap, ◌∙◌, arith}
use Rattle.std.proofs.lemmas.List.{length-map, map_push}
use Rattle.shard_boxes.proofs.{Each.{each_push}, StateLemmas.{new_is_opened}}
use Rattle.shard_boxes.specs.States.{ShardState, state_of, no_shard, IsInitial}
use Rattle.test_values.specs.declared.requests.TheConstants.{OPENING}
use Rattle.phase_tests.proofs.testing.four.Goals as goal

pub loop-number-preserved : goal.loop-number-preserved
loop-number-preserved c =
    let was = c.loop-number.invariant in let p = c.in_ok-push.ensures in
    let before = c.loop-number.shards in let shard = c.in_ok-new.field-0 in
    let same : length (map state_of before.items) ≡ length before.items = simp length-map in
    let many : length (map state_of before.items) ≡ c.loop-number.number = omega (arith, same, was.0, before.ok.0) in
    let grown = ap (map state_of) p.items ∙ map_push state_of before.items shard in (
      omega (arith, was.0, p.len),
      each_push (λ s state. IsInitial 4 s state) (map state_of before.items) (map state_of c.push.new.self.items) (state_of shard) no_shard c.loop-number.number many grown was.1
          (new_is_opened c.loop-number.number 4 _ shard c.in_ok-new.ensures),
      each_push (λ s (state : ShardState). state.opening ≡ OPENING) (map state_of before.items) (map state_of c.push.new.self.items) (state_of shard) no_shard c.loop-number.number many grown was.2
          c.in_ok-new.ensures.opening_is,
    )
