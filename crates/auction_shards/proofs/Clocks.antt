-- Shards of one auction, with their clocks at 0.
use Rattle.std.proofs.Common.{◌≡◌, ℕ, List, length, map, sym, ap, ◌∙◌, arith}
use Rattle.std.proofs.{Math.ListN.{get_or-map}, lemmas.List.{length-map}}
use Rattle.shard_boxes.specs.States.{ShardState, state_at, no_shard}
use Rattle.auction_shards.specs.Shards.{AreOfOne, at_start}

pub one_at_start : (states : List ShardState) → AreOfOne states → AreOfOne (map at_start states)
one_at_start states one =
    let same : length (map at_start states) ≡ length states = length-map states at_start in
    let at : (s : ℕ) → state_at (map at_start states) s ≡ at_start (state_at states s) = λ s. get_or-map at_start states s no_shard in record {
      some = omega (arith, same, one.some);
      few = omega (arith, same, one.few);
      numbered = λ s low.
          let own = one.numbered s (omega (arith, low, same)) in (
            ap (λ (state : ShardState). state.number) (at s) ∙ own.0,
            ap (λ (state : ShardState). state.shards) (at s) ∙ own.1 ∙ sym same,
          );
      opening_is = λ s low. ap (λ (state : ShardState). state.opening) (at s) ∙ one.opening_is s (omega (arith, low, same)) ∙ sym (ap (λ (state : ShardState). state.opening) (at 0));
    }
