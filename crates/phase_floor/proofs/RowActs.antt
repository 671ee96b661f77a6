-- Shards on which a row is written, or can be.
use Rattle.std.proofs.Common.{◌≡◌, ℕ, ◌<◌, ◌^◌, true, List, [], ◌∷◌, ◌++◌, length, refl, sym, ap, ◌∙◌, subst, arith}
use Rattle.std.specs.List.{AllByRecursion}
use Rattle.auction_rows.{proofs.HistoryLemmas.{own_row}, specs.Book.{Book}}
use Rattle.auction_rows.specs.{History.{GoOn, commit_of}, Requests.{shard_of}}
use Rattle.auction_rows.specs.declared.{values.Opening.Opening, rows.Row.Row}
use Rattle.item_shards.proofs.{CanActLemmas.{row_can_in}, StandingLemmas.{row_stands}}
use Rattle.item_shards.specs.{Acting.{CanActOn}, Contents.{after_acts}}
use Rattle.item_shards.specs.Writing.{writes_of, writes_if, is_done_on, done_on}
use Rattle.shard_boxes.specs.States.{ShardState, state_at}
use Rattle.auction_shards.{proofs.Acts.{numbered_next}, specs.Shards.{ShardsStandFor}}
use Rattle.auction_shards.specs.Writing.{CanWriteOn, HaveDone}
use Rattle.phase_floor.specs.inner.Rows.{AreReady}

module _ (opening : Opening) (old new : List ShardState) (r : Row) (ready : AreReady opening old) where
  -- after the acts of a row the shards are ready, and stand for the book with the row
  pub ready_next : HaveDone old new (writes_of r) → AreReady opening new
  ready_next done =
      let known : (s : ℕ) → s < length new → s < length old = λ s low. omega (arith, low, done.len) in record {
        numbered = numbered_next old new (writes_of r) ready.numbered done;
        opening_is = λ s low. ap (λ (state : ShardState). state.opening) (done.each s (known s low)) ∙ ready.opening_is s (known s low);
        clock_is = λ s low. ap (λ (state : ShardState). state.clock) (done.each s (known s low)) ∙ ready.clock_is s (known s low);
      }

  pub stand_next : HaveDone old new (writes_of r) → (b : Book) → ShardsStandFor old b [] → ShardsStandFor new (b ++ r ∷ []) []
  stand_next done b stand = λ s low object lies cold.
      let known : s < length old = omega (arith, low, done.len) in let state = state_at old s in
      ap (λ (now : ShardState). now.contents object) (done.each s known)
      ∙ ap (λ k. after_acts state.contents (done_on k (length old) [] (writes_of r)) object) (ready.numbered s known).0
      ∙ row_stands s (length old) state.contents b [] r (stand s known) object (ap (shard_of object) (sym done.len) ∙ lies) cold

  -- the row that goes on a book can be written where the shards stand for it
  pub can_write : (b : Book) → ShardsStandFor old b [] → GoOn opening b (r ∷ []) → length b < 2 ^ 59 → CanWriteOn old r
  can_write b stand goes few = λ s low.
      let state = state_at old s in
      subst (λ (start : Opening). AllByRecursion (λ act. is_done_on s (length old) [] act ≡ true → CanActOn start s (length old) (λ id. true) state.contents act) (writes_of r)) (sym (ready.opening_is s low))
      (subst (λ o. AllByRecursion (λ act. is_done_on s (length old) [] act ≡ true → CanActOn opening s (length old) (λ id. true) state.contents act) (writes_if o)) (own_row r)
      (row_can_in opening s (length old) (λ id. true) state.contents b [] (stand s low) few (commit_of r) goes.0 (λ id is lies. refl)))
