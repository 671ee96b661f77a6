-- Slices that are merged one after the other.
use Rattle.std.proofs.Common.{◌≡◌, ◌+◌, ◌<◌, List, [], ◌∷◌, ◌++◌, fold, length, reverse, refl, sym, ap, ◌∙◌, subst, arith}
use Rattle.std.proofs.lemmas.List.{Sums.{fold-append}, reverse-append, length-append, length-map}
use Rattle.std.specs.List.{AllByRecursion}
use Rattle.phase_laws.specs.Replay.{SawInTurn}
use Rattle.auction_rows.specs.declared.{values.Opening.Opening, requests.Object.Object}
use Rattle.item_shards.specs.declared.shard.slices.Slice.{Slice}
use Rattle.shard_boxes.specs.States.{ShardState}
use Rattle.worker_slices.specs.{Slicing.{slices_in}, declared.slices.Hot.{Hot}}
use Rattle.auction_shards.proofs.Merges.{still_of_one, one_opening}
use Rattle.auction_shards.specs.Merging.{after_merge, CanMerge}
use Rattle.auction_shards.specs.Shards.{AreOfOne, IsKnown, opening_in}
use Rattle.phase_floor.specs.inner.Parts.{AreKnown, from_the_last}

saw_split : {D S : Type 0} (P : S → D → Type 0) (step : S → D → S) (xs ys : List D) (s : S) → SawInTurn P step s (xs ++ ys) → SawInTurn P step s xs × SawInTurn P step (fold step s xs) ys
saw_split P step [] ys s h = (tt, h)
saw_split P step (x ∷ xs) ys s h = let rest = saw_split P step xs ys (step s x) h.1 in ((h.0, rest.0), rest.1)

all_split : {X : Type 0} (P : X → Type 0) (xs ys : List X) → AllByRecursion P (xs ++ ys) → AllByRecursion P xs × AllByRecursion P ys
all_split P [] ys h = (tt, h)
all_split P (x ∷ xs) ys h = let rest = all_split P xs ys h.1 in ((h.0, rest.0), rest.1)

pub one_after : (pairs : List (Object × Slice)) (states : List ShardState) → AreOfOne states → AreOfOne (fold after_merge states pairs)
one_after [] states one = one
one_after (pair ∷ pairs) states one = one_after pairs (after_merge states pair) (still_of_one states pair one)

pub opening_after : (pairs : List (Object × Slice)) (states : List ShardState) → opening_in (fold after_merge states pairs) ≡ opening_in states
opening_after [] states = refl
opening_after (pair ∷ pairs) states = opening_after pairs (after_merge states pair) ∙ one_opening states pair

-- Of the slices that there were, some are left; the others are merged.
pub record AreToMerge (start now : List ShardState) (all left : List (Object × Slice)) : Type 0 where
  pub known : AreKnown now left
  pub can : SawInTurn CanMerge after_merge now left
  pub whole : fold after_merge now left ≡ fold after_merge start all

module _ (start now : List ShardState) (all left first rest : List (Object × Slice)) (is : left ≡ first ++ rest) (was : AreToMerge start now all left) where
  all_known : AreKnown now first × AllByRecursion (λ pair. IsKnown (opening_in now) pair.0) rest
  all_known = all_split (λ (pair : Object × Slice). IsKnown (opening_in now) pair.0) first rest (subst (AreKnown now) is was.known)

  pub first_known : AreKnown now first
  first_known = all_known.0

  all_can : SawInTurn CanMerge after_merge now first × SawInTurn CanMerge after_merge (fold after_merge now first) rest
  all_can = saw_split CanMerge after_merge first rest now (subst (SawInTurn CanMerge after_merge now) is was.can)

  pub first_can : SawInTurn CanMerge after_merge now first
  first_can = all_can.0

  -- after the first are merged, the rest is left
  pub merged_next : (next : List ShardState) → next ≡ fold after_merge now first → AreToMerge start next all rest
  merged_next next merged = record {
    known = subst (λ (o : Opening). AllByRecursion (λ (pair : Object × Slice). IsKnown o pair.0) rest) (sym (ap opening_in merged ∙ opening_after first now)) all_known.1;
    can = subst (λ (states : List ShardState). SawInTurn CanMerge after_merge states rest) (sym merged) all_can.1;
    whole = ap (λ (states : List ShardState). fold after_merge states rest) merged ∙ sym (fold-append after_merge now first rest) ∙ ap (fold after_merge now) (sym is) ∙ was.whole;
  }

-- Of a worker's slices the last is merged first.
module _ (slices rest : List (Object × Hot)) (pair : Object × Slice) (is : slices_in slices ≡ slices_in rest ++ pair ∷ []) where
  pub last_first : from_the_last slices ≡ (pair ∷ []) ++ from_the_last rest
  last_first = ap reverse is ∙ reverse-append (slices_in rest) (pair ∷ [])

  pub shorter : length rest < length slices
  shorter =
      let many : length (slices_in slices) ≡ length slices = simp length-map in
      let fewer : length (slices_in rest) ≡ length rest = simp length-map in
      let one : length (slices_in rest ++ pair ∷ []) ≡ length (slices_in rest) + 1 = length-append (slices_in rest) (pair ∷ []) in
      omega (arith, many, fewer, one, ap length is)
