-- The shards into which all slices are merged stand for the book after the entries.
use Rattle.std.proofs.Common.{◌≡◌, ℕ, ◌<◌, ◌==◌, Bool, true, false, cond, List, [], ◌∷◌, fold, length, set, refl, sym, ap, subst, ◌∙◌, eq-eqb}
use Rattle.std.proofs.{Math.{ListN.{length-set}, Nat.{mod-lt}}, lemmas.Bool.{eqb-true, false≢true}}
use Rattle.std.proofs.lemmas.List.{get_or-set_same, get_or-set_other}
use Rattle.auction_rows.proofs.RequestLemmas.{same_object-true}
use Rattle.auction_rows.specs.declared.requests.Object.{Object}
use Rattle.auction_rows.specs.Requests.{number_of as object_number, same_object, shard_of}
use Rattle.item_shards.specs.declared.shard.slices.Slice.{Slice}
use Rattle.shard_boxes.specs.States.{ShardState, no_shard, state_at}
use Rattle.closing_laws.proofs.SliceLemmas.{merge_at}
use Rattle.closing_laws.specs.{Merging.{merged_with, with_slice, after_merge}, Phases.{value_on}}

-- One slice merged changes the value of its object alone.

at_home : (n : ℕ) (states : List ShardState) (object : Object) (pair : Object × Slice) (b c : Bool) → length states ≡ n → shard_of object n < n → shard_of pair.0 n < n
    → (shard_of pair.0 n == shard_of object n) ≡ b → same_object pair.0 object ≡ c
    → (state_at (set states (shard_of pair.0 n) (with_slice (state_at states (shard_of pair.0 n)) pair)) (shard_of object n)).contents object
    ≡ cond c (merged_with pair.1 ((state_at states (shard_of object n)).contents object)) ((state_at states (shard_of object n)).contents object)
at_home n states object pair true c long there home is same =
    let one = eqb-true (shard_of pair.0 n) (shard_of object n) is in
    ap (λ t. (state_at (set states t (with_slice (state_at states t) pair)) (shard_of object n)).contents object) one
    ∙ ap (λ (state : ShardState). state.contents object)
    (get_or-set_same states (shard_of object n) (with_slice (state_at states (shard_of object n)) pair) no_shard (subst (λ m. shard_of object n < m) (sym long) there))
    ∙ ap (λ d. cond d (merged_with pair.1 ((state_at states (shard_of object n)).contents object)) ((state_at states (shard_of object n)).contents object)) same
at_home n states object pair false true long there home is same =
    absurd (false≢true (sym is ∙ eq-eqb (shard_of pair.0 n) (shard_of object n) (ap (λ o. shard_of o n) (same_object-true pair.0 object same))))
at_home n states object pair false false long there home is same =
    ap (λ (state : ShardState). state.contents object)
    (get_or-set_other states (shard_of pair.0 n) (shard_of object n) (with_slice (state_at states (shard_of pair.0 n)) pair) no_shard
    (λ one. false≢true (sym is ∙ eq-eqb (shard_of pair.0 n) (shard_of object n) (sym one))))

known : (n : ℕ) (object : Object) → 0 < n → shard_of object n < n
known n object some = mod-lt (object_number object) some

pub value_merged : (states : List ShardState) (object : Object) (pair : Object × Slice) → 0 < length states → value_on (after_merge states pair) object ≡ merge_at object (value_on states object) pair
value_merged states object pair some =
    let n = length states in
    ap (λ m. (state_at (after_merge states pair) (shard_of object m)).contents object) (length-set states (shard_of pair.0 n) (with_slice (state_at states (shard_of pair.0 n)) pair))
    ∙ at_home n states object pair (shard_of pair.0 n == shard_of object n) (same_object pair.0 object) refl (known n object some) (known n pair.0 some) refl refl

-- so it is with all slices, in their order
pub value_after_all : (pairs : List (Object × Slice)) (states : List ShardState) (object : Object) → 0 < length states
    → value_on (fold after_merge states pairs) object ≡ fold (merge_at object) (value_on states object) pairs
value_after_all [] states object some = refl
value_after_all (pair ∷ pairs) states object some =
    value_after_all pairs (after_merge states pair) object
    (subst (λ n. 0 < n) (sym (length-set states (shard_of pair.0 (length states)) (with_slice (state_at states (shard_of pair.0 (length states))) pair))) some)
    ∙ ap (λ v. fold (merge_at object) v pairs) (value_merged states object pair some)

pub as_many : (pairs : List (Object × Slice)) (states : List ShardState) → length (fold after_merge states pairs) ≡ length states
as_many [] states = refl
as_many (pair ∷ pairs) states =
    as_many pairs (after_merge states pair) ∙ length-set states (shard_of pair.0 (length states)) (with_slice (state_at states (shard_of pair.0 (length states))) pair)
