-- The footprint of a request is the shards among the homes of its objects.
use Rattle.std.proofs.Common.{◌≡◌, ◌≢◌, ℕ, ◌<◌, ◌==◌, ◌||◌, not, Bool, true, false, cond, if◌then◌else◌, List, [], ◌∷◌, map, filter, Option, Some, None, is_some, refl, sym, ap, subst, ◌∙◌, ◌⊎◌, inl, inr}
use Rattle.std.{proofs.lemmas.{Bool.Decides.{eqb_tells}, Option.{same_Some}}, specs.List.{AllByRecursion, list_any}}
use Rattle.auction_rows.specs.{Refusals.{number_refusal}, Requests.{shard_of}}
use Rattle.auction_rows.specs.declared.replies.Reply.TheVariants.{ItemStored}
use Rattle.auction_rows.specs.declared.requests.{Object.Object, Request.Request}
use Rattle.auction_rows.specs.Footprint.{is_hot, objects_of as objects_named}
use Rattle.phase_transactions.specs.{Performing.{asks}, Workers.{WorkerState, next_item}}
use Rattle.phase_transactions.specs.inner.Takens.{each_once, is_one_of}
use Rattle.worker_slices.specs.{Homes.{IsHomeOf, shard_at}, Slicing.{hot_objects, stocks_of}}
use Rattle.worker_slices.specs.declared.{homes.Home.{Home}, slices.Hot.{Hot}}
use Rattle.worker_slices.specs.declared.homes.Home.TheVariants as home

-- the hot objects are those of what is fixed
pub same_objects_of : (hots : List (Object × Hot)) → hot_objects (stocks_of hots) ≡ hot_objects hots
same_objects_of [] = refl
same_objects_of (hot ∷ hots) = ap (λ more. hot.0 ∷ more) (same_objects_of hots)

-- whether a shard is that of an object that is not hot
abbrev pub is_in : ℕ → List Object → List Object → ℕ → Bool
is_in shards hot objects t = list_any (λ taken. taken == t) (map (λ object. shard_of object shards) (filter (λ object. not (is_hot hot object)) objects))

-- one object
one : (shards : ℕ) (hot : List Object) (object : Object) (more : List Object) (b : Bool) → is_hot hot object ≡ b → (t : ℕ)
    → is_in shards hot (object ∷ more) t ≡ (if b then is_in shards hot more t else ((shard_of object shards == t) || is_in shards hot more t))
one shards hot object more true is t =
    ap (λ (c : Bool). list_any (λ taken. taken == t) (map (λ object. shard_of object shards) (cond (not c) (object ∷ filter (λ object. not (is_hot hot object)) more) (filter (λ object. not (is_hot hot object)) more)))) is
one shards hot object more false is t =
    ap (λ (c : Bool). list_any (λ taken. taken == t) (map (λ object. shard_of object shards) (cond (not c) (object ∷ filter (λ object. not (is_hot hot object)) more) (filter (λ object. not (is_hot hot object)) more)))) is

twice : (b : Bool) → (b || (b || false)) ≡ (b || false)
twice true = refl
twice false = refl

module _ (shards : ℕ) (hots : List (Object × Hot)) where
  abbrev Hots : List Object
  Hots = hot_objects hots

  pub asks_one : (object : Object) (h : Home) → IsHomeOf hots shards object h → (t : ℕ) → is_in shards Hots (object ∷ []) t ≡ is_one_of (each_once (shard_at h) None) t
  asks_one object home.Nowhere is t = absurd is
  asks_one object (home.Slice place) is t = one shards Hots object [] true is.1 t
  asks_one object (home.Shard s) is t = one shards Hots object [] false is.1 t ∙ ap (λ n. (n == t) || false) (sym is.0)

  pub asks_other : (object : Object) (h : Home) → IsHomeOf hots shards object h → (t : ℕ) → is_in shards Hots (object ∷ []) t ≡ is_one_of (each_once None (shard_at h)) t
  asks_other object home.Nowhere is t = absurd is
  asks_other object h is t = asks_one object h is t

  -- a shard in which both lie is named once
  once : (a b t : ℕ) → (((a == b) ≡ true) × (a ≡ b)) ⊎ (((a == b) ≡ false) × (a ≢ b)) → ((a == t) || ((b == t) || false)) ≡ is_one_of (each_once (Some a) (Some b)) t
  once a b t (inl h) = ap (λ n. (a == t) || ((n == t) || false)) (sym h.1) ∙ twice (a == t) ∙ sym (ap (λ c. is_one_of (cond c (a ∷ []) (a ∷ b ∷ [])) t) h.0)
  once a b t (inr h) = sym (ap (λ c. is_one_of (cond c (a ∷ []) (a ∷ b ∷ [])) t) h.0)

  pub asks_two : (object other : Object) (h k : Home) → IsHomeOf hots shards object h → IsHomeOf hots shards other k → (t : ℕ)
      → is_in shards Hots (object ∷ other ∷ []) t ≡ is_one_of (each_once (shard_at h) (shard_at k)) t
  asks_two object other home.Nowhere k is is' t = absurd is
  asks_two object other (home.Slice place) k is is' t = one shards Hots object (other ∷ []) true is.1 t ∙ asks_other other k is' t
  asks_two object other (home.Shard s) home.Nowhere is is' t = absurd is'
  asks_two object other (home.Shard s) (home.Slice place) is is' t =
      one shards Hots object (other ∷ []) false is.1 t ∙ (λ i. (sym is.0 i == t) || one shards Hots other [] true is'.1 t i)
  asks_two object other (home.Shard s) (home.Shard u) is is' t =
      one shards Hots object (other ∷ []) false is.1 t ∙ (λ i. (sym is.0 i == t) || one shards Hots other [] false is'.1 t i)
      ∙ (λ i. (s == t) || ((sym is'.0 i == t) || false)) ∙ once s u t (eqb_tells s u)

-- the footprint is that of the objects that a request names
pub asked : (w : WorkerState) (shards : ℕ) (request r : Request) → number_refusal w.opening request ≡ None → request ≡ r → (t : ℕ)
    → asks shards w request t ≡ is_in shards (hot_objects w.slices) (objects_named r (ItemStored (next_item w))) t
asked w shards request r none is t =
    ap (λ refused. list_any (λ taken. taken == t) (map (λ object. shard_of object shards)
    (if is_some refused then [] else filter (λ object. not (is_hot (hot_objects (stocks_of w.slices)) object)) (objects_named request (ItemStored (next_item w)))))) none
    ∙ (λ i. is_in shards (same_objects_of w.slices i) (objects_named (is i) (ItemStored (next_item w))) t)

-- what is viewed or bought is cold, where that is not put off
pub no_other : (b : Bool) → (b || (false || false)) ≡ false → b ≡ false
no_other true is = is
no_other false is = refl

-- each shard of a footprint is one of the phase
known_if : (n a b : ℕ) (same : Bool) → a < n → b < n → AllByRecursion (λ s. s < n) (if same then a ∷ [] else a ∷ b ∷ [])
known_if n a b true first second = (first, tt)
known_if n a b false first second = (first, (second, tt))

pub each_known : (n : ℕ) (a b : Option ℕ) → ((s : ℕ) → a ≡ Some s → s < n) → ((s : ℕ) → b ≡ Some s → s < n) → AllByRecursion (λ s. s < n) (each_once a b)
each_known n None None first second = tt
each_known n None (Some b) first second = (second b refl, tt)
each_known n (Some a) None first second = (first a refl, tt)
each_known n (Some a) (Some b) first second = known_if n a b (a == b) (first a refl) (second b refl)

-- a shard among the homes that is known
pub shard_known : (n shard : ℕ) → shard < n → (s : ℕ) → Some shard ≡ Some s → s < n
shard_known n shard known s is = subst (λ t. t < n) (same_Some shard s is) known

pub none_known : (n s : ℕ) → None ≡ Some s → s < n
none_known n s is = absurd (cc)
