-- The acts that are dealt to the shards that were taken are those that are done there, and can be done there, and the clocks that were found are theirs.
use Rattle.std.proofs.Common.{◌≡◌, ◌≢◌, ℕ, max, ◌<◌, ◌≤◌, ◌==◌, ◌||◌, Bool, true, false, cond, List, [], ◌∷◌, Option, Some, None, refl, sym, ap, subst, ◌∙◌, ◌⊎◌, inl, inr, arith}
use Rattle.std.proofs.{Math.Bool.{or-false}, lemmas.Bool.{eq-eqb, ne_eqb, false≢true, or_right}}
use Rattle.std.{proofs.lemmas.Bool.Decides.{eqb_tells}, specs.List.{AllByRecursion, list_any}}
use Rattle.phase_laws.specs.{Numbers.{greatest_by}, Replay.{SawInTurn}}
use Rattle.item_shards.specs.{Acting.{CanActIn}, Contents.{Contents, after_act}, Events.{Event}}
use Rattle.item_shards.specs.{Looking.{event_at, events_of}, ShardContents.{clock, contents, rooms}}
use Rattle.item_shards.specs.{Writing.{padded}, declared.shard.acts.Act.{TheVariants.{Look}, Act}}
use Rattle.item_shards.specs.declared.shard.acts.Look.TheVariants as look
use Rattle.item_shards.specs.Events as event
use Rattle.item_shards.specs.Shown as shown
use Rattle.auction_rows.specs.declared.{requests.Facts.Facts, replies.Reply.Reply}
use Rattle.shard_boxes.specs.{Helds.{HeldState}, Lines.{first_two}}
use Rattle.worker_slices.specs.{Homes.{shard_at}, declared.homes.Home.{Home}}
use Rattle.worker_slices.specs.declared.homes.Home.TheVariants as home
use Rattle.phase_transactions.{proofs.DeedLemmas.{event_is}, specs.Txns.{clock_in}}
use Rattle.phase_transactions.specs.declared.taken.Taken.{Taken}
use Rattle.phase_transactions.specs.inner.Deeds.{is_at, deeds_on, first_dealt, second_dealt, clocks_of, event_with, IsGood, AreGoodOn}
use Rattle.phase_transactions.specs.inner.HeldShards.{alone_in}
use Rattle.phase_transactions.specs.inner.Takens.{each_once, greatest_held, held_in, numbers_of, is_one_of, dealt, no_line, line_among, CanBeDoneOn, CanBeDoneOnAll}
use Rattle.phase_transactions.specs.declared.taken.Taken.TheVariants as taken

-- where two objects lie, whose shards were taken, each once
abbrev pub LieInOne : ℕ → Option ℕ → Option ℕ → Type 0
LieInOne n a b = ((a ≡ Some n) × (b ≡ None)) ⊎ (((a ≡ None) × (b ≡ Some n)) ⊎ ((a ≡ Some n) × (b ≡ Some n)))

abbrev pub LieInTwo : ℕ → ℕ → Option ℕ → Option ℕ → Type 0
LieInTwo n m a b = (a ≡ Some n) × (b ≡ Some m) × (n ≢ m)

-- two shards are one or two
once : (s u : ℕ) → ((each_once (Some s) (Some u) ≡ s ∷ []) × (s ≡ u)) ⊎ ((each_once (Some s) (Some u) ≡ s ∷ u ∷ []) × (s ≢ u))
once s u = elim (eqb_tells s u) [
  | inl h ↦ inl (ap (λ c. cond c (s ∷ []) (s ∷ u ∷ [])) h.0, h.1)
  | inr h ↦ inr (ap (λ c. cond c (s ∷ []) (s ∷ u ∷ [])) h.0, h.1)
]

both_in : (n s u : ℕ) → n ∷ [] ≡ s ∷ [] → s ≡ u → LieInOne n (Some s) (Some u)
both_in n s u is same = let first : s ≡ n = cc in inr (inr (ap Some first, ap Some (sym same ∙ first)))

pub in_one : (n : ℕ) (a b : Option ℕ) → n ∷ [] ≡ each_once a b → LieInOne n a b
in_one n None None is = absurd (cc)
in_one n (Some s) None is = let first : s ≡ n = cc in inl (ap Some first, refl)
in_one n None (Some u) is = let first : u ≡ n = cc in inr (inl (refl, ap Some first))
in_one n (Some s) (Some u) is = elim (once s u) [ inl h ↦ both_in n s u (is ∙ h.0) h.1 | inr h ↦ absurd (cc (is ∙ h.0)) ]

each_in : (n m s u : ℕ) → n ∷ m ∷ [] ≡ s ∷ u ∷ [] → s ≢ u → LieInTwo n m (Some s) (Some u)
each_in n m s u is apart = let first : s ≡ n = cc in let second : u ≡ m = cc in (ap Some first, ap Some second, λ same. apart (first ∙ same ∙ sym second))

pub in_two : (n m : ℕ) (a b : Option ℕ) → n ∷ m ∷ [] ≡ each_once a b → LieInTwo n m a b
in_two n m (Some s) (Some u) is = elim (once s u) [ inl h ↦ absurd (cc (is ∙ h.0)) | inr h ↦ each_in n m s u (is ∙ h.0) h.1 ]
in_two n m None None is = absurd (cc)
in_two n m None (Some u) is = absurd (cc)
in_two n m (Some s) None is = absurd (cc)

-- what the acts that are dealt to the shard of this number are there
abbrev pub events_among : List HeldState → List (List Act) → ℕ → List Event
events_among [] acts t = []
events_among (h ∷ held) [] t = []
events_among (h ∷ held) (a ∷ acts) t = cond (h.number == t) (events_of (contents h.shard) a) (events_among held acts t)

-- whether a shard is that of an object, if it lies in one
abbrev at : Option ℕ → ℕ → Bool
at None t = false
at (Some s) t = s == t

at_home : (h : Home) (t : ℕ) → at (shard_at h) t ≡ is_at h t
at_home home.Nowhere t = refl
at_home h t = refl

-- two acts in turn
events_are : (found : Contents) (x y : Act) (first second : Event) → event_at found x ≡ first → event_at (after_act found first) y ≡ second → events_of found (x ∷ y ∷ []) ≡ first ∷ second ∷ []
events_are found x y first second first_is second_is = ap (λ e. e ∷ event_at (after_act found e) y ∷ []) first_is ∙ ap (λ e. first ∷ e ∷ []) second_is

-- two acts of a request that saw this and has this reply, which are good where their objects lie
module _ (seen : Option (Facts × ℕ)) (reply : Reply) (x y : Act) where
  abbrev first : Event
  first = event_with seen reply x

  abbrev second : Event
  second = event_with seen reply y

  first_alone : (h : HeldState) → IsGood h.shard (contents h.shard) first → events_of (contents h.shard) (alone_in x) ≡ first ∷ event.Look shown.Nothing ∷ []
  first_alone h good = events_are (contents h.shard) x (Look look.Nothing) first (event.Look shown.Nothing) (event_is seen reply (contents h.shard) x good.1) refl

  second_alone : (h : HeldState) → IsGood h.shard (contents h.shard) second → events_of (contents h.shard) (alone_in y) ≡ second ∷ event.Look shown.Nothing ∷ []
  second_alone h good = events_are (contents h.shard) y (Look look.Nothing) second (event.Look shown.Nothing) (event_is seen reply (contents h.shard) y good.1) refl

  both_in_turn : (h : HeldState) → IsGood h.shard (contents h.shard) first → IsGood h.shard (after_act (contents h.shard) first) second → events_of (contents h.shard) (x ∷ y ∷ []) ≡ first ∷ second ∷ []
  both_in_turn h good after =
      events_are (contents h.shard) x y first second (event_is seen reply (contents h.shard) x good.1) (event_is seen reply (after_act (contents h.shard) first) y after.1)

  -- what is dealt to a shard is what is done there
  dealt_at : {N : Type 0} (took : Taken N) (a b : Option ℕ) → numbers_of (held_in took) ≡ each_once a b → AllByRecursion (AreGoodOn a b first second) (held_in took) → (t : ℕ) → is_one_of (numbers_of (held_in took)) t ≡ true
      → events_among (held_in took) (dealt took (first_dealt x y a b ∷ second_dealt x y a b ∷ [])) t ≡ padded (cond (at a t) (first ∷ cond (at b t) (second ∷ []) []) (cond (at b t) (second ∷ []) []))
  dealt_at taken.Nothing a b numbers good t here = absurd (false≢true here)
  dealt_at (taken.One one) a b numbers good t here =
      let is : (one.number == t) ≡ true = sym (or-false (one.number == t)) ∙ here in
      elim (in_one one.number a b numbers) [
        | inl l ↦ rw (l.0, l.1, is) (first_alone one (good.0.first l.0))
        | inr more ↦ elim more [ inl l ↦ rw (l.0, l.1, is) (second_alone one (good.0.second l.1)) | inr l ↦ rw (l.0, l.1, is) (both_in_turn one (good.0.first l.0) (good.0.after l.0 l.1)) ]
      ]
  dealt_at (taken.Two one other) a b numbers good t here =
      let lies = in_two one.number other.number a b numbers in
      elim (eqb_tells one.number t) [
        | inl h ↦ rw (lies.0, lies.1, h.0, ne_eqb other.number t (λ e. lies.2 (h.1 ∙ sym e))) (first_alone one (good.0.first lies.0))
        | inr h ↦ rw (lies.0, lies.1, h.0, sym (or-false (other.number == t)) ∙ ap (λ c. c || ((other.number == t) || false)) (sym h.0) ∙ here) (second_alone other (good.1.0.second lies.1))
      ]

  pub dealt_on : {N : Type 0} (took : Taken N) (h k : Home) → numbers_of (held_in took) ≡ each_once (shard_at h) (shard_at k) → AllByRecursion (AreGoodOn (shard_at h) (shard_at k) first second) (held_in took)
      → (t : ℕ) → is_one_of (numbers_of (held_in took)) t ≡ true
      → events_among (held_in took) (dealt took (first_dealt x y (shard_at h) (shard_at k) ∷ second_dealt x y (shard_at h) (shard_at k) ∷ [])) t ≡ deeds_on first second h k t
  dealt_on took h k numbers good t here =
      dealt_at took (shard_at h) (shard_at k) numbers good t here
      ∙ (λ i. padded (cond (at_home h t i) (first ∷ cond (at_home k t i) (second ∷ []) []) (cond (at_home k t i) (second ∷ []) [])))

  -- acts that are good on each shard in which their objects lie can be done on all that were taken
  first_done : (number : ℕ) (h : HeldState) → clock h.shard < number → IsGood h.shard (contents h.shard) first → CanBeDoneOn number h (alone_in x)
  first_done number h later good = record {
    later = later;
    can = subst (SawInTurn (CanActIn h.shard (rooms h.shard)) after_act (contents h.shard)) (sym (first_alone h good)) (good.0, (tt, tt));
  }

  second_done : (number : ℕ) (h : HeldState) → clock h.shard < number → IsGood h.shard (contents h.shard) second → CanBeDoneOn number h (alone_in y)
  second_done number h later good = record {
    later = later;
    can = subst (SawInTurn (CanActIn h.shard (rooms h.shard)) after_act (contents h.shard)) (sym (second_alone h good)) (good.0, (tt, tt));
  }

  both_done : (number : ℕ) (h : HeldState) → clock h.shard < number → IsGood h.shard (contents h.shard) first → IsGood h.shard (after_act (contents h.shard) first) second → CanBeDoneOn number h (x ∷ y ∷ [])
  both_done number h later good after = record {
    later = later;
    can = subst (SawInTurn (CanActIn h.shard (rooms h.shard)) after_act (contents h.shard)) (sym (both_in_turn h good after)) (good.0, (after.0, tt));
  }

  pub can_deal : {N : Type 0} (number : ℕ) (took : Taken N) (a b : Option ℕ) → numbers_of (held_in took) ≡ each_once a b → AllByRecursion (λ (h : HeldState). clock h.shard < number) (held_in took)
      → AllByRecursion (AreGoodOn a b first second) (held_in took) → CanBeDoneOnAll number (held_in took) (dealt took (first_dealt x y a b ∷ second_dealt x y a b ∷ []))
  can_deal number taken.Nothing a b numbers later good = tt
  can_deal number (taken.One one) a b numbers later good = elim (in_one one.number a b numbers) [
    | inl l ↦ rw (l.0, l.1) (first_done number one later.0 (good.0.first l.0), tt)
    | inr more ↦ elim more [
      | inl l ↦ rw (l.0, l.1) (second_done number one later.0 (good.0.second l.1), tt)
      | inr l ↦ rw (l.0, l.1) (both_done number one later.0 (good.0.first l.0) (good.0.after l.0 l.1), tt)
    ]
  ]
  can_deal number (taken.Two one other) a b numbers later good =
      let lies = in_two one.number other.number a b numbers in
      rw (lies.0, lies.1) (first_done number one later.0 (good.0.first lies.0), (second_done number other later.1.0 (good.1.0.second lies.1), tt))

-- and its line says so, with the clock that was found
two_lines : (b c : Bool) (number index before after : ℕ) (x y : List Event) → (b || (c || false)) ≡ true
    → cond b (record { number = number; before = before; index = index; acts = first_two x }) (cond c (record { number = number; before = after; index = index; acts = first_two y }) no_line)
    ≡ record { number = number; before = cond b before (cond c after 0); index = index; acts = first_two (cond b x (cond c y [])) }
two_lines false false number index before after x y here = absurd (false≢true here)
two_lines b c number index before after x y here = refl

one_line : (b : Bool) (number index before : ℕ) (x : List Event) → b ≡ true
    → cond b (record { number = number; before = before; index = index; acts = first_two x }) no_line ≡ record { number = number; before = cond b before 0; index = index; acts = first_two (cond b x []) }
one_line true number index before x here = refl
one_line false number index before x here = absurd (false≢true here)

pub line_is : {N : Type 0} (took : Taken N) (number index : ℕ) (x y : Act) (t : ℕ) → is_one_of (numbers_of (held_in took)) t ≡ true
    → line_among number index (held_in took) (dealt took (x ∷ y ∷ [])) t
    ≡ record { number = number; before = clock_in (clocks_of took) t; index = index; acts = first_two (events_among (held_in took) (dealt took (x ∷ y ∷ [])) t) }
line_is taken.Nothing number index x y t here = absurd (false≢true here)
line_is (taken.One one) number index x y t here = one_line (one.number == t) number index (clock one.shard) (events_of (contents one.shard) (x ∷ y ∷ [])) (sym (or-false (one.number == t)) ∙ here)
line_is (taken.Two one other) number index x y t here = two_lines (one.number == t) (other.number == t) number index (clock one.shard) (clock other.shard) (events_of (contents one.shard) (alone_in x)) (events_of (contents other.shard) (alone_in y)) here

-- the greatest over numbers is that over any others that are the same ones
le_in : (f : ℕ → ℕ) (ns : List ℕ) (t : ℕ) → list_any (λ s. s == t) ns ≡ true → f t ≤ greatest_by f ns
le_in f [] t here = absurd (false≢true here)
le_in f (n ∷ ns) t here = go (eqb_tells n t) (λ more. le_in f ns t more) where
  go : (((n == t) ≡ true) × (n ≡ t)) ⊎ (((n == t) ≡ false) × (n ≢ t)) → (list_any (λ s. s == t) ns ≡ true → f t ≤ greatest_by f ns) → f t ≤ max (f n) (greatest_by f ns)
  go (inl h) again = let same = ap f h.1 in omega (arith, same)
  go (inr h) again = let below = again (ap (λ b. b || list_any (λ s. s == t) ns) (sym h.0) ∙ here) in omega (arith, below)

bounded : (f : ℕ → ℕ) (ns : List ℕ) (m : ℕ) → ((t : ℕ) → list_any (λ s. s == t) ns ≡ true → f t ≤ m) → greatest_by f ns ≤ m
bounded f [] m all = omega arith
bounded f (n ∷ ns) m all =
    let first = all n (ap (λ b. b || list_any (λ s. s == n) ns) (eq-eqb n n refl)) in
    let more = bounded f ns m (λ t here. all t (ap (λ b. (n == t) || b) here ∙ or_right (n == t) true refl)) in
    omega (arith, first, more)

pub greatest_same : (f : ℕ → ℕ) (ns ms : List ℕ) → ((t : ℕ) → list_any (λ s. s == t) ns ≡ list_any (λ s. s == t) ms) → greatest_by f ns ≡ greatest_by f ms
greatest_same f ns ms same =
    let under = bounded f ns (greatest_by f ms) (λ t here. le_in f ms t (sym (same t) ∙ here)) in
    let over = bounded f ms (greatest_by f ns) (λ t here. le_in f ns t (same t ∙ here)) in
    omega (arith, under, over)

-- the greatest clock that was found is that of the shards that were taken
pub greatest_taken : {N : Type 0} (took : Taken N) (a b : Option ℕ) → numbers_of (held_in took) ≡ each_once a b → greatest_by (λ t. clock_in (clocks_of took) t) (numbers_of (held_in took)) ≡ greatest_held (held_in took)
greatest_taken taken.Nothing a b numbers = refl
greatest_taken (taken.One one) a b numbers = rw (eq-eqb one.number one.number refl) refl
greatest_taken (taken.Two one other) a b numbers =
    rw (eq-eqb one.number one.number refl, ne_eqb one.number other.number (in_two one.number other.number a b numbers).2, eq-eqb other.number other.number refl) refl
