-- In which order a worker's commits stand.
use Rattle.std.proofs.Common.{◌≡◌, ℕ, zero, suc, ◌+◌, ◌<◌, ◌≤◌, ◌⊎◌, inl, inr, Bool, true, not, List, [], ◌∷◌, ◌++◌, length, map, Option, None, Some, refl, sym, ap, ◌∙◌, subst, arith}
use Rattle.std.{proofs.lemmas.List.{length-append}, specs.List.{filter, AllByRecursion}}
use Rattle.std.specs.{Option.{option_map, option_to_list}, Prelude.{slice_get}}
use Rattle.phase_laws.proofs.ListLemmas.{all-both, all-append, all-right, ordered-append, all-any}
use Rattle.phase_laws.proofs.OrderLemmas.{all-filter, all-weaker, ordered-filter, ordered-weaker, ordered_from_map, all-from_map}
use Rattle.phase_laws.specs.Order.{IsOrderedBy, part}
use Rattle.split_engine.specs.{Rules.{Rules}, Serving.{calls_before, call_of, IsInTurn}}
use Rattle.split_engine.specs.declared.{entry.Entry.{Entry}, state.Cursor.{Cursor}}
use Rattle.split_engine.specs.inner.Phases.{InOrder, HasStashed}

abbrev Ascends : {Q : Type 0} → List (ℕ × Q) → Type 0
Ascends {Q} = IsOrderedBy (λ (c e : ℕ × Q). c.0 < e.0)

one_before : {Q : Type 0} (k n : ℕ) (o : Option Q) → k < n → AllByRecursion (λ (c : ℕ × Q). c.0 < n) (option_to_list (option_map (λ q. (k, q)) o))
one_before k n None lt = tt
one_before k n (Some q) lt = (lt, tt)

pub below_next : {Q : Type 0} (script : List Q) (n : ℕ) → AllByRecursion (λ (c : ℕ × Q). c.0 < n) (calls_before script n)
below_next script zero = tt
below_next script (suc n) =
    all-append _ (calls_before script n) _ (all-weaker (λ (c : ℕ × _). c.0 < n) (λ c. c.0 < suc n) (λ c lt. omega (arith, lt)) (calls_before script n) (below_next script n)) (one_before n (suc n) (slice_get script n) (omega arith))

one_ascends : {Q : Type 0} (k : ℕ) (o : Option Q) → Ascends (option_to_list (option_map (λ q. (k, q)) o))
one_ascends k None = tt
one_ascends k (Some q) = (tt, tt)

one_above : {Q : Type 0} (n : ℕ) (c : ℕ × Q) (o : Option Q) → c.0 < n → AllByRecursion (λ (e : ℕ × Q). c.0 < e.0) (option_to_list (option_map (λ q. (n, q)) o))
one_above n c None lt = tt
one_above n c (Some q) lt = (lt, tt)

pub ascends : {Q : Type 0} (script : List Q) (n : ℕ) → Ascends (calls_before script n)
ascends script zero = tt
ascends {Q} script (suc n) =
    let last : List (ℕ × Q) = option_to_list (option_map (λ q. (n, q)) (slice_get script n)) in
    ordered-append (λ (c e : ℕ × Q). c.0 < e.0) (calls_before script n) last (ascends script n) (one_ascends n (slice_get script n))
    (all-weaker (λ (c : ℕ × Q). c.0 < n) (λ c. AllByRecursion (λ (e : ℕ × Q). c.0 < e.0) last)
    (λ c lt. one_above n c (slice_get script n) lt) (calls_before script n) (below_next script n))

-- of an ordered list in two parts
right_ordered : {X : Type 0} (R : X → X → Type 0) (xs ys : List X) → IsOrderedBy R (xs ++ ys) → IsOrderedBy R ys
right_ordered R [] ys h = h
right_ordered R (x ∷ xs) ys h = right_ordered R xs ys h.1

is_there : {Q : Type 0} (script : List Q) (n : ℕ) → n < length script → (q : Q) × (slice_get script n ≡ Some q)
is_there [] n lt = absurd (omega (arith, lt))
is_there (q ∷ qs) zero lt = (q, refl)
is_there (q ∷ qs) (suc n) lt = is_there qs n (omega (arith, lt))

last_before : {X : Type 0} (R : X → X → Type 0) (xs : List X) (x : X) (ys : List X) → IsOrderedBy R ((xs ++ x ∷ []) ++ ys) → AllByRecursion (R x) ys
last_before R [] x ys h = h.0
last_before R (y ∷ xs) x ys h = last_before R xs x ys h.1

-- the calls from a place on have no lesser index
pub above_next : {Q : Type 0} (script : List Q) (n m : ℕ) (all : List (ℕ × Q)) → n ≤ length script → calls_before script m ≡ calls_before script n ++ all →
    AllByRecursion (λ (c : ℕ × Q). n ≤ c.0) all
above_next script zero m all le is = all-any (λ (c : ℕ × _). 0 ≤ c.0) (λ c. omega arith) all
above_next script (suc n) m all le is =
    let at = is_there script n (omega (arith, le)) in
    let whole : calls_before script m ≡ (calls_before script n ++ (n, at.0) ∷ []) ++ all =
    is ∙ ap (λ o. (calls_before script n ++ option_to_list (option_map (λ q. (n, q)) o)) ++ all) at.1 in
    all-weaker (λ (c : ℕ × _). n < c.0) (λ c. suc n ≤ c.0) (λ c lt. omega (arith, lt)) all
    (last_before (λ (c e : ℕ × _). c.0 < e.0) (calls_before script n) (n, at.0) all (subst (λ cs. Ascends cs) whole (ascends script m)))

pub rest_ascends : {Q : Type 0} (script : List Q) (n m : ℕ) (all : List (ℕ × Q)) → calls_before script m ≡ calls_before script n ++ all → Ascends all
rest_ascends script n m all is = right_ordered (λ (c e : ℕ × _). c.0 < e.0) (calls_before script n) all (subst (λ cs. Ascends cs) is (ascends script m))

pub rest_below : {Q : Type 0} (script : List Q) (n m : ℕ) (all : List (ℕ × Q)) → calls_before script m ≡ calls_before script n ++ all → AllByRecursion (λ (c : ℕ × Q). c.0 < m) all
rest_below script n m all is = all-right (λ (c : ℕ × _). c.0 < m) (calls_before script n) all (subst (AllByRecursion (λ (c : ℕ × _). c.0 < m)) is (below_next script m))

one_long : {Q : Type 0} (k : ℕ) (o : Option Q) (q : Q) → o ≡ Some q → length {A = ℕ × Q} (option_to_list (option_map (λ r. (k, r)) o)) ≡ 1
one_long {Q} k o q is = ap (λ (p : Option Q). length {A = ℕ × Q} (option_to_list (option_map (λ r. (k, r)) p))) is

pub long_before : {Q : Type 0} (script : List Q) (n : ℕ) → n ≤ length script → length (calls_before script n) ≡ n
long_before script zero le = refl
long_before {Q} script (suc n) le =
    let at = is_there script n (omega (arith, le)) in
    let last : List (ℕ × Q) = option_to_list (option_map (λ q. (n, q)) (slice_get script n)) in
    let more : length (calls_before script n ++ last) ≡ length (calls_before script n) + 1 =
    length-append (calls_before script n) last ∙ ap (λ k. length (calls_before script n) + k) (one_long n (slice_get script n) at.0 at.1) in
    omega (arith, more, long_before script n (omega (arith, le)))

module _ {Record Slice Look Request Reply Act : Type 0} (rules : Rules Record Slice Look Request Reply Act) where
  abbrev Own : ℕ → List (Entry Request Reply) → List (Entry Request Reply)
  Own w es = part (λ (e : Entry Request Reply). e.worker) w es

  abbrev Early : Entry Request Reply → ℕ × Request → Type 0
  Early d call = (d.index < call.0) ⊎ (rules.splits d.request ≡ true)

  pub order_same : (w : ℕ) (cursor : Cursor Request) (history later : List (Entry Request Reply)) → Own w later ≡ Own w history → InOrder rules w cursor history → InOrder rules w cursor later
  order_same w cursor history later same h = record {
    in_turn = subst (IsOrderedBy (IsInTurn rules)) (sym same) h.in_turn;
    before_stash = subst (AllByRecursion (λ d. AllByRecursion (Early d) cursor.stash.items)) (sym same) h.before_stash;
    before_next = subst (AllByRecursion (λ (d : Entry Request Reply). d.index < cursor.next)) (sym same) h.before_next;
    stash_rises = h.stash_rises;
    stash_before = h.stash_before;
  }

  pub order_at_first : (w : ℕ) (cursor : Cursor Request) → cursor.stash.items ≡ [] → InOrder {Reply = Reply} rules w cursor []
  order_at_first w cursor none = record {
    in_turn = tt;
    before_stash = tt;
    before_next = tt;
    stash_rises = subst (IsOrderedBy (λ (c e : ℕ × Request). c.0 < e.0)) (sym none) tt;
    stash_before = subst (AllByRecursion (λ (c : ℕ × Request). c.0 < cursor.next)) (sym none) tt;
  }

  -- an entry before later calls
  early_of : (d : Entry Request Reply) (n : ℕ) → d.index < n → (calls : List (ℕ × Request)) → AllByRecursion (λ (c : ℕ × Request). n ≤ c.0) calls → AllByRecursion (Early d) calls
  early_of d n lt calls above = all-weaker (λ (c : ℕ × Request). n ≤ c.0) (Early d) (λ c le. inl (omega (arith, lt, le))) calls above

  early_turn : (d : Entry Request Reply) (es : List (Entry Request Reply)) → AllByRecursion (Early d) (map call_of es) → AllByRecursion (IsInTurn rules d) es
  early_turn d es h = all-from_map call_of (Early d) es h

  ascending_turn : (es : List (Entry Request Reply)) → IsOrderedBy (λ (c e : ℕ × Request). c.0 < e.0) (map call_of es) → IsOrderedBy (IsInTurn rules) es
  ascending_turn es h = ordered-weaker (λ (d e : Entry Request Reply). d.index < e.index) (IsInTurn rules) (λ d e lt. inl lt) es (ordered_from_map call_of (λ (c e : ℕ × Request). c.0 < e.0) es h)

  pub stash_and_all : (w : ℕ) (script : List Request) (old mid : Cursor Request) (history : List (Entry Request Reply)) (all : List (ℕ × Request)) →
      old.next ≤ length script → InOrder rules w old history → calls_before script mid.next ≡ calls_before script old.next ++ all →
      IsOrderedBy (λ (c e : ℕ × Request). c.0 < e.0) (old.stash.items ++ all)
  stash_and_all w script old mid history all le h follows =
      ordered-append _ old.stash.items all h.stash_rises (rest_ascends script old.next mid.next all follows)
      (all-weaker (λ (c : ℕ × Request). c.0 < old.next) (λ c. AllByRecursion (λ (e : ℕ × Request). c.0 < e.0) all)
      (λ c lt. all-weaker (λ (e : ℕ × Request). old.next ≤ e.0) (λ e. c.0 < e.0) (λ e ge. omega (arith, lt, ge)) all (above_next script old.next mid.next all le follows))
      old.stash.items h.stash_before)

  next_grows : (script : List Request) (n m : ℕ) (all : List (ℕ × Request)) → n ≤ length script → m ≤ length script → calls_before script m ≡ calls_before script n ++ all → n ≤ m
  next_grows script n m all le le_m follows =
      let long : length (calls_before script m) ≡ length (calls_before script n) + length all = ap length follows ∙ length-append (calls_before script n) all in
      omega (arith, long, long_before script n le, long_before script m le_m)

  -- a turn in a joined phase
  pub order_turned : (w : ℕ) (script : List Request) (old mid new : Cursor Request) (history more : List (Entry Request Reply)) →
      old.next ≤ length script → InOrder rules w old history → HasStashed script old mid → AllByRecursion (λ (e : Entry Request Reply). e.worker ≡ w) more → Own w (history ++ more) ≡ Own w history ++ more →
      map call_of more ≡ mid.stash.items → new.next ≡ mid.next → new.stash.items ≡ [] → InOrder rules w new (history ++ more)
  order_turned w script old mid new history more le h f own parts performed next empty =
      let grows = next_grows script old.next mid.next f.all le f.next_in f.follows in
      let calls : map call_of more ≡ old.stash.items ++ f.all = performed ∙ f.stash_is in
      let above = above_next script old.next mid.next f.all le f.follows in
      let below = rest_below script old.next mid.next f.all f.follows in
      let rises = subst (IsOrderedBy (λ (c e : ℕ × Request). c.0 < e.0)) (sym calls) (stash_and_all w script old mid history f.all le h f.follows) in
      let early : AllByRecursion (λ d. AllByRecursion (Early d) (old.stash.items ++ f.all)) (Own w history) =
      all-weaker (λ d. AllByRecursion (Early d) old.stash.items × (d.index < old.next)) (λ d. AllByRecursion (Early d) (old.stash.items ++ f.all))
      (λ d both. all-append (Early d) old.stash.items f.all both.0 (early_of d old.next both.1 f.all above)) (Own w history)
      (all-both (λ d. AllByRecursion (Early d) old.stash.items) (λ d. d.index < old.next) (Own w history) h.before_stash h.before_next) in
      let cross : AllByRecursion (λ d. AllByRecursion (IsInTurn rules d) more) (Own w history) =
      all-weaker (λ d. AllByRecursion (Early d) (old.stash.items ++ f.all)) (λ d. AllByRecursion (IsInTurn rules d) more)
      (λ d e. early_turn d more (subst (AllByRecursion (Early d)) (sym calls) e)) (Own w history) early in
      let under : AllByRecursion (λ (e : Entry Request Reply). e.index < new.next) more =
      all-from_map call_of (λ (c : ℕ × Request). c.0 < new.next) more (subst (AllByRecursion (λ (c : ℕ × Request). c.0 < new.next)) (sym calls)
      (all-append (λ (c : ℕ × Request). c.0 < new.next) old.stash.items f.all
      (all-weaker (λ (c : ℕ × Request). c.0 < old.next) (λ c. c.0 < new.next) (λ c lt. omega (arith, lt, grows, next)) old.stash.items h.stash_before)
      (all-weaker (λ (c : ℕ × Request). c.0 < mid.next) (λ c. c.0 < new.next) (λ c lt. omega (arith, lt, next)) f.all below))) in record {
        in_turn = subst (IsOrderedBy (IsInTurn rules)) (sym parts) (ordered-append (IsInTurn rules) (Own w history) more h.in_turn (ascending_turn more rises) cross);
        before_stash = subst (λ (cs : List (ℕ × Request)). AllByRecursion (λ d. AllByRecursion (Early d) cs) (Own w (history ++ more))) (sym empty) (all-any (λ (d : Entry Request Reply). AllByRecursion (Early d) []) (λ d. tt) (Own w (history ++ more)));
        before_next = subst (AllByRecursion (λ (d : Entry Request Reply). d.index < new.next)) (sym parts) (all-append _ (Own w history) more
            (all-weaker (λ (d : Entry Request Reply). d.index < old.next) (λ d. d.index < new.next) (λ d lt. omega (arith, lt, grows, next)) (Own w history) h.before_next) under);
        stash_rises = subst (IsOrderedBy (λ (c e : ℕ × Request). c.0 < e.0)) (sym empty) tt;
        stash_before = subst (AllByRecursion (λ (c : ℕ × Request). c.0 < new.next)) (sym empty) tt;
      }

  -- a part of a split phase
  pub order_worked : (taken : Request → Bool) (w : ℕ) (script : List Request) (old new : Cursor Request) (history journal : List (Entry Request Reply)) (all : List (ℕ × Request)) →
      old.next ≤ length script → new.next ≤ length script → InOrder rules w old history → calls_before script new.next ≡ calls_before script old.next ++ all →
      AllByRecursion (λ (e : Entry Request Reply). rules.splits e.request ≡ true) journal → Own w (history ++ journal) ≡ Own w history ++ journal →
      map call_of journal ≡ filter (λ call. taken call.1) all → new.stash.items ≡ old.stash.items ++ filter (λ call. not (taken call.1)) all → InOrder rules w new (history ++ journal)
  order_worked taken w script old new history journal all le le_new h follows splits parts performed stash_is =
      let grows = next_grows script old.next new.next all le le_new follows in
      let above = above_next script old.next new.next all le follows in
      let below = rest_below script old.next new.next all follows in
      let kept = filter (λ (call : ℕ × Request). taken call.1) all in let lost = filter (λ (call : ℕ × Request). not (taken call.1)) all in
      let above_kept = all-filter (λ (c : ℕ × Request). old.next ≤ c.0) (λ (call : ℕ × Request). taken call.1) all above in
      let above_lost = all-filter (λ (c : ℕ × Request). old.next ≤ c.0) (λ (call : ℕ × Request). not (taken call.1)) all above in
      let below_kept = all-filter (λ (c : ℕ × Request). c.0 < new.next) (λ (call : ℕ × Request). taken call.1) all below in
      let below_lost = all-filter (λ (c : ℕ × Request). c.0 < new.next) (λ (call : ℕ × Request). not (taken call.1)) all below in
      let cross : AllByRecursion (λ d. AllByRecursion (IsInTurn rules d) journal) (Own w history) =
      all-weaker (λ (d : Entry Request Reply). d.index < old.next) (λ d. AllByRecursion (IsInTurn rules d) journal)
      (λ d lt. early_turn d journal (subst (AllByRecursion (Early d)) (sym performed) (early_of d old.next lt kept above_kept))) (Own w history) h.before_next in
      let within : IsOrderedBy (IsInTurn rules) journal = ascending_turn journal (subst (IsOrderedBy (λ (c e : ℕ × Request). c.0 < e.0)) (sym performed)
      (ordered-filter (λ (c e : ℕ × Request). c.0 < e.0) (λ (call : ℕ × Request). taken call.1) all (rest_ascends script old.next new.next all follows))) in
      let early : AllByRecursion (λ d. AllByRecursion (Early d) (old.stash.items ++ lost)) (Own w history) =
      all-weaker (λ d. AllByRecursion (Early d) old.stash.items × (d.index < old.next)) (λ d. AllByRecursion (Early d) (old.stash.items ++ lost))
      (λ d both. all-append (Early d) old.stash.items lost both.0 (early_of d old.next both.1 lost above_lost)) (Own w history)
      (all-both (λ d. AllByRecursion (Early d) old.stash.items) (λ d. d.index < old.next) (Own w history) h.before_stash h.before_next) in
      let own_early : AllByRecursion (λ d. AllByRecursion (Early d) (old.stash.items ++ lost)) journal =
      all-weaker (λ (e : Entry Request Reply). rules.splits e.request ≡ true) (λ d. AllByRecursion (Early d) (old.stash.items ++ lost)) (λ d s. all-any (Early d) (λ c. inr s) (old.stash.items ++ lost)) journal splits in
      let under : AllByRecursion (λ (e : Entry Request Reply). e.index < new.next) journal =
      all-from_map call_of (λ (c : ℕ × Request). c.0 < new.next) journal (subst (AllByRecursion (λ (c : ℕ × Request). c.0 < new.next)) (sym performed) below_kept) in record {
        in_turn = subst (IsOrderedBy (IsInTurn rules)) (sym parts) (ordered-append (IsInTurn rules) (Own w history) journal h.in_turn within cross);
        before_stash = subst (λ (cs : List (ℕ × Request)). AllByRecursion (λ d. AllByRecursion (Early d) cs) (Own w (history ++ journal))) (sym stash_is)
            (subst (AllByRecursion (λ d. AllByRecursion (Early d) (old.stash.items ++ lost))) (sym parts) (all-append _ (Own w history) journal early own_early));
        before_next = subst (AllByRecursion (λ (d : Entry Request Reply). d.index < new.next)) (sym parts) (all-append _ (Own w history) journal
            (all-weaker (λ (d : Entry Request Reply). d.index < old.next) (λ d. d.index < new.next) (λ d lt. omega (arith, lt, grows)) (Own w history) h.before_next) under);
        stash_rises = subst (IsOrderedBy (λ (c e : ℕ × Request). c.0 < e.0)) (sym stash_is)
            (ordered-append _ old.stash.items lost h.stash_rises (ordered-filter (λ (c e : ℕ × Request). c.0 < e.0) (λ (call : ℕ × Request). not (taken call.1)) all (rest_ascends script old.next new.next all follows))
            (all-weaker (λ (c : ℕ × Request). c.0 < old.next) (λ c. AllByRecursion (λ (e : ℕ × Request). c.0 < e.0) lost)
            (λ c lt. all-weaker (λ (e : ℕ × Request). old.next ≤ e.0) (λ e. c.0 < e.0) (λ e ge. omega (arith, lt, ge)) lost above_lost) old.stash.items h.stash_before));
        stash_before = subst (AllByRecursion (λ (c : ℕ × Request). c.0 < new.next)) (sym stash_is) (all-append _ old.stash.items lost
            (all-weaker (λ (c : ℕ × Request). c.0 < old.next) (λ c. c.0 < new.next) (λ c lt. omega (arith, lt, grows)) old.stash.items h.stash_before) below_lost);
      }
