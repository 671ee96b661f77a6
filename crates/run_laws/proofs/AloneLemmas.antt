-- What one worker's entries of a phase are determined by.
use Rattle.std.proofs.Common.{◌≡◌, ℕ, suc, ◌+◌, max, ◌==◌, ◌&&◌, Bool, true, false, cond, List, [], ◌∷◌, ◌++◌, map, length, refl, subst, sym, ap, ◌∙◌, arith, eq-eqb}
use Rattle.std.proofs.lemmas.{Bool.{or_left}, List.{append_assoc}}
use Rattle.std.specs.List.{list_any, AllByRecursion}
use Rattle.auction_rows.specs.{Book.{Book}, Footprint.{footprint, takes_shard}}
use Rattle.auction_rows.specs.History.{after_entry, ReplaysFrom}
use Rattle.auction_rows.specs.{Phases.{has_in_common, IsNumbered}, Replies.{reply}}
use Rattle.auction_rows.specs.declared.{values.Opening.Opening, requests.Object.Object, rows.Entry.Entry}
use Rattle.phase_laws.proofs.OrderLemmas.{all-weaker, all_push}
use Rattle.phase_laws.specs.Numbers.{greatest_by, IsNumberedFrom, FollowsWhatItShares}
use Rattle.run_laws.proofs.{CountLemmas.{how_many}, CutLemmas.{filter_true}}
use Rattle.run_laws.specs.Serving.{call_of}

-- ---- lists of one element, repeated

pub same_repeated : {X : Type 0} (a : X) (xs ys : List X) → AllByRecursion (λ x. x ≡ a) xs → AllByRecursion (λ y. y ≡ a) ys → length xs ≡ length ys → xs ≡ ys
same_repeated a [] [] are are' len = refl
same_repeated a (x ∷ xs) (y ∷ ys) are are' len =
    let first : x ≡ y = are.0 ∙ sym are'.0 in
    let rest : xs ≡ ys = same_repeated a xs ys are.1 are'.1 (omega arith) in λ k. first k ∷ rest k
same_repeated a xs ys are are' len = absurd (omega arith)

pub count_none : {X : Type 0} (p : X → Bool) (xs : List X) → AllByRecursion (λ x. p x ≡ false) xs → how_many p xs ≡ 0
count_none p [] none = refl
count_none p (x ∷ xs) none = ap (λ b. cond b 1 0 + how_many p xs) none.0 ∙ omega (arith, count_none p xs none.1)

pub count_where : {X : Type 0} (b : Bool) (p : X → Bool) (xs : List X) → how_many (λ x. b && p x) xs ≡ cond b (how_many p xs) 0
count_where true p xs = refl
count_where false p [] = refl
count_where false p (x ∷ xs) = omega (arith, count_where false p xs)

-- ---- numbers of one worker

module _ {X : Type 0} (number worker : X → ℕ) (w : ℕ) (shares : X → X → Bool) (own : (x y : X) → worker y ≡ worker x → shares x y ≡ true) where
  greatest_last : (xs : List X) (x : X) → greatest_by number (xs ++ x ∷ []) ≡ max (greatest_by number xs) (number x)
  greatest_last [] x = omega arith
  greatest_last (y ∷ xs) x = let again : greatest_by number (xs ++ x ∷ []) ≡ max (greatest_by number xs) (number x) = greatest_last xs x in omega arith

  -- where all share something, each number is one more than the one before
  pub numbered_alone : (earlier xs : List X) → AllByRecursion (λ x. worker x ≡ w) earlier → AllByRecursion (λ x. worker x ≡ w) xs →
      FollowsWhatItShares number shares (earlier ++ xs) → IsNumberedFrom number (λ x. 0) (greatest_by number earlier) xs
  numbered_alone earlier [] all all' follows = tt
  numbered_alone earlier (x ∷ xs) all all' follows =
      let here : number x ≡ suc (greatest_by number earlier) =
      follows earlier x xs refl
      ∙ ap (λ ys. suc (greatest_by number ys)) (filter_true (shares x) earlier
      (all-weaker (λ y. worker y ≡ w) (λ y. shares x y ≡ true) (λ y is. own x y (is ∙ sym all'.0)) earlier all)) in
      let last : greatest_by number (earlier ++ x ∷ []) ≡ number x = greatest_last earlier x ∙ omega arith in
      let rest : IsNumberedFrom number (λ x. 0) (greatest_by number (earlier ++ x ∷ [])) xs =
      numbered_alone (earlier ++ x ∷ []) xs (all_push (λ x. worker x ≡ w) earlier x all all'.0) all'.1
      (subst (FollowsWhatItShares number shares) (sym (append_assoc earlier (x ∷ []) xs)) follows) in
      (here ∙ omega arith, subst (λ n. IsNumberedFrom number (λ x. 0) n xs) last rest)

-- a worker has in common with itself
own_in_common : (opening : Opening) (shards : ℕ) (hot : List Object) (d e : Entry) → e.worker ≡ d.worker → has_in_common opening shards hot d e ≡ true
own_in_common opening shards hot d e same =
    or_left (e.worker == d.worker) (list_any (λ shard. takes_shard opening shards hot e shard) (footprint opening shards hot d)) (eq-eqb e.worker d.worker same)

pub one_after_another : (opening : Opening) (shards w : ℕ) (hot : List Object) (entries : List Entry) → AllByRecursion (λ e. e.worker ≡ w) entries →
    IsNumbered opening shards hot entries → IsNumberedFrom (λ e. e.number) (λ e. 0) 0 entries
one_after_another opening shards w hot entries all numbered =
    numbered_alone (λ e. e.number) (λ e. e.worker) w (has_in_common opening shards hot) (own_in_common opening shards hot) [] entries tt all numbered.follows

-- ---- entries of one phase and one worker

same_entry : (d e : Entry) → d.phase ≡ e.phase → d.number ≡ e.number → d.worker ≡ e.worker → call_of d ≡ call_of e → d.reply ≡ e.reply → d ≡ e
same_entry d e phases numbers workers calls replies =
    λ k. record { phase = phases k; number = numbers k; worker = workers k; index = (calls k).0; request = (calls k).1; reply = replies k }

-- What is known of the entries: all are of this phase and worker, numbered after this number, and replay from this book.
pub record AreAlone (opening : Opening) (phase worker number : ℕ) (book : Book) (entries : List Entry) : Type 0 where
  pub phases : AllByRecursion (λ e. e.phase ≡ phase) entries
  pub workers : AllByRecursion (λ e. e.worker ≡ worker) entries
  pub numbers : IsNumberedFrom (λ e. e.number) (λ e. 0) number entries
  pub replays : ReplaysFrom opening book entries

-- entries of the same calls are the same
pub same_entries : (opening : Opening) (phase worker number : ℕ) (book : Book) (xs ys : List Entry) → map call_of xs ≡ map call_of ys →
    AreAlone opening phase worker number book xs → AreAlone opening phase worker number book ys → xs ≡ ys
same_entries opening phase worker number book [] [] calls are are' = refl
same_entries opening phase worker number book (x ∷ xs) (y ∷ ys) calls are are' =
    let call : call_of x ≡ call_of y = cc in let later : map call_of xs ≡ map call_of ys = cc in
    let workers : x.worker ≡ y.worker = are.workers.0 ∙ sym are'.workers.0 in
    let numbers : x.number ≡ y.number = are.numbers.0 ∙ sym are'.numbers.0 in
    let replies : x.reply ≡ y.reply = are.replays.0 ∙ (λ k. reply opening book (workers k) (call k).1) ∙ sym are'.replays.0 in
    let first : x ≡ y = same_entry x y (are.phases.0 ∙ sym are'.phases.0) numbers workers call replies in
    let rest : xs ≡ ys = same_entries opening phase worker x.number (after_entry opening book x) xs ys later
    (record { phases = are.phases.1; workers = are.workers.1; numbers = are.numbers.1; replays = are.replays.1 })
    (record {
      phases = are'.phases.1;
      workers = are'.workers.1;
      numbers = subst (λ n. IsNumberedFrom (λ e. e.number) (λ e. 0) n ys) (sym numbers) are'.numbers.1;
      replays = subst (λ e. ReplaysFrom opening (after_entry opening book e) ys) (sym first) are'.replays.1;
    }) in λ k. first k ∷ rest k
same_entries opening phase worker number book xs ys calls are are' = absurd (cc)
