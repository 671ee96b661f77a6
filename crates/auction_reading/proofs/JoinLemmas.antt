-- A parcel of an input, read as if nothing were before it, and then added to what was read.
use Rattle.std.proofs.Common.{arith, ◌≡◌, ◌||◌, ◌<◌, ◌≤◌, ◌+◌, ◌∷◌, ◌++◌, ◌∙◌, [], ℕ, zero, suc, List, Bool, true, false, not, length, refl, sym, ap, subst, append_assoc, inl, inr}
use Rattle.std.proofs.lemmas.{Bool.{cases_Bool}, List.{append-nil, nil_from_length}}
use Rattle.std.specs.Prelude.{replicate, slice_index_or, slice_set, vec_len}
use Rattle.auction_rows.specs.declared.requests.{Request.Request, Opened.Opened}
use Rattle.record_reading.proofs.AskingLemmas.{count_more}
use Rattle.record_reading.specs.Asking.{Asked, as_row, nothing_asked, with_record}
use Rattle.record_reading.specs.declared.inputs.TheConstants.{MOST_RECORDS}
use Rattle.record_reading.specs.declared.record.Record.{Record}
use Rattle.auction_reading.specs.declared.plain_text.Progress.{Progress}
use Rattle.auction_reading.specs.inner.Parcels.{CanJoin, joined, nothing_read, read_with, scripts_joined}
use Rattle.auction_reading.specs.inner.Said.{CanFollow, HasRead, WasRead, begun_after, read_by, with_records}

-- one request more at the end of a second part
set_joined : (xs ys : List (List Request)) (w : ℕ) (r : Request) → w < length ys → length xs ≡ length ys
    → slice_set (scripts_joined xs ys) w (slice_index_or (scripts_joined xs ys) w [] ++ r ∷ []) ≡ scripts_joined xs (slice_set ys w (slice_index_or ys w [] ++ r ∷ []))
set_joined [] [] w r below same = refl
set_joined (x ∷ xs) (y ∷ ys) zero r below same = ap (λ s. s ∷ scripts_joined xs ys) (append_assoc x y (r ∷ []))
set_joined (x ∷ xs) (y ∷ ys) (suc w) r below same = ap (λ ss. (x ++ y) ∷ ss) (set_joined xs ys w r (omega (arith, below)) (omega (arith, same)))
set_joined xs ys w r below same = absurd (cc)

-- one record more
record_joined : (said : Record) (a b : Asked) → said.worker < length b.scripts → length a.scripts ≡ length b.scripts → with_record said (joined a b) ≡ joined a (with_record said b)
record_joined said a b below same = elim (cases_Bool said.is_row) [
  | inl row ↦ rw row (ap (λ (rows : List Opened). record { rows = rows; scripts = scripts_joined a.scripts b.scripts }) (append_assoc a.rows b.rows _))
  | inr request ↦ rw request (ap (λ (scripts : List (List Request)). record { rows = a.rows ++ b.rows; scripts = scripts }) (set_joined a.scripts b.scripts said.worker said.request below same))
]

-- records
records_joined : (workers : ℕ) (begun : Bool) (said : List Record) (a b : Asked) → CanFollow workers begun said → length a.scripts ≡ workers → length b.scripts ≡ workers → with_records said (joined a b) ≡ joined a (with_records said b)
records_joined workers begun [] a b can first second = refl
records_joined workers begun (x ∷ xs) a b can first second =
    ap (with_records xs) (record_joined x a b (subst (λ n. x.worker < n) (sym second) can.0) (first ∙ sym second))
    ∙ records_joined workers (begun || not x.is_row) xs a (with_record x b) can.2 first (count_more x b ∙ second)

none_joined : (n : ℕ) (scripts : List (List Request)) → length scripts ≡ n → scripts_joined scripts (replicate n []) ≡ scripts
none_joined n [] is = refl
none_joined zero (x ∷ xs) is = absurd (cc)
none_joined (suc n) (x ∷ xs) is = (λ i. append-nil x i ∷ scripts_joined xs (replicate n [])) ∙ ap (λ ss. x ∷ ss) (none_joined n xs (omega (arith, is)))

nothing_joined : (workers : ℕ) (asked : Asked) → length asked.scripts ≡ workers → joined asked (nothing_asked workers) ≡ asked
nothing_joined workers asked is = λ i. record { rows = append-nil asked.rows i; scripts = none_joined workers asked.scripts is i }

nothing_counts : (workers : ℕ) → length (nothing_asked workers).scripts ≡ workers
nothing_counts zero = refl
nothing_counts (suc n) = ap suc (nothing_counts n)

-- what was begun stays begun
still_begun : (said : List Record) → begun_after said true ≡ true
still_begun [] = refl
still_begun (x ∷ xs) = still_begun xs

begun_before : (said : List Record) (begun : Bool) → begun_after said begun ≡ (begun || begun_after said false)
begun_before said true = still_begun said
begun_before said false = refl

-- where no row was asked in the end, no record is one
none_before : {A : Type 0} (zs : List A) (y : A) → zs ++ y ∷ [] ≡ [] → ⊥
none_before [] y none = absurd (cc)
none_before (z ∷ zs) y none = absurd (cc)

no_rows : (said : List Record) (asked : Asked) → (with_records said asked).rows ≡ [] → asked.rows ≡ []
no_rows [] asked is = is
no_rows (x ∷ xs) asked is =
    let after : (with_record x asked).rows ≡ [] = no_rows xs (with_record x asked) is in
    elim (cases_Bool x.is_row) [
      | inl row ↦ absurd (none_before asked.rows (as_row x) (rw row at after))
      | inr request ↦ rw request at after
    ]

no_row : (x : Record) (xs : List Record) (asked : Asked) → (with_records xs (with_record x asked)).rows ≡ [] → x.is_row ≡ false
no_row x xs asked is =
    let after : (with_record x asked).rows ≡ [] = no_rows xs (with_record x asked) is in
    elim (cases_Bool x.is_row) [
      | inl row ↦ absurd (none_before asked.rows (as_row x) (rw row at after))
      | inr request ↦ request
    ]

-- so they can follow requests
requests_follow : (workers : ℕ) (begun : Bool) (said : List Record) (asked : Asked) → CanFollow workers begun said → (with_records said asked).rows ≡ [] → CanFollow workers true said
requests_follow workers begun [] asked can none = tt
requests_follow workers begun (x ∷ xs) asked can none =
    let request = no_row x xs asked none in
    (can.0, rw request refl, requests_follow workers (begun || not x.is_row) xs (with_record x asked) can.2 none)

can_follow : (workers : ℕ) (begun : Bool) (said : List Record) (asked : Asked) → CanFollow workers false said → (begun ≡ true → (with_records said asked).rows ≡ []) → CanFollow workers begun said
can_follow workers true said asked can none = requests_follow workers false said asked can (none refl)
can_follow workers false said asked can none = can

joined_count : (xs ys : List (List Request)) → length xs ≡ length ys → length (scripts_joined xs ys) ≡ length xs
joined_count [] [] same = refl
joined_count (x ∷ xs) (y ∷ ys) same = ap suc (joined_count xs ys (omega (arith, same)))
joined_count xs ys same = absurd (cc)

-- a parcel that was read alone and then joined was read on
pub parcel_read_on : (old parcel : WasRead) (text left : List ℕ) → CanJoin old parcel → HasRead (nothing_read (length parcel.asked.scripts)) text parcel left → HasRead old text (read_with old parcel) left
parcel_read_on old parcel text left join read =
    let workers = length parcel.asked.scripts in
    let alone_count : parcel.count ≡ 0 + length read.said = read.count in
    let counted : old.count + parcel.count ≡ old.count + length read.said = omega (arith, alone_count) in
    let alone : CanFollow workers false read.said = subst (λ n. CanFollow n false read.said) (nothing_counts workers) read.follows in
    let can = can_follow workers old.begun read.said (nothing_asked workers) alone (λ begun. ap (λ (a : Asked). a.rows) (sym read.asked) ∙ join.rows begun) in
    record {
      said = read.said;
      says = read.says;
      follows = subst (λ n. CanFollow n old.begun read.said) (sym join.workers) can;
      asked = ap (joined old.asked) read.asked
          ∙ sym (records_joined workers old.begun read.said old.asked (nothing_asked workers) can join.workers (nothing_counts workers))
          ∙ ap (with_records read.said) (nothing_joined workers old.asked join.workers);
      workers = joined_count old.asked.scripts parcel.asked.scripts join.workers;
      count = counted;
      begun = ap (λ b. old.begun || b) read.begun ∙ sym (begun_before read.said old.begun);
      room = join.room;
    }

-- what the tests of a parcel say
pub can_join : (old parcel : Progress) → vec_len old.input.scripts ≡ vec_len parcel.input.scripts → old.count + parcel.count ≤ MOST_RECORDS → (old.begun ≡ true → vec_len parcel.input.rows ≡ 0)
    → CanJoin (read_by old) (read_by parcel)
can_join old parcel same room rows =
    let many : length old.input.scripts.items ≡ length parcel.input.scripts.items = omega (arith, same, old.input.scripts.ok.0, parcel.input.scripts.ok.0) in
    record {
      workers = many;
      room = room;
      rows = λ begun. nil_from_length parcel.input.rows.items (sym parcel.input.rows.ok.0 ∙ rows begun);
    }

-- what can be joined passes them: it has as many workers
pub same_workers : (old parcel : Progress) → CanJoin (read_by old) (read_by parcel) → vec_len old.input.scripts ≡ vec_len parcel.input.scripts
same_workers old parcel can = old.input.scripts.ok.0 ∙ can.workers ∙ sym parcel.input.scripts.ok.0

-- and no rows after a request
pub no_late_rows : (old parcel : Progress) → CanJoin (read_by old) (read_by parcel) → old.begun ≡ true → vec_len parcel.input.rows ≡ 0
no_late_rows old parcel can begun = parcel.input.rows.ok.0 ∙ ap length (can.rows begun)
