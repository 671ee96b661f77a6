-- The rows that an auction is opened with: what many requests leave.
use Rattle.std.proofs.Common.{◌≡◌, ℕ, zero, suc, ◌+◌, ◌*◌, ◌<◌, ◌≤◌, ◌==◌, Bool, true, false, cond, not, ◌&&◌, List, [], ◌∷◌, ◌++◌, All, map, Option, Some, None, option_to_list, is_some, is_none, length, take, drop, fold, get_or, refl, sym, ap, subst, ◌∙◌, arith, append_assoc}
use Rattle.std.proofs.lemmas.Bool.{eqb-true, eq-eqb, false≢true}
use Rattle.std.proofs.lemmas.List.{length-append, take-append-drop, length-take-le, append-nil}
use Rattle.std.proofs.lemmas.List.Elements.{All-push, recursion_from_All}
use Rattle.std.proofs.lemmas.List.Sums.{fold_push, sum_by-append, sum_by-cons, sum_by_push}
use Rattle.std.specs.List.{AllByRecursion, cons_option}
use Rattle.std.specs.Prelude.{◌↔◌, Result, Ok, Err, IfOk, OnOk, IsOkUnless, IsErrOf, IsErrAnd, IsTrue}
use Rattle.phase_laws.proofs.{OrderLemmas.{all_push}, ReplayLemmas.{replays_append}}
use Rattle.phase_laws.specs.Replay.{Replays}
use Rattle.auction_rows.{proofs.HistoryLemmas.{longer_book, own_row, rows_go_on}, specs.Book.{Book}}
use Rattle.auction_rows.specs.{History.{commit, commit_of, GoOn, IsBook}, Replies.{reply, row_of}}
use Rattle.auction_rows.specs.declared.{values.Opening.Opening, requests.Opened.Opened, rows.Row.Row}
use Rattle.item_shards.proofs.OpeningLemmas.{row_at, made, row_added, one_more}
use Rattle.item_shards.proofs.SerialLemmas.{worker_is, worker_of_added}
use Rattle.item_shards.specs.Counting.{worker_of}
use Rattle.item_shards.specs.OpeningRows.{with_opened, opening_rows, IsRow, AreRows, IsFirstBad, opened_of, asked_by, IsTooLong, rows_by}
use Rattle.item_shards.specs.declared.openings.ResumeFault.{ResumeFault}
use Rattle.item_shards.specs.declared.openings.ResumeFault.TheVariants.{TooLong, BadRow, Memory}

-- ---- one row more

some_of : {X : Type 0} (o : Option X) → is_some o ≡ true → (x : X) × (o ≡ Some x)
some_of None e = absurd (false≢true e)
some_of (Some x) e = (x, refl)

-- a row at its place has one row of its worker
pub record Adds (start : Opening) (book : Book) (opened : Opened) : Type 0 where
  pub row : Row
  pub after : with_opened start book opened ≡ book ++ row ∷ []
  pub worker_is : worker_of row ≡ opened.worker

pub adds : (start : Opening) (book : Book) (opened : Opened) → IsRow start book opened → Adds start book opened
adds start book opened is =
    let some = some_of (row_at start book opened) (made start book opened ∙ (λ i. not (is.store i) && is_none (is.accepted i))) in
    record {
      row = some.0;
      after = ap (λ o. book ++ option_to_list o) some.1;
      worker_is = worker_of_added start book opened.worker opened.request some.0 some.1;
    }

-- the book with a request's row is a book
next_is_book : (start : Opening) (book : Book) (opened : Opened) → IsBook start book → IsBook start (with_opened start book opened)
next_is_book start book opened is =
    let answered = reply start book opened.worker opened.request in
    subst (λ rows. IsBook start (book ++ rows)) (same (row_at start book opened))
    (longer_book start book (cons_option (row_at start book opened) []) is (rows_go_on start book (commit opened.worker opened.request answered ∷ []) (refl, tt))) where
      same : (o : Option Row) → cons_option o [] ≡ option_to_list o
      same None = refl
      same (Some row) = refl

-- ---- many rows

module _ (start : Opening) where
  -- they are rows, each at its place from this book on
  abbrev AreRowsFrom : Book → List Opened → Type 0
  AreRowsFrom = Replays (IsRow start) (with_opened start)

  abbrev after_all : Book → List Opened → Book
  after_all = fold (with_opened start)

  book_kept : (book : Book) (all : List Opened) → IsBook start book → IsBook start (after_all book all)
  book_kept book [] is = is
  book_kept book (opened ∷ all) is = book_kept (with_opened start book opened) all (next_is_book start book opened is)

  workers_kept : (book : Book) (all : List Opened) → AreRowsFrom book all → All (λ row. worker_of row < 16) book → All (λ row. worker_of row < 16) (after_all book all)
  workers_kept book [] are known = known
  workers_kept book (opened ∷ all) are known =
      let one = adds start book opened are.0 in
      workers_kept (with_opened start book opened) all are.1
      (subst (All (λ row. worker_of row < 16)) (sym one.after) (All-push (λ row. worker_of row < 16) book one.row known (subst (λ w. w < 16) (sym one.worker_is) are.0.worker)))

  rows_counted : (book : Book) (all : List Opened) → AreRowsFrom book all → length (after_all book all) ≡ length book + length all
  rows_counted book [] are = omega arith
  rows_counted book (opened ∷ all) are =
      let one = adds start book opened are.0 in
      omega (arith, rows_counted (with_opened start book opened) all are.1, ap length one.after, length-append book (one.row ∷ []))

  of_worker : (book : Book) (all : List Opened) → AreRowsFrom book all → (worker : ℕ) → rows_by (after_all book all) worker ≡ rows_by book worker + asked_by all worker
  of_worker book [] are worker = omega arith
  of_worker book (opened ∷ all) are worker =
      let one = adds start book opened are.0 in
      of_worker (with_opened start book opened) all are.1 worker
      ∙ ap (λ n. n + asked_by all worker)
      (ap (λ after. rows_by after worker) one.after ∙ sum_by_push (λ (row : Row). cond (worker_of row == worker) 1 0) book one.row
      ∙ ap (λ w. rows_by book worker + cond (w == worker) 1 0) one.worker_is)
      ∙ omega (arith, sum_by-cons (λ (one : Opened). cond (one.worker == worker) 1 0) opened all)

  workers_known : (book : Book) (all : List Opened) → AreRowsFrom book all → AllByRecursion (λ opened. opened.worker < 16) all
  workers_known book [] are = tt
  workers_known book (opened ∷ all) are = (are.0.worker, workers_known (with_opened start book opened) all are.1)

-- ---- how many there are

-- how many are of the workers below this one
abbrev total : ℕ → List Opened → ℕ
total zero all = 0
total (suc k) all = asked_by all k + total k all

one_asks : (worker : ℕ) (opened : Opened) (all : List Opened) → asked_by (opened ∷ all) worker ≡ cond (opened.worker == worker) 1 0 + asked_by all worker
one_asks worker opened all = sum_by-cons (λ (one : Opened). cond (one.worker == worker) 1 0) opened all

total_without : (k : ℕ) (opened : Opened) (all : List Opened) → k ≤ opened.worker → total k (opened ∷ all) ≡ total k all
total_without zero opened all out = refl
total_without (suc k) opened all out = at (opened.worker == k) refl (total_without k opened all (omega (arith, out))) where
  at : (b : Bool) → (opened.worker == k) ≡ b → total k (opened ∷ all) ≡ total k all → total (suc k) (opened ∷ all) ≡ total (suc k) all
  at true e rest = absurd (omega (arith, eqb-true opened.worker k e, out))
  at false e rest = omega (arith, one_asks k opened all ∙ ap (λ b. cond b 1 0 + asked_by all k) e, rest)

total_with : (k : ℕ) (opened : Opened) (all : List Opened) → opened.worker < k → total k (opened ∷ all) ≡ total k all + 1
total_with zero opened all below = absurd (omega (arith, below))
total_with (suc k) opened all below = at (opened.worker == k) refl (total_with k opened all) where
  at : (b : Bool) → (opened.worker == k) ≡ b → (opened.worker < k → total k (opened ∷ all) ≡ total k all + 1) → total (suc k) (opened ∷ all) ≡ total (suc k) all + 1
  at true e rest = omega (arith, one_asks k opened all ∙ ap (λ b. cond b 1 0 + asked_by all k) e, total_without k opened all (omega (arith, eqb-true opened.worker k e)))
  at false e rest =
      let other : opened.worker ≡ k → ⊥ = λ same. false≢true (sym e ∙ eq-eqb opened.worker k same) in
      omega (arith, one_asks k opened all ∙ ap (λ b. cond b 1 0 + asked_by all k) e, rest (omega (arith, below, other)))

total_of_none : (k : ℕ) → total k [] ≡ 0
total_of_none zero = refl
total_of_none (suc k) = omega (arith, total_of_none k)

all_counted : (all : List Opened) → AllByRecursion (λ opened. opened.worker < 16) all → length all ≡ total 16 all
all_counted [] known = sym (total_of_none 16)
all_counted (opened ∷ all) known = omega (arith, all_counted all known.1, total_with 16 opened all known.0)

total_at_most : (k : ℕ) (all : List Opened) → ((worker : ℕ) → worker < k → asked_by all worker ≤ 1000000) → total k all ≤ k * 1000000
total_at_most zero all few = omega arith
total_at_most (suc k) all few = omega (arith, few k (omega arith), total_at_most k all (λ worker below. few worker (omega (arith, below))))

at_most : (n : ℕ) → ¬ (1000000 < n) → n ≤ 1000000
at_most n few = omega (arith, few)

pub few_of_each : (all : List Opened) → ¬ IsTooLong all → (worker : ℕ) → worker < 16 → asked_by all worker ≤ 1000000
few_of_each all fits worker below = at_most (asked_by all worker) (λ many. fits (worker, below, many))

part_asks : (all : List Opened) (i worker : ℕ) → asked_by (take i all) worker ≤ asked_by all worker
part_asks all i worker =
    omega (arith, ap (λ list. asked_by list worker) (take-append-drop i all), sum_by-append (λ (one : Opened). cond (one.worker == worker) 1 0) (take i all) (drop i all))

-- ---- the requests before a place, and the one there

module _ (start : Opening) (all : List Opened) (fits : ¬ IsTooLong all) (i : ℕ) (opened : Opened) (within : i < length all) (is : opened ≡ get_or all i opened)
    (are : AreRows start (take i all)) where
  -- before a request of a worker below 16 the book is not full
  pub not_full : opened.worker < 16 → length (opening_rows start (take i all)) < 16000000
  not_full below =
      let part = take (i + 1) all in let longer = one_more all i opened within is in
      let known = subst (AllByRecursion (λ one. one.worker < 16)) (sym longer) (all_push (λ one. one.worker < 16) (take i all) opened (workers_known start [] (take i all) are) below) in
      let few : total 16 part ≤ 16 * 1000000 = total_at_most 16 part (λ worker under. omega (arith, part_asks all (i + 1) worker, few_of_each all fits worker under)) in
      omega (arith, rows_counted start [] (take i all) are, all_counted part known, few, ap length longer, length-append (take i all) (opened ∷ []))

  pub not_last : opened.worker < 16 → i + 1 ≤ 16000000
  not_last below = omega (arith, not_full below, rows_counted start [] (take i all) are, length-take-le i all (omega (arith, within)))

  pub rows_more : IsRow start (opening_rows start (take i all)) opened → AreRows start (take (i + 1) all)
  rows_more row =
      subst (AreRows start) (sym (one_more all i opened within is)) (replays_append (IsRow start) (with_opened start) [] (take i all) (opened ∷ []) are (row, tt))

  pub book_more : opening_rows start (take (i + 1) all) ≡ with_opened start (opening_rows start (take i all)) opened
  book_more = ap (opening_rows start) (one_more all i opened within is) ∙ fold_push (with_opened start) [] (take i all) opened

  pub first_bad : ¬ IsRow start (opening_rows start (take i all)) opened → IsFirstBad start all (i + 1)
  first_bad no_row = record {
    good = take i all;
    bad = opened;
    rest = drop (i + 1) all;
    split = sym (take-append-drop (i + 1) all) ∙ ap (λ part. part ++ drop (i + 1) all) (one_more all i opened within is) ∙ append_assoc (take i all) (opened ∷ []) (drop (i + 1) all);
    number_is = ap (λ n. n + 1) (sym (length-take-le i all (omega (arith, within))));
    are_rows = are;
    no_row = no_row;
  }

-- ---- the whole book

row_after : (start : Opening) (book : Book) (good : List Opened) (opened : Opened) (rest : List Opened) → AreRowsFrom start book (good ++ opened ∷ rest) → IsRow start (after_all start book good) opened
row_after start book [] opened rest are = are.0
row_after start book (first ∷ good) opened rest are = row_after start (with_opened start book first) good opened rest are.1

-- where one is no row, they are not rows
pub not_rows : (start : Opening) (all : List Opened) (n : ℕ) → IsFirstBad start all n → ¬ AreRows start all
not_rows start all n first are = first.no_row (row_after start [] first.good first.bad first.rest (subst (AreRows start) first.split are))

module _ (start : Opening) (all : List Opened) (are : AreRows start all) where
  pub is_book : IsBook start (opening_rows start all)
  is_book = book_kept start [] all tt

  pub has_all : length (opening_rows start all) ≡ length all
  has_all = omega (arith, rows_counted start [] all are)

  pub has_as_many : (worker : ℕ) → rows_by (opening_rows start all) worker ≡ asked_by all worker
  has_as_many worker = omega (arith, of_worker start [] all are worker)

  pub has_workers : All (λ row. worker_of row < 16) (opening_rows start all)
  has_workers = workers_kept start [] all are (λ k d within. absurd (omega (arith, within)))

  pub has_few : ¬ IsTooLong all → (worker : ℕ) → worker < 16 → rows_by (opening_rows start all) worker ≤ 1000000
  has_few fits worker below = omega (arith, of_worker start [] all are worker, few_of_each all fits worker below)

-- ---- a book handed in again

module _ (start : Opening) where
  -- a row that goes on a book is at its place there
  row_again : (book : Book) (row : Row) → reply start book (commit_of row).worker (commit_of row).request ≡ (commit_of row).reply → worker_of row < 16
      → IsRow start book (opened_of row) × (with_opened start book (opened_of row) ≡ book ++ row ∷ [])
  row_again book row right below =
      row_added start book (opened_of row) row (subst (λ w. w < 16) (worker_is row) below) (ap (row_of (commit_of row).worker (commit_of row).request) right ∙ own_row row)

  rows_again : (book rows : Book) → GoOn start book rows → AllByRecursion (λ row. worker_of row < 16) rows
      → AreRowsFrom start book (map opened_of rows) × (after_all start book (map opened_of rows) ≡ book ++ rows)
  rows_again book [] goes known = (tt, sym (append-nil book))
  rows_again book (row ∷ rows) goes known =
      let one = row_again book row (sym goes.0) known.0 in
      let rest = rows_again (with_opened start book (opened_of row)) rows goes.1 known.1 in
      ((one.0, rest.0), rest.1 ∙ ap (λ b. b ++ rows) one.1 ∙ append_assoc book (row ∷ []) rows)

pub opened_again : (start : Opening) (book : Book) → IsBook start book → All (λ row. worker_of row < 16) book
    → AreRows start (map opened_of book) × (opening_rows start (map opened_of book) ≡ book)
opened_again start book is known = rows_again start [] book is (recursion_from_All (λ row. worker_of row < 16) book known)

-- ---- answers

-- a request that is or is no row at its place is so of an equal opening and book
pub row_moved : (start other : Opening) (book same : Book) (opened : Opened) → start ≡ other → book ≡ same → IsRow start book opened → IsRow other same opened
row_moved start other book same opened openings books row =
    subst (λ b. IsRow other b opened) books (subst (λ o. IsRow o book opened) openings row)

-- requests that were found not to be too long, and an equal list of them
pub fits_in : (long : Bool) (asked all : List Opened) → long ≡ false → IsTrue long ↔ IsTooLong asked → asked ≡ all → ¬ IsTooLong all
fits_in long asked all short means same too_long = false≢true (sym short ∙ means.1 (subst IsTooLong (sym same) too_long))

-- an answer is too long exactly where the requests are, where neither is so
pub neither : {A B : Type 0} → ¬ A → ¬ B → A ↔ B
neither no_a no_b = (λ a. absurd (no_a a), λ b. absurd (no_b b))

-- the number of a bad row
abbrev number_of : ResumeFault → ℕ
number_of TooLong = 0
number_of (BadRow n) = n
number_of Memory = 0

abbrev fault_in : {T : Type 0} → Result T ResumeFault → ResumeFault
fault_in (Ok x) = Memory
fault_in (Err fault) = fault

pub not_long : {T : Type 0} (n : ℕ) → IsErrOf {T = T} (Err (BadRow n)) TooLong → ⊥
not_long n e = absurd (cc e)

pub not_row : {T : Type 0} (n : ℕ) → IsErrOf {T = T} (Err TooLong) (BadRow n) → ⊥
not_row n e = absurd (cc e)

pub no_fault : {T : Type 0} (x : T) (fault : ResumeFault) → IsErrOf (Ok x) fault → ⊥
no_fault x fault e = absurd (cc e)

pub same_number : {T : Type 0} (n m : ℕ) → IsErrOf {T = T} (Err (BadRow n)) (BadRow m) → n ≡ m
same_number n m e = ap (λ result. number_of (fault_in result)) e

-- want of memory: there is no value, and no other error
abbrev WantsMemory : {T : Type 0} → Result T ResumeFault → Type 0
WantsMemory result = IsErrAnd result (λ fault. fault ≡ Memory)

no_value : {T : Type 0} (result : Result T ResumeFault) (P : T → Type 0) → WantsMemory result → IfOk result P
no_value (Ok x) P memory = absurd memory
no_value (Err fault) P memory = tt

memory_said : {T : Type 0} (result : Result T ResumeFault) → WantsMemory result → IsOkUnless result Memory
memory_said (Ok x) memory = tt
memory_said (Err fault) memory = memory

no_other : {T : Type 0} (result : Result T ResumeFault) (fault : ResumeFault) → WantsMemory result → IsErrOf result fault → fault ≡ Memory
no_other result fault memory e = subst WantsMemory e memory

pub for_memory : {T : Type 0} (result : Result T ResumeFault) (all : List Opened) (P Q : T → Type 0) (A B : Type 0) (C : ℕ → Type 0) → WantsMemory result → ¬ IsTooLong all
    → record { rows : IfOk result P; opening : IfOk result Q; accepted : OnOk result A; ok : B → ¬ IsTooLong all → IsOkUnless result Memory; too_long : IsErrOf result TooLong ↔ IsTooLong all; bad_row : (n : ℕ) → IsErrOf result (BadRow n) → C n }
for_memory result all P Q A B C memory fits = record {
  rows = no_value result P memory;
  opening = no_value result Q memory;
  accepted = no_value result (λ _. A) memory;
  ok = λ _ _. memory_said result memory;
  too_long = neither (λ e. absurd (cc (no_other result TooLong memory e))) fits;
  bad_row = λ n e. absurd (cc (no_other result (BadRow n) memory e));
}
