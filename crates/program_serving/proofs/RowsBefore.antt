-- The rows that an input adds come before its requests.
use Rattle.std.proofs.Common.{◌≡◌, ◌≤◌, ◌+◌, ◌++◌, ◌∷◌, ◌∙◌, ◌⊎◌, ◌&&◌, ◌==◌, not, cond, suc, zero, ℕ, Bool, false, true, List, [], Option, None, Some, append_assoc, append-nil, ap, arith, flat_map, if◌then◌else◌, inl, inr, map, refl, slice_get, subst, sym, unwrap_or}
use Rattle.std.proofs.lemmas.{Bool.{cases_Bool}, List.{append_cancel_left}}
use Rattle.std.proofs.lemmas.List.{Elements.{filter_map-append}, Sums.{sum_by-cons}}
use Rattle.std.specs.List.{AllByRecursion, cons_option, range_with_len}
use Rattle.auction_rows.specs.Book.{Book}
use Rattle.auction_rows.specs.declared.{values.Opening.Opening, requests.Request.Request, requests.Opened.Opened, rows.Entry.Entry}
use Rattle.auction_text.{proofs.LivePartLemmas.{no_rows_said}, specs.LiveInput.{LiveInput}}
use Rattle.auction_text.specs.LiveLines.{begun_after, line_says, lines_say, then_say}
use Rattle.auction_text.specs.LiveParts.{HasToSay, row_said, rows_said}
use Rattle.auction_text.specs.{LiveReading.{records_said}, Record.{Record}, Said.{Said}}
use Rattle.auction_text.specs.Scripts.{requests_in, row_in, rows, script}
use Rattle.auction_text.specs.Said.TheVariants as says
use Rattle.run_laws.specs.Serving.{script_of}
use Rattle.program_opening.specs.{Options.{opening_asked}, declared.options.Options.{Options}}
use Rattle.program_serving.specs.Serving.{AddsRows, AreStepRuns, Part, Answer, RowsComeFirst, Step, added_rows, book_past, scripts_in, step_history, step_said}

-- behind a request no row is said
abbrev pub HasNoLateRow : List Said → Type 0
HasNoLateRow [] = Unit {0}
HasNoLateRow (one ∷ more) = ((begun_after false one ≡ false) ⊎ (rows_said more ≡ [])) × HasNoLateRow more

-- ---- lines say no late row

pub request_begins : (begun : Bool) (one : Record) → one.is_row ≡ false → begun_after begun (says.Record one) ≡ true
request_begins true one request = refl
request_begins false one request = ap not request

then_late : (o : Option Said) (blank : List Said) (others : Said → List Said) → HasNoLateRow blank → ((one : Said) → (begun_after false one ≡ false) ⊎ (rows_said (others one) ≡ []))
    → ((one : Said) → HasNoLateRow (others one)) → HasNoLateRow (then_say o blank others)
then_late None blank others same first more = same
then_late (Some one) blank others same first more = (first one, more one)

pub lines_have_no_late_row : (workers place : ℕ) (begun : Bool) (lines : List (List ℕ)) → HasNoLateRow (lines_say workers place begun lines)
unfolding lines_say
lines_have_no_late_row workers place begun [] = tt
lines_have_no_late_row workers place begun (line ∷ rest) =
    then_late (line_says workers place begun line) (lines_say workers place begun rest) (λ one. lines_say workers (place + 1) (begun_after begun one) rest)
    (lines_have_no_late_row workers place begun rest) first (λ one. lines_have_no_late_row workers (place + 1) (begun_after begun one) rest) where
      first : (one : Said) → (begun_after false one ≡ false) ⊎ (rows_said (lines_say workers (place + 1) (begun_after begun one) rest) ≡ [])
      first (says.Fault met) = inl refl
      first (says.Record one) = elim (cases_Bool one.is_row) [
        | inl row ↦ inl (ap not row)
        | inr request ↦ inr (subst (λ (b : Bool). rows_said (lines_say workers (place + 1) b rest) ≡ []) (sym (request_begins begun one request)) (no_rows_said workers (place + 1) rest))
      ]

-- nor does what an input has yet to say
pub no_late_row : {R : Type 0} (remaining : R → Option (List ℕ)) (left : LiveInput R) (rest : List Said) → HasToSay remaining left rest → HasNoLateRow rest
no_late_row remaining left rest has =
    subst HasNoLateRow (sym has.all_is) (lines_have_no_late_row left.workers (left.count + 1) left.begun _)

-- ---- what is behind records

behind : (xs ys : List Said) → HasNoLateRow (xs ++ ys) → HasNoLateRow ys
behind [] ys free = free
behind (x ∷ xs) ys free = behind xs ys free.1

second_none : {X : Type 0} (xs ys : List X) → xs ++ ys ≡ [] → ys ≡ []
second_none [] ys none = none
second_none (x ∷ xs) ys none = absurd (cc none)

first_none : {X : Type 0} (xs ys : List X) → xs ++ ys ≡ [] → xs ≡ []
first_none [] ys none = refl
first_none (x ∷ xs) ys none = absurd (cc none)

pub rows_of_both : (xs ys : List Said) → rows_said (xs ++ ys) ≡ [] → (rows_said xs ≡ []) × (rows_said ys ≡ [])
rows_of_both xs ys none =
    let both : rows_said xs ++ rows_said ys ≡ [] = sym (filter_map-append row_said xs ys) ∙ none in
    (first_none (rows_said xs) (rows_said ys) both, second_none (rows_said xs) (rows_said ys) both)

pub one_more : (one : Record) (said : List Record) → requests_in (one ∷ said) ≡ cond (not one.is_row) 1 0 + requests_in said
one_more one said = sum_by-cons (λ (r : Record). cond (not r.is_row) 1 0) one said

-- no row is said behind records with a request
none_behind : (said : List Record) (ys : List Said) → 1 ≤ requests_in said → HasNoLateRow (records_said said ++ ys) → rows_said ys ≡ []
none_behind [] ys some free = absurd (omega (arith, some))
none_behind (one ∷ said) ys some free = elim (cases_Bool one.is_row) [
  | inl row ↦ none_behind said ys (omega (arith, some, one_more one said ∙ ap (λ (b : Bool). cond (not b) 1 0 + requests_in said) row)) free.1
  | inr request ↦ elim free.0 [
    | inl none ↦ absurd (let no = sym (request_begins false one request) ∙ none in cc no)
    | inr none ↦ (rows_of_both (records_said said) ys none).1
  ]
]

-- ---- a part without a request has no history

one_none : (one : Record) (said : List Record) → requests_in (one ∷ said) ≡ 0 → (one.is_row ≡ true) × (requests_in said ≡ 0)
one_none one said none = elim (cases_Bool one.is_row) [
  | inl row ↦ (row, omega (arith, none, one_more one said ∙ ap (λ (b : Bool). cond (not b) 1 0 + requests_in said) row))
  | inr request ↦ absurd (omega (arith, sym (one_more one said ∙ ap (λ (b : Bool). cond (not b) 1 0 + requests_in said) request) ∙ none))
]

pub no_script : (worker : ℕ) (said : List Record) → requests_in said ≡ 0 → script worker said ≡ []
no_script worker [] none = refl
no_script worker (one ∷ said) none =
    let (row, others) = one_none one said none in
    ap (λ (b : Bool). cons_option (if not b && (one.worker == worker) then Some one.request else None) (script worker said)) row ∙ no_script worker said others

none_of_all : (f : ℕ → List Request) → ((w : ℕ) → f w ≡ []) → (ws : List ℕ) (n : ℕ) → unwrap_or (slice_get (map f ws) n) [] ≡ []
none_of_all f none [] n = refl
none_of_all f none (w ∷ ws) zero = none w
none_of_all f none (w ∷ ws) (suc n) = none_of_all f none ws n

none_asked : (xs : List Request) (i : ℕ) (request : Request) → xs ≡ [] → slice_get xs i ≡ Some request → ⊥
none_asked xs i request none is = let no : slice_get {X = Request} [] i ≡ Some request = subst (λ (l : List Request). slice_get l i ≡ Some request) none is in cc no

pub no_entries : (scripts : List (List Request)) → ((worker : ℕ) → script_of scripts worker ≡ []) → (history : List Entry)
    → AllByRecursion (λ e. slice_get (script_of scripts e.worker) e.index ≡ Some e.request) history → history ≡ []
no_entries scripts none [] are = refl
no_entries scripts none (e ∷ history) are = absurd (none_asked (script_of scripts e.worker) e.index e.request (none e.worker) are.0)

-- ---- the rows that steps add

pub same_rows : (records : List Record) → rows_said (records_said records) ≡ rows records
same_rows [] = refl
same_rows (one ∷ records) = ap (cons_option (row_in one)) (same_rows records)

none_added : (opening : Opening) (book : Book) (asked : List Opened) (added : Book) → asked ≡ [] → AddsRows opening book asked added → added ≡ []
none_added opening book asked added none adds =
    let had : AddsRows opening book [] added = subst (λ (a : List Opened). AddsRows opening book a added) none adds in
    append_cancel_left book added [] (sym had.adds ∙ sym (append-nil book))

none_by_steps : (options : Options) (book : Book) (steps : List Step) (rest : List Said) → AreStepRuns options book steps → rows_said (flat_map step_said steps ++ rest) ≡ [] → added_rows steps ≡ []
unfolding AreStepRuns
none_by_steps options book [] rest are none = refl
none_by_steps options book (Answer (says.Fault met) ∷ steps) rest are none = none_by_steps options book steps rest are.1 none
none_by_steps options book (Answer (says.Record one) ∷ steps) rest are none =
    none_by_steps options book steps rest are.1 ((rows_of_both (says.Record one ∷ []) (flat_map step_said steps ++ rest) none).1)
none_by_steps options book (Part part ∷ steps) rest are none =
    let said : List Said = records_said part.said in
    let later : List Said = flat_map step_said steps ++ rest in
    let (own, others) = rows_of_both said later (ap rows_said (sym (append_assoc said (flat_map step_said steps) rest)) ∙ none) in
    ap (λ (a : Book). a ++ added_rows steps) (none_added (opening_asked options) book (rows part.said) part.added (sym (same_rows part.said) ∙ own) are.0.adds)
    ∙ none_by_steps options (book_past options book (Part part)) steps rest are.1 others

-- the rows of what is served come before its history
pub rows_first : (options : Options) (book : Book) (steps : List Step) (rest : List Said) → AreStepRuns options book steps → HasNoLateRow (flat_map step_said steps ++ rest) → RowsComeFirst steps
unfolding AreStepRuns RowsComeFirst
rows_first options book [] rest are free = tt
rows_first options book (Answer line ∷ steps) rest are free = (inl refl, rows_first options book steps rest are.1 free.1)
rows_first options book (Part part ∷ steps) rest are free =
    (first (requests_in part.said) refl, rows_first options next steps rest are.1 (behind said later parted)) where
      said : List Said
      said = records_said part.said

      later : List Said
      later = flat_map step_said steps ++ rest

      next : Book
      next = book_past options book (Part part)

      parted : HasNoLateRow (said ++ later)
      parted = subst HasNoLateRow (append_assoc said (flat_map step_said steps) rest) free

      first : (n : ℕ) → requests_in part.said ≡ n → (step_history (Part part) ≡ []) ⊎ (added_rows steps ≡ [])
      first zero none = inl (no_entries (scripts_in options part.said) (λ worker. none_of_all (λ w. script w part.said) (λ w. no_script w part.said none) (range_with_len 0 options.workers) worker)
          part.history are.0.answer.serves.requests)
      first (suc n) some = inr (none_by_steps options next steps rest are.1 (none_behind part.said later (omega (arith, some)) parted))
