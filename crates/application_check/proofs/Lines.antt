-- Lines of a history, and marks of their requests.
use Rattle.std.proofs.Common.{◌≡◌, ℕ, zero, suc, ◌==◌, Bool, true, false, List, [], ◌∷◌, ◌++◌, length, set, replicate, Some, refl, sym, ap, ◌∙◌, subst, append_assoc, append-nil, eqb-true}
use Rattle.std.proofs.Math.Bool.{or-false}
use Rattle.std.proofs.lemmas.Bool.{eq-eqb, eqb-false, ne_eqb, or_right, and_from}
use Rattle.std.proofs.lemmas.{List.Sums.{fold-append}, Option.{none-some, same_Some}}
use Rattle.std.specs.{List.{AllByRecursion}, Option.{option_map}, Prelude.{slice_get, ◌&&◌, ◌||◌}}
use Rattle.split_engine.specs.{Rules.{Rules}, Serving.{request_at}}
use Rattle.application_check.specs.Checking.{has_line, IsRightLine, after_line, after_lines, LinesReplay}
use Rattle.application_check.specs.{declared.referee.HistoryLine.{HistoryLine}, inner.Marking.{no_marks, AreMarks}}
use Rattle.phase_laws.proofs.ListLemmas.{all_at}

-- ---- requests

-- what holds of all requests of scripts holds of one of them
pub in_scripts : {Q : Type 0} (P : Q → Type 0) (scripts : List (List Q)) (w i : ℕ) (q : Q) →
    AllByRecursion (AllByRecursion P) scripts → request_at scripts w i ≡ Some q → P q
in_scripts P [] w i q h at = absurd (none-some q at)
in_scripts P (s ∷ ss) zero i q h at = all_at P s i q h.0 at
in_scripts P (s ∷ ss) (suc w) i q h at = in_scripts P ss w i q h.1 at

-- ---- marks

none_marked_in : {Q : Type 0} (script : List Q) (i : ℕ) → slice_get (replicate (length script) false) i ≡ option_map (λ q. false) (slice_get script i)
none_marked_in (q ∷ qs) (suc i) = none_marked_in qs i
none_marked_in script i = refl

none_marked : {Q : Type 0} (scripts : List (List Q)) (w i : ℕ) → request_at (no_marks scripts) w i ≡ option_map (λ q. false) (request_at scripts w i)
none_marked [] w i = refl
none_marked (s ∷ ss) zero i = none_marked_in s i
none_marked (s ∷ ss) (suc w) i = none_marked ss w i

-- at first no line has any request
pub marks_at_first : {Q : Type 0} (scripts : List (List Q)) (marks : List (List Bool)) → marks ≡ no_marks scripts →
    (w i : ℕ) → request_at marks w i ≡ option_map (λ q. false) (request_at scripts w i)
marks_at_first scripts marks is w i = ap (λ ms. request_at ms w i) is ∙ none_marked scripts w i

-- a request that is there has a mark
pub mark_there : {Q R : Type 0} (scripts : List (List Q)) (before : List (HistoryLine R)) (marks : List (List Bool)) (w i : ℕ) (q : Q) →
    AreMarks scripts before marks → request_at scripts w i ≡ Some q → request_at marks w i ≡ Some (has_line before w i)
mark_there scripts before marks w i q are there = are w i ∙ ap (option_map (λ p. has_line before w i)) there

-- if each request is marked, each has a line
pub all_had : {Q R : Type 0} (scripts : List (List Q)) (lines : List (HistoryLine R)) (marks : List (List Bool)) → AreMarks scripts lines marks →
    ((w i : ℕ) → request_at marks w i ≡ Some false → ⊥) → (w i : ℕ) (q : Q) → request_at scripts w i ≡ Some q → has_line lines w i ≡ true
all_had scripts lines marks are none w i q there = here (has_line lines w i) (mark_there scripts lines marks w i q are there) where
  here : (b : Bool) → request_at marks w i ≡ Some b → b ≡ true
  here true is = refl
  here false is = absurd (none w i is)

-- a list set at a place
pub set_here : (xs : List Bool) (i : ℕ) (b c : Bool) → slice_get xs i ≡ Some c → slice_get (set xs i b) i ≡ Some b
set_here [] i b c at = absurd (none-some c at)
set_here (x ∷ xs) zero b c at = refl
set_here (x ∷ xs) (suc i) b c at = set_here xs i b c at

set_there : (xs : List Bool) (i j : ℕ) (b : Bool) → (j ≡ i → ⊥) → slice_get (set xs i b) j ≡ slice_get xs j
set_there (x ∷ xs) zero zero b ne = absurd (ne refl)
set_there (x ∷ xs) (suc i) (suc j) b ne = set_there xs i j b (λ e. ne (ap suc e))
set_there xs i j b ne = refl

-- marks with a row set, at its own requests and at others
pub row_here : (rows : List (List Bool)) (w i : ℕ) (row : List Bool) (c : Bool) → request_at rows w i ≡ Some c → slice_get row i ≡ Some true → request_at (set rows w row) w i ≡ Some true
row_here [] w i row c at is = absurd (none-some c at)
row_here (r ∷ rows) zero i row c at is = is
row_here (r ∷ rows) (suc w) i row c at is = row_here rows w i row c at is

pub row_others : (rows : List (List Bool)) (w i : ℕ) (row old : List Bool) (v j : ℕ) → slice_get rows w ≡ Some old → row ≡ set old i true → (v ≡ w → j ≡ i → ⊥) →
    request_at (set rows w row) v j ≡ request_at rows v j
row_others [] w i row old v j at is ne = absurd (none-some old at)
row_others (r ∷ rows) zero i row old zero j at is ne =
    ap (λ xs. slice_get xs j) is ∙ set_there old i j true (ne refl) ∙ ap (λ xs. slice_get xs j) (sym (same_Some r old at))
row_others (r ∷ rows) (suc w) i row old (suc v) j at is ne = row_others rows w i row old v j at is (λ e. ne (ap suc e))
row_others rows w i row old v j at is ne = refl

-- ---- a line more

has-append : {R : Type 0} (before : List (HistoryLine R)) (line : HistoryLine R) (w i : ℕ) → has_line (before ++ line ∷ []) w i ≡ (has_line before w i || ((line.worker == w) && (line.index == i)))
has-append [] line w i = or-false ((line.worker == w) && (line.index == i))
has-append (l ∷ before) line w i = here ((l.worker == w) && (l.index == i)) (has-append before line w i) where
  here : (b : Bool) → has_line (before ++ line ∷ []) w i ≡ (has_line before w i || ((line.worker == w) && (line.index == i))) →
      (b || has_line (before ++ line ∷ []) w i) ≡ ((b || has_line before w i) || ((line.worker == w) && (line.index == i)))
  here true again = refl
  here false again = again

-- the line's own request
pub has_own : {R : Type 0} (before : List (HistoryLine R)) (line : HistoryLine R) → has_line (before ++ line ∷ []) line.worker line.index ≡ true
has_own before line =
    has-append before line line.worker line.index
    ∙ or_right (has_line before line.worker line.index) _
    (and_from (line.worker == line.worker) (line.index == line.index) (eq-eqb line.worker line.worker refl) (eq-eqb line.index line.index refl))

other_false : (a w b i : ℕ) → (w ≡ a → i ≡ b → ⊥) → ((a == w) && (b == i)) ≡ false
other_false a w b i ne = here (a == w) refl where
  here : (x : Bool) → (a == w) ≡ x → (x && (b == i)) ≡ false
  here true is = ne_eqb b i (λ e. ne (sym (eqb-true a w is)) (sym e))
  here false is = refl

-- and another
has_other : {R : Type 0} (before : List (HistoryLine R)) (line : HistoryLine R) (w i : ℕ) → (w ≡ line.worker → i ≡ line.index → ⊥) → has_line (before ++ line ∷ []) w i ≡ has_line before w i
has_other before line w i ne =
    has-append before line w i
    ∙ ap (λ c. has_line before w i || c) (other_false line.worker w line.index i ne)
    ∙ or-false (has_line before w i)

-- marks with the line's request marked are those of the lines with it
module _ {Q R : Type 0} (scripts : List (List Q)) (before : List (HistoryLine R)) (old new : List (List Bool)) (line : HistoryLine R) (q : Q) (are : AreMarks scripts before old)
    (there : request_at scripts line.worker line.index ≡ Some q) (marked : request_at new line.worker line.index ≡ Some true)
    (others : (w i : ℕ) → (w ≡ line.worker → i ≡ line.index → ⊥) → request_at new w i ≡ request_at old w i) where
  more_own : request_at new line.worker line.index ≡ option_map (λ p. has_line (before ++ line ∷ []) line.worker line.index) (request_at scripts line.worker line.index)
  more_own =
      marked ∙ ap Some (sym (has_own before line))
      ∙ ap (option_map (λ p. has_line (before ++ line ∷ []) line.worker line.index)) (sym there)

  more_other : (w i : ℕ) → (w ≡ line.worker → i ≡ line.index → ⊥) → request_at new w i ≡ option_map (λ p. has_line (before ++ line ∷ []) w i) (request_at scripts w i)
  more_other w i ne = others w i ne ∙ are w i ∙ ap (λ b. option_map (λ p. b) (request_at scripts w i)) (sym (has_other before line w i ne))

  more_if : (w i : ℕ) (x y : Bool) → (w == line.worker) ≡ x → (i == line.index) ≡ y →
      request_at new w i ≡ option_map (λ p. has_line (before ++ line ∷ []) w i) (request_at scripts w i)
  more_if w i true true wx iy =
      subst (λ (p : ℕ × ℕ). request_at new p.0 p.1 ≡ option_map (λ r. has_line (before ++ line ∷ []) p.0 p.1) (request_at scripts p.0 p.1))
      (λ k. (sym (eqb-true w line.worker wx) k, sym (eqb-true i line.index iy) k)) more_own
  more_if w i true false wx iy = more_other w i (λ we ie. eqb-false i line.index iy ie)
  more_if w i false y wx iy = more_other w i (λ we ie. eqb-false w line.worker wx we)

  pub marks_more : AreMarks scripts (before ++ line ∷ []) new
  marks_more w i = more_if w i (w == line.worker) (i == line.index) refl refl

module _ {Record Slice Look Request Reply Act : Type 0} (rules : Rules Record Slice Look Request Reply Act) (scripts : List (List Request)) where
  pub lines_push : (before : List (HistoryLine Reply)) (t : List Record) (lines : List (HistoryLine Reply)) (line : HistoryLine Reply) → LinesReplay rules scripts before t lines →
      IsRightLine rules scripts (before ++ lines) (after_lines rules scripts t lines) line → LinesReplay rules scripts before t (lines ++ line ∷ [])
  lines_push before t [] line h right = (subst (λ b. IsRightLine rules scripts b t line) (append-nil before) right, tt)
  lines_push before t (l ∷ lines) line h right = (
    h.0,
    lines_push (before ++ l ∷ []) (after_line rules scripts t l) lines line h.1
        (subst (λ b. IsRightLine rules scripts b (after_lines rules scripts (after_line rules scripts t l) lines) line) (sym (append_assoc before (l ∷ []) lines)) right),
  )

  pub after_push : (t : List Record) (lines : List (HistoryLine Reply)) (line : HistoryLine Reply) →
      after_lines rules scripts t (lines ++ line ∷ []) ≡ after_line rules scripts (after_lines rules scripts t lines) line
  after_push t lines line = fold-append (after_line rules scripts) t lines (line ∷ [])
