-- What `csv` reads of plain fields and lines.
use Rattle.std.proofs.Common.{arith, ◌≡◌, ◌==◌, ◌&&◌, ◌<◌, ◌+◌, not, ◌++◌, ◌∷◌, ◌∙◌, [], ℕ, zero, suc, List, Option, Some, None, refl, ap, true, false, append_assoc, length, inl, inr}
use Rattle.std.proofs.lemmas.{Bool.{and_parts, not-true}, List.{append-nil}}
use Rattle.std.specs.List.{list_all}
use Rattle.csv.specs.Machine.{Read, ends_at_end, next_record}
use Rattle.csv.specs.Reading.{default_config, records, records_from, records_next, strip_bom}
use Rattle.csv.specs.declared.parser.State.{State}
use Rattle.csv.specs.declared.parser.State.TheVariants as st
use Rattle.record_reading.proofs.RecordsLeft.{left_all, left_more, shorter}
use Rattle.record_reading.specs.{Lines.{ReadsFirst}, inner.RecordsLeft.{Left}}
use Rattle.record_reading.specs.inner.PlainLines.{HasRead, IsLineEnd, is_plain, joins}

-- a byte that joins a field is no mark
joins_no_mark : (b : ℕ) → joins b ≡ true → ((b == 44) ≡ false) × ((b == 13) ≡ false) × ((b == 10) ≡ false)
joins_no_mark b e =
    let p = and_parts (not (b == 44)) (not (b == 13) && not (b == 10)) e in
    let q = and_parts (not (b == 13)) (not (b == 10)) p.1 in
    (not-true _ p.0, not-true _ q.0, not-true _ q.1)

-- bytes that join the field at hand
pub in_run : (fields : List (List ℕ)) (field x tail : List ℕ) → list_all joins x ≡ true
    → next_record default_config st.InField fields field (x ++ tail) ≡ next_record default_config st.InField fields (field ++ x) tail
unfolding next_record
in_run fields field [] tail e = rw (append-nil field) refl
in_run fields field (b ∷ rest) tail e =
    let p = and_parts (joins b) (list_all joins rest) e in let q = joins_no_mark b p.0 in
    rw (q.0, q.1, q.2) (in_run fields (field ++ (b ∷ [])) rest tail p.1
    ∙ ap (λ (f : List ℕ). next_record default_config st.InField fields f tail) (append_assoc field (b ∷ []) rest))

start_same : (fields : List (List ℕ)) (field : List ℕ) (c : ℕ) (tail : List ℕ) → (c == 34) ≡ false
    → next_record default_config st.StartField fields field (c ∷ tail) ≡ next_record default_config st.InField fields field (c ∷ tail)
unfolding next_record
start_same fields field c tail n = rw n refl

record_same : (fields : List (List ℕ)) (field : List ℕ) (c : ℕ) (tail : List ℕ) → (c == 13) ≡ false → (c == 10) ≡ false
    → next_record default_config st.StartRecord fields field (c ∷ tail) ≡ next_record default_config st.StartField fields field (c ∷ tail)
unfolding next_record
record_same fields field c tail r n = rw (r, n) refl

-- a plain field from its start, and the byte after it
start_run : (fields : List (List ℕ)) (x : List ℕ) (c : ℕ) (tail : List ℕ) → is_plain x ≡ true → (c == 34) ≡ false
    → next_record default_config st.StartField fields [] (x ++ (c ∷ tail)) ≡ next_record default_config st.InField fields x (c ∷ tail)
start_run fields [] c tail plain n = start_same fields [] c tail n
start_run fields (b ∷ rest) c tail plain n =
    let p = and_parts (not (b == 34)) (list_all joins (b ∷ rest)) plain in
    start_same fields [] b (rest ++ (c ∷ tail)) (not-true _ p.0) ∙ in_run fields [] (b ∷ rest) (c ∷ tail) p.1

-- a plain field and a comma add the field
pub field_and_comma : (fields : List (List ℕ)) (x rest : List ℕ) → is_plain x ≡ true
    → next_record default_config st.StartField fields [] (x ++ (44 ∷ rest)) ≡ next_record default_config st.StartField (fields ++ (x ∷ [])) [] rest
unfolding next_record
field_and_comma fields x rest plain = start_run fields x 44 rest plain refl

-- a plain field and a line feed end the record
pub field_and_feed : (fields : List (List ℕ)) (x rest : List ℕ) → is_plain x ≡ true
    → next_record default_config st.StartField fields [] (x ++ (10 ∷ rest)) ≡ Some (fields ++ (x ∷ []), st.StartRecord, rest)
unfolding next_record
field_and_feed fields x rest plain = start_run fields x 10 rest plain refl

-- and so does a carriage return
pub field_and_return : (fields : List (List ℕ)) (x rest : List ℕ) → is_plain x ≡ true
    → next_record default_config st.StartField fields [] (x ++ (13 ∷ rest)) ≡ Some (fields ++ (x ∷ []), st.AfterCr, rest)
unfolding next_record
field_and_return fields x rest plain = start_run fields x 13 rest plain refl

-- after which a line feed is passed over
feed_after_return : (rest : List ℕ)
    → next_record default_config st.AfterCr [] [] (10 ∷ rest) ≡ next_record default_config st.StartRecord [] [] rest
unfolding next_record
feed_after_return rest = refl

-- and so is a blank line
blank_feed : (rest : List ℕ)
    → next_record default_config st.StartRecord [] [] (10 ∷ rest) ≡ next_record default_config st.StartRecord [] [] rest
unfolding next_record
blank_feed rest = refl

next_same : (one two : ℕ) (o : Option Read) → ((p : Read) → o ≡ Some p → records_from default_config one p.1 p.2 ≡ records_from default_config two p.1 p.2)
    → records_next (records_from default_config one) o ≡ records_next (records_from default_config two) o
next_same one two None h = refl
next_same one two (Some p) h = ap (λ (others : List (List (List ℕ))). p.0 ∷ others) (h p refl)

-- more turns than there are bytes give the same records
turns_enough : (one two : ℕ) (s : State) (y : List ℕ) → length y < one → length y < two → ends_at_end s ≡ false → records_from default_config one s y ≡ records_from default_config two s y
unfolding records_from
turns_enough (suc one) (suc two) s y a b between = next_same one two (next_record default_config s [] [] y) (λ p e.
    let short = shorter default_config s y p between e in
    turns_enough one two p.1 p.2 (omega (arith, short.1)) (omega (arith, short.1)) short.0)
turns_enough one two s y a b between = absurd (omega arith)

-- the records that are left between two records are those of the bytes that are left
records_left : (y : List ℕ) (rows : List (List (List ℕ))) → Left st.StartRecord y rows → rows ≡ records default_config y
records_left y rows left =
    let turns = left.turns in let enough = left.enough in
    left.are ∙ turns_enough turns (length y + 1) st.StartRecord y enough (omega arith) refl

turn_after : (s : State) (y : List ℕ) → next_record default_config s [] [] (10 ∷ y) ≡ next_record default_config st.StartRecord [] [] y
    → (turns : ℕ) → length (10 ∷ y) < turns → records_from default_config turns s (10 ∷ y) ≡ records_from default_config turns st.StartRecord y
unfolding records_from
turn_after s y same zero enough = absurd (omega arith)
turn_after s y same (suc turns) enough = ap (λ (o : Option Read). records_next (records_from default_config turns) o) same

left_after_return : (y : List ℕ) (rows : List (List (List ℕ))) → Left st.AfterCr (10 ∷ y) rows → Left st.StartRecord y rows
left_after_return y rows left =
    let turns = left.turns in let enough : length (10 ∷ y) < turns = left.enough in
    record { turns = turns; enough = omega arith; between = refl; are = left.are ∙ turn_after st.AfterCr y (feed_after_return y) turns enough }

-- a line feed in front leaves the same records
pub records_after_feed : (y : List ℕ) → records default_config (10 ∷ y) ≡ records default_config y
records_after_feed y =
    let turns = length (10 ∷ y) + 1 in
    turn_after st.StartRecord y (blank_feed y) turns (omega arith) ∙ turns_enough turns (length y + 1) st.StartRecord y (omega arith) (omega arith) refl

-- no record is in no text
pub none_in_none : records default_config [] ≡ []
unfolding next_record records_from
none_in_none = refl

-- no byte order mark is taken off a text that begins with a line feed
pub feed_no_bom : (rest : List ℕ) → strip_bom (10 ∷ rest) ≡ 10 ∷ rest
unfolding strip_bom
feed_no_bom [] = refl
feed_no_bom (a ∷ []) = refl
feed_no_bom (a ∷ b ∷ rest) = refl

-- a record starts as its first field, where it does not start with the end of a line
first_same : (x : List ℕ) (c : ℕ) (tail : List ℕ) → is_plain x ≡ true → (c == 13) ≡ false → (c == 10) ≡ false
    → next_record default_config st.StartRecord [] [] (x ++ (c ∷ tail)) ≡ next_record default_config st.StartField [] [] (x ++ (c ∷ tail))
first_same [] c tail plain r n = record_same [] [] c tail r n
first_same (b ∷ rest) c tail plain r n =
    let p = and_parts (not (b == 34)) (list_all joins (b ∷ rest)) plain in
    let q = and_parts (joins b) (list_all joins rest) p.1 in let m = joins_no_mark b q.0 in
    record_same [] [] b (rest ++ (c ∷ tail)) m.1 m.2

-- the first field of a line, and its comma
pub first_and_comma : (x rest : List ℕ) → is_plain x ≡ true → HasRead (x ++ (44 ∷ rest)) (x ∷ []) rest
first_and_comma x rest plain = first_same x 44 rest plain refl refl ∙ field_and_comma [] x rest plain

-- the next field, and its comma
pub next_and_comma : (text : List ℕ) (fields : List (List ℕ)) (x rest : List ℕ) → HasRead text fields (x ++ (44 ∷ rest)) → is_plain x ≡ true
    → HasRead text (fields ++ (x ∷ [])) rest
next_and_comma text fields x rest read plain = read ∙ field_and_comma fields x rest plain

-- the last field, and the line's end
pub last_and_end : (text : List ℕ) (fields : List (List ℕ)) (x ends rest : List ℕ) → HasRead text fields (x ++ (ends ++ rest)) → is_plain x ≡ true → IsLineEnd ends
    → ReadsFirst text (fields ++ (x ∷ [])) rest
last_and_end text fields x ends rest read plain (inl feed) =
    let one : x ++ (ends ++ rest) ≡ x ++ (10 ∷ rest) = ap (λ (e : List ℕ). x ++ (e ++ rest)) feed in
    let m = left_more st.StartRecord st.StartRecord text rest (fields ++ (x ∷ [])) (records default_config text) (left_all text) ((rw one at read) ∙ field_and_feed fields x rest plain) in
    m.1 ∙ ap (λ (others : List (List (List ℕ))). (fields ++ (x ∷ [])) ∷ others) (records_left rest m.0 m.2)
last_and_end text fields x ends rest read plain (inr both) =
    let two : x ++ (ends ++ rest) ≡ x ++ (13 ∷ 10 ∷ rest) = ap (λ (e : List ℕ). x ++ (e ++ rest)) both in
    let m = left_more st.StartRecord st.AfterCr text (10 ∷ rest) (fields ++ (x ∷ [])) (records default_config text) (left_all text) ((rw two at read) ∙ field_and_return fields x (10 ∷ rest) plain) in
    m.1 ∙ ap (λ (others : List (List (List ℕ))). (fields ++ (x ∷ [])) ∷ others) (records_left rest m.0 (left_after_return rest m.0 m.2))

-- nor off one that begins with any byte but the mark's first
pub no_bom : (a : ℕ) (rest : List ℕ) → (a == 0xEF) ≡ false → strip_bom (a ∷ rest) ≡ a ∷ rest
unfolding strip_bom
no_bom a (b ∷ c ∷ rest) other = rw other refl
no_bom a rest other = refl
