-- The lines of a text, and what they say.
use Rattle.std.proofs.Common.{arith, ◌≡◌, ◌==◌, ◌&&◌, ◌<◌, ◌≤◌, ◌+◌, ◌-◌, ◌∷◌, ◌++◌, ◌∙◌, not, [], ℕ, zero, suc, Bool, List, Option, Some, None, Result, Ok, Err, IfOk, true, false, drop, get_or, length, take, refl, sym, ap, subst, append_assoc, eqb-true}
use Rattle.std.proofs.Math.Seq.{get_or-append_seam, take-append_seam}
use Rattle.std.proofs.lemmas.Bool.{Decides.{nat_tests}, and_parts, not-true}
use Rattle.std.proofs.lemmas.List.{append-nil, drop-take, drop_all, length-append, length-drop, length-take-le}
use Rattle.std.specs.{Fmt.{option_append}, List.{prefix_len}, Option.{option_map}}
use Rattle.csv.specs.Machine.{next_record}
use Rattle.csv.specs.Reading.{ReadRecord, default_config, records, records_from, source_of, strip_bom}
use Rattle.csv.specs.declared.reader.Reader.{Reader}
use Rattle.csv.specs.declared.parser.State.TheVariants as st
use Rattle.record_reading.proofs.LineLemmas.{feed_no_bom, none_in_none, records_after_feed}
use Rattle.record_reading.proofs.RecordsLeft.{left_all, read_end, read_more}
use Rattle.record_reading.proofs.WholeLineLemmas.{not_so}
use Rattle.record_reading.specs.{Lines.{EndsLine, IsLine, IsWhole, has_no_feed}, Reading.{IsPlain}}
use Rattle.record_reading.specs.{Records.{read_record, worker_of}, inner.RecordsLeft.{Left}}
use Rattle.record_reading.specs.declared.buffers.TheConstants.{ROOM_TO_READ}
use Rattle.record_reading.specs.declared.{inputs.ReadFault.{ReadFault}, record.Record.{Record}}
use Rattle.record_reading.specs.declared.inputs.Cause.TheVariants as cause
use Rattle.record_reading.specs.declared.inputs.ReadFault.TheVariants as fault
use Rattle.live_reading.specs.LiveLines.{faulty_line, first_worker, in_front, is_long, line_says, lines_of, one_says, records_say}
use Rattle.live_reading.specs.{declared.live_lines.Said.{Said}, inner.Lines.{HasLeft, IsOneOf}}
use Rattle.live_reading.specs.declared.live_lines.Said.TheVariants as says

-- the first line of a text is what is in front of its first line feed, and that
pub first_whole : (x rest : List ℕ) → has_no_feed x ≡ true → lines_of (x ++ (10 ∷ rest)) ≡ (x ++ (10 ∷ [])) ∷ lines_of rest
unfolding lines_of
first_whole [] rest none = refl
first_whole (b ∷ x) rest none =
    let p = and_parts (not (b == 10)) (has_no_feed x) none in
    rw (not-true _ p.0) (ap (in_front b) (first_whole x rest p.1))

-- a text with no line feed is one line
pub last_line : (b : ℕ) (x : List ℕ) → has_no_feed (b ∷ x) ≡ true → lines_of (b ∷ x) ≡ (b ∷ x) ∷ []
unfolding lines_of
last_line b [] none = let p = and_parts (not (b == 10)) true none in rw (not-true _ p.0) refl
last_line b (c ∷ x) none =
    let p = and_parts (not (b == 10)) (has_no_feed (c ∷ x)) none in
    rw (not-true _ p.0) (ap (in_front b) (last_line c x p.1))

-- how long the text in front of a line feed is
content_len : (x rest : List ℕ) → has_no_feed x ≡ true → prefix_len (λ byte. not (byte == 10)) (x ++ (10 ∷ rest)) ≡ length x
content_len [] rest none = refl
content_len (b ∷ x) rest none =
    let p = and_parts (not (b == 10)) (has_no_feed x) none in
    rw p.0 (ap (λ (n : ℕ). 1 + n) (content_len x rest p.1) ∙ omega arith)

all_len : (x : List ℕ) → has_no_feed x ≡ true → prefix_len (λ byte. not (byte == 10)) x ≡ length x
all_len [] none = refl
all_len (b ∷ x) none =
    let p = and_parts (not (b == 10)) (has_no_feed x) none in
    rw p.0 (ap (λ (n : ℕ). 1 + n) (all_len x p.1) ∙ omega arith)

-- a whole line that fits is not too long
pub whole_is_short : (line : List ℕ) → IsWhole line → length line ≤ ROOM_TO_READ → is_long line ≡ false
unfolding is_long
whole_is_short line whole fits =
    let long : length line ≡ length whole.content + 1 = rw whole.line_is (length-append whole.content (10 ∷ [])) in
    let count : prefix_len (λ byte. not (byte == 10)) line ≡ length whole.content = rw whole.line_is (content_len whole.content [] whole.no_feed) in
    let few : length whole.content < ROOM_TO_READ = omega (arith, long, fits) in
    rw count (grind (arith, nat_tests))

-- nor is a last one that leaves room
pub last_is_short : (line : List ℕ) → has_no_feed line ≡ true → length line < ROOM_TO_READ → is_long line ≡ false
unfolding is_long
last_is_short line none few = rw (all_len line none) (grind (arith, nat_tests))

-- a place with a line feed, and none before it, ends a whole line
pub feed_ends : (xs : List ℕ) (k : ℕ) → k < length xs → (get_or xs k 0 == 10) ≡ true → ((j : ℕ) → j < k → (get_or xs j 0 == 10) ≡ true → ⊥) → IsWhole (take (k + 1) xs)
feed_ends [] k within here before = absurd (omega (arith, within))
feed_ends (b ∷ xs) zero within here before =
    let is : b ≡ 10 = eqb-true b 10 here in
    record { content = []; no_feed = refl; line_is = ap (λ (c : ℕ). c ∷ []) is }
feed_ends (b ∷ xs) (suc k) within here before =
    let rest = feed_ends xs k (omega (arith, within)) here (λ j less. before (suc j) (omega (arith, less))) in
    let first : not (b == 10) ≡ true = not_so (b == 10) (before 0 (omega arith)) in
    let next : suc k + 1 ≡ suc (k + 1) = omega arith in
    rw next (record { content = b ∷ rest.content; no_feed = rw first rest.no_feed; line_is = ap (λ (c : List ℕ). b ∷ c) rest.line_is })

-- a whole line ends with a line feed
pub whole_ends : (line : List ℕ) → IsWhole line → EndsLine line
whole_ends line whole =
    let long : length line ≡ length whole.content + 1 = rw whole.line_is (length-append whole.content (10 ∷ [])) in
    let last : length line - 1 ≡ length whole.content = omega (arith, long) in record {
      some = omega (arith, long);
      feed = rw last (subst (λ (xs : List ℕ). get_or xs (length whole.content) 0 ≡ 10) (sym whole.line_is) (get_or-append_seam whole.content 10 [] 0));
    }

-- a line says the one record that it has
one_says_alone : (line : List ℕ) (fields : List (List ℕ)) (one : Record) (workers place : ℕ) (begun : Bool) → IsWhole line → length line ≤ ROOM_TO_READ → records default_config line ≡ fields ∷ []
    → read_record workers place begun fields ≡ Ok one → line_says workers place begun line ≡ Some (says.Record one)
unfolding line_says
one_says_alone line fields one workers place begun whole fits alone read = rw (whole_is_short line whole fits, alone, read) refl

-- a plain line is the one record of its line
pub plain_says : (line : List ℕ) (one : Record) (next workers place : ℕ) (begun : Bool) → IsWhole line → length line ≤ ROOM_TO_READ → IsLine line 0 one next → length line ≤ next
    → one.worker < workers → (one.is_row && begun) ≡ false → line_says workers place begun line ≡ Some (says.Record one)
plain_says line one next workers place begun whole fits is ends below early =
    let nothing : drop next line ≡ [] = drop_all next line ends in
    let read : records default_config (line ++ []) ≡ is.fields ∷ records default_config (drop next line ++ []) = is.reads [] in
    let alone : records default_config line ≡ is.fields ∷ [] =
    ap (records default_config) (sym (append-nil line)) ∙ read ∙ ap (λ (left : List ℕ). is.fields ∷ records default_config (left ++ [])) nothing
    ∙ ap (λ (others : List (List (List ℕ))). is.fields ∷ others) none_in_none in
    one_says_alone line is.fields one workers place begun whole fits alone (is.says workers place begun below early)

-- and so is one in a text, from a place on
pub bid_says : (text : List ℕ) (at : ℕ) (one : Record) (next workers place : ℕ) (begun : Bool) → IsWhole (take (next - at) (drop at text)) → length text ≤ ROOM_TO_READ
    → IsLine (take next text) at one next → next ≤ length text → one.worker < workers → one.is_row ≡ false → line_says workers place begun (take (next - at) (drop at text)) ≡ Some (says.Record one)
bid_says text at one next workers place begun whole fits is within below request =
    let line = take (next - at) (drop at text) in let front = take next text in
    let to_next : at + (next - at) ≡ next = omega (arith, is.after) in
    let cut : line ≡ drop at front = sym (drop-take at (next - at) text) ∙ ap (λ (n : ℕ). drop at (take n text)) to_next in
    let long : length front ≡ next = length-take-le next text within in
    let nothing : drop next front ≡ [] = drop_all next front (omega (arith, long)) in
    let alone : records default_config line ≡ is.fields ∷ [] =
    ap (records default_config) (sym (append-nil line) ∙ ap (λ (l : List ℕ). l ++ []) cut) ∙ is.reads [] ∙ ap (λ (left : List ℕ). is.fields ∷ records default_config (left ++ [])) nothing
    ∙ ap (λ (others : List (List (List ℕ))). is.fields ∷ others) none_in_none in
    let inside : next - at ≤ length (drop at text) = omega (arith, length-drop at text) in
    let few : length line ≤ ROOM_TO_READ = omega (arith, length-take-le (next - at) (drop at text) inside, fits) in
    one_says_alone line is.fields one workers place begun whole few alone (is.says workers place begun below (ap (λ (b : Bool). b && begun) request))

-- no text says nothing
pub nothing_says : (workers place : ℕ) (begun : Bool) → line_says workers place begun [] ≡ None
unfolding line_says next_record records_from is_long
nothing_says workers place begun = refl

-- what a line says that is not too long is what its records say
pub short_says : (line : List ℕ) (workers place : ℕ) (begun : Bool) → is_long line ≡ false → line_says workers place begun line ≡ records_say workers place begun (records default_config line)
unfolding line_says
short_says line workers place begun short = rw short refl

-- what one says that is
long_says : (line front : List ℕ) (workers place : ℕ) (begun : Bool) → is_long line ≡ true → take ROOM_TO_READ line ≡ front
    → line_says workers place begun line ≡ Some (faulty_line (first_worker workers (records default_config front)) (fault.Line place cause.Long))
unfolding line_says
long_says line front workers place begun long is = rw (long, is) refl

-- a line that a text of so many bytes begins is too long
pub begun_is_long : (front x : List ℕ) (workers place : ℕ) (begun : Bool) → has_no_feed (front ++ x) ≡ true → length front ≡ ROOM_TO_READ
    → line_says workers place begun ((front ++ x) ++ (10 ∷ [])) ≡ Some (faulty_line (first_worker workers (records default_config front)) (fault.Line place cause.Long))
unfolding is_long
begun_is_long front x workers place begun none full =
    let many : ROOM_TO_READ ≤ length (front ++ x) = omega (arith, length-append front x, full) in
    let is : take ROOM_TO_READ ((front ++ x) ++ (10 ∷ [])) ≡ front = rw (← full, append_assoc) (take-append_seam front (x ++ (10 ∷ []))) in
    long_says _ front workers place begun (rw (content_len (front ++ x) [] none) (grind (arith, nat_tests))) is

pub last_is_long : (front x : List ℕ) (workers place : ℕ) (begun : Bool) → has_no_feed (front ++ x) ≡ true → length front ≡ ROOM_TO_READ
    → line_says workers place begun (front ++ x) ≡ Some (faulty_line (first_worker workers (records default_config front)) (fault.Line place cause.Long))
unfolding is_long
last_is_long front x workers place begun none full =
    let many : ROOM_TO_READ ≤ length (front ++ x) = omega (arith, length-append front x, full) in
    let is : take ROOM_TO_READ (front ++ x) ≡ front = rw (← full) (take-append_seam front x) in
    long_says _ front workers place begun (rw (all_len (front ++ x) none) (grind (arith, nat_tests))) is

-- a reader of a line after a line feed has the line's records left
pub line_has_left : {S : Type 0} (over : S → Option (List ℕ)) (reader : Reader S) (line first : List ℕ) → IsPlain reader → first ≡ 10 ∷ [] → (from : Option (List ℕ))
    → from ≡ option_append (Some first) (Some line) → source_of over reader ≡ option_map strip_bom from → reader.state ≡ st.StartRecord → HasLeft over reader (records default_config line)
line_has_left over reader line first plain is from given source state = record {
  plain = plain;
  source = 10 ∷ line;
  known = source ∙ ap (option_map strip_bom) (given ∙ ap (λ (f : List ℕ). option_append (Some f) (Some line)) is) ∙ ap Some (feed_no_bom line);
  left = rw state (subst (λ (rows : List (List (List ℕ))). Left st.StartRecord (10 ∷ line) rows) (records_after_feed line) (left_all (10 ∷ line)));
}

module _ {R : Type 0} (rem : R → Option (List ℕ)) (a b : Reader R) (fields : List (List ℕ)) (rows : List (List (List ℕ))) (has : HasLeft rem a rows) where
  -- a record that is read is the first of those that are left
  pub has_more : ReadRecord rem a b true fields → IsPlain b → (more : List (List (List ℕ))) × (rows ≡ fields ∷ more) × HasLeft rem b more
  has_more read plain =
      let (z, known, more, is, left) = read_more rem a b fields has.source rows has.plain.0 has.known has.left read in
      (more, is, record { plain = plain; source = z; known = known; left = left })

  -- and if none is read, none is left
  pub has_none : ReadRecord rem a b false fields → rows ≡ []
  has_none read = read_end rem a b fields has.source rows has.plain.0 has.known has.left read

many_say : (workers place : ℕ) (begun : Bool) (fields second : List (List ℕ)) (rows more others : List (List (List ℕ))) (worker : Option ℕ) → rows ≡ fields ∷ more → more ≡ second ∷ others
    → worker ≡ worker_of workers fields → Some (faulty_line worker (fault.Line place cause.Fields)) ≡ records_say workers place begun rows
many_say workers place begun fields second rows more others worker is are names = rw (is, are, names) refl

one_record_says : (workers place : ℕ) (begun : Bool) (fields : List (List ℕ)) (rows more : List (List (List ℕ))) (worker : Option ℕ) (r : Result Record ReadFault) (said : Said)
    → rows ≡ fields ∷ more → more ≡ [] → worker ≡ worker_of workers fields → r ≡ read_record workers place begun fields → said ≡ one_says worker r → Some said ≡ records_say workers place begun rows
one_record_says workers place begun fields rows more worker r said is none names reads tells = rw (is, none, tells, names, reads) refl

-- what a line says by its first two reads
module _ {R : Type 0} (rem : R → Option (List ℕ)) (a b d : Reader R) (fields second : List (List ℕ)) (rows : List (List (List ℕ))) (has : HasLeft rem a rows)
    (first : IsPlain a → ReadRecord rem a b true fields) (plain : IsPlain a → IsPlain b) (workers place : ℕ) (begun : Bool) (worker : Option ℕ) (names : worker ≡ worker_of workers fields) where
  pub many_read : (IsPlain b → ReadRecord rem b d true second) → (IsPlain b → IsPlain d) → Some (faulty_line worker (fault.Line place cause.Fields)) ≡ records_say workers place begun rows
  many_read again still =
      let (more, is, left) = has_more rem a b fields rows has (first has.plain) (plain has.plain) in
      let (others, are, behind) = has_more rem b d second more left (again left.plain) (still left.plain) in
      many_say workers place begun fields second rows more others worker is are names

  pub one_read : (IsPlain b → ReadRecord rem b d false second) → (r : Result Record ReadFault) (said : Said) → r ≡ read_record workers place begun fields → said ≡ one_says worker r
      → Some said ≡ records_say workers place begun rows
  one_read again r said reads tells =
      let (more, is, left) = has_more rem a b fields rows has (first has.plain) (plain has.plain) in
      one_record_says workers place begun fields rows more worker r said is (has_none rem b d second more left (again left.plain)) names reads tells

-- a record's worker is one of so many, and so is that of what a line says which is this record
pub one_of : (workers : ℕ) (worker : Option ℕ) (r : Result Record ReadFault) → IfOk r (λ said. said.worker < workers) → IsOneOf workers (Some (one_says worker r))
one_of workers worker (Ok one) below = below
one_of workers worker (Err fault) below = tt
