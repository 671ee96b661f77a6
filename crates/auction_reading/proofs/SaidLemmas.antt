-- What the records of a text ask for, wherever it stands.
use Rattle.std.proofs.Common.{arith, ◌≡◌, ◌==◌, ◌&&◌, ◌||◌, ◌<◌, ◌≤◌, ◌+◌, ◌∷◌, ◌++◌, ◌∙◌, [], ℕ, List, Bool, Option, Some, false, not, drop, length, refl, sym, ap, subst, append_assoc, length-append, vec_len}
use Rattle.std.proofs.lemmas.List.{append-nil}
use Rattle.csv.specs.Reading.{default_config, records, strip_bom}
use Rattle.auction_reading.proofs.{ProgressLemmas.{nothing_read, same_if}, SoFar.{so_far_more}}
use Rattle.auction_reading.specs.{Scripts.{records_of}, declared.plain_text.Progress.{Progress}}
use Rattle.auction_reading.specs.inner.Progress.{HasAdded, IsReadUpTo, unmarked}
use Rattle.auction_reading.specs.inner.Said.{CanFollow, HasRead, IsUpTo, ReadsLine, SaysRecords, WasRead, begun_after, read_by, with_records}
use Rattle.record_reading.specs.Asking.{Asked, asked_of, nothing_asked, with_record}
use Rattle.record_reading.specs.{Lines.{IsLine}, declared.inputs.CompactInput.{CompactInput}}
use Rattle.record_reading.specs.declared.inputs.TheConstants.{MOST_RECORDS}
use Rattle.record_reading.specs.declared.record.Record.{Record}

-- records one after the other
with_both : (xs ys : List Record) (asked : Asked) → with_records (xs ++ ys) asked ≡ with_records ys (with_records xs asked)
with_both [] ys asked = refl
with_both (x ∷ xs) ys asked = with_both xs ys (with_record x asked)

begun_both : (xs ys : List Record) (begun : Bool) → begun_after (xs ++ ys) begun ≡ begun_after ys (begun_after xs begun)
begun_both [] ys begun = refl
begun_both (x ∷ xs) ys begun = begun_both xs ys (begun || not x.is_row)

follow_parts : (workers : ℕ) (begun : Bool) (xs ys : List Record) → CanFollow workers begun (xs ++ ys) → CanFollow workers begun xs × CanFollow workers (begun_after xs begun) ys
follow_parts workers begun [] ys can = (tt, can)
follow_parts workers begun (x ∷ xs) ys can = let more = follow_parts workers (begun || not x.is_row) xs ys can.2 in ((can.0, can.1, more.0), more.1)

follow_both : (workers : ℕ) (begun : Bool) (xs ys : List Record) → CanFollow workers begun xs → CanFollow workers (begun_after xs begun) ys → CanFollow workers begun (xs ++ ys)
follow_both workers begun [] ys first second = second
follow_both workers begun (x ∷ xs) ys first second = (first.0, first.1, follow_both workers (begun || not x.is_row) xs ys first.2 second)

-- a line says its record
line_says : (text : List ℕ) (at : ℕ) (said : Record) (next : ℕ) → IsLine text at said next → SaysRecords (drop at text) (said ∷ []) (drop next text)
line_says text at said next line workers bytes more count begun asked room can up_to =
    let source = drop at text ++ more in
    let is : unmarked count source ≡ source = same_if (count == 0) (strip_bom source) source (line.unmarked more) in
    let some : (count + 1 == 0) ≡ false = grind arith in
    rw some (so_far_more workers (records_of bytes) count begun line.fields (records default_config (drop next text ++ more)) asked said (rw (is, line.reads more) at up_to) (omega arith)
    (line.says workers (count + 1) begun can.0 can.1) can.0)

-- two texts, of which the second is what is left of the first
says_both : (x y z : List ℕ) (first second : List Record) → SaysRecords x first y → SaysRecords y second z → SaysRecords x (first ++ second) z
says_both x y z first second one two workers bytes more count begun asked room can up_to =
    let sum = length-append first second in
    let parts = follow_parts workers begun first second can in
    let middle = one workers bytes more count begun asked (omega (arith, sum)) parts.0 up_to in
    let end = two workers bytes more (count + length first) (begun_after first begun) (with_records first asked) (omega (arith, sum)) parts.1 middle in
    let counted : count + length first + length second ≡ count + length (first ++ second) = omega (arith, sum) in
    subst (λ n. IsUpTo workers bytes n (begun_after (first ++ second) begun) (with_records (first ++ second) asked) (z ++ more)) counted
    (rw (begun_both first second begun, with_both first second asked) end)

-- nothing is read
pub has_read_none : (was : WasRead) (text : List ℕ) → was.count ≤ MOST_RECORDS → HasRead was text was text
has_read_none was text room = record {
  said = [];
  says = λ workers bytes more count begun asked fits can up_to. let none : count + 0 ≡ count = omega arith in rw none up_to;
  follows = tt;
  asked = refl;
  workers = refl;
  count = omega arith;
  begun = refl;
  room = room;
}

-- what is read in two steps
pub has_read_then : (a b c : WasRead) (x y z : List ℕ) → HasRead a x b y → HasRead b y c z → HasRead a x c z
has_read_then a b c x y z first second = record {
  said = first.said ++ second.said;
  says = says_both x y z first.said second.said first.says second.says;
  follows =
      follow_both (length a.asked.scripts) a.begun first.said second.said first.follows
      (subst (λ n. CanFollow n (begun_after first.said a.begun) second.said) first.workers (subst (λ started. CanFollow (length b.asked.scripts) started second.said) first.begun second.follows));
  asked = second.asked ∙ ap (with_records second.said) first.asked ∙ sym (with_both first.said second.said a.asked);
  workers = second.workers ∙ first.workers;
  count = omega (arith, first.count, second.count, length-append first.said second.said);
  begun = second.begun ∙ ap (begun_after second.said) first.begun ∙ sym (begun_both first.said second.said a.begun);
  room = second.room;
}

-- what is read if there are more bytes behind
pub has_read_before : (old new : WasRead) (x y tail : List ℕ) → HasRead old x new y → HasRead old (x ++ tail) new (y ++ tail)
has_read_before old new x y tail read = record {
  said = read.said;
  says = λ workers bytes more count begun asked fits can up_to.
      subst (λ (left : List ℕ). IsUpTo workers bytes (count + length read.said) (begun_after read.said begun) (with_records read.said asked) left) (sym (append_assoc y tail more))
      (read.says workers bytes (tail ++ more) count begun asked fits can (subst (λ (left : List ℕ). IsUpTo workers bytes count begun asked left) (append_assoc x tail more) up_to));
  follows = read.follows;
  asked = read.asked;
  workers = read.workers;
  count = read.count;
  begun = read.begun;
  room = read.room;
}

-- what is read once a buffer was filled on from a reader, and lines that it held are read
pub has_read_further : (first old new : WasRead) (all before held to : List ℕ) (known next : Option (List ℕ))
    → (left : List ℕ) × (known ≡ Some left) × HasRead first all old (before ++ left)
    → ((left : List ℕ) → known ≡ Some left → (rest : List ℕ) × (next ≡ Some rest) × (before ++ left ≡ held ++ rest))
    → HasRead old held new to → (rest : List ℕ) × (next ≡ Some rest) × HasRead first all new (to ++ rest)
has_read_further first old new all before held to known next (left, are, so_far) more read =
    let (rest, now, same) = more left are in
    let on : HasRead old (before ++ left) new (to ++ rest) = subst (λ (xs : List ℕ). HasRead old xs new (to ++ rest)) (sym same) (has_read_before old new held to rest read) in
    (rest, now, has_read_then first old new all (before ++ left) (to ++ rest) so_far on)

-- no line is read
pub reads_no_line : (old : Progress) (text : List ℕ) (at : ℕ) → at < length text → old.count < MOST_RECORDS → ReadsLine old text at old at
reads_no_line old text at within room =
    let fits : old.count ≤ MOST_RECORDS = omega (arith, room) in
    record { after = omega arith; within = omega (arith, within); reads = has_read_none (read_by old) (drop at text) fits }

-- one line more
pub reads_line : (old new : Progress) (text : List ℕ) (at : ℕ) (said : Record) (next : ℕ) → IsLine text at said next → HasAdded old said new → old.count < MOST_RECORDS
    → said.worker < length old.input.scripts.items → (said.is_row && old.begun) ≡ false → ReadsLine old text at new next
reads_line old new text at said next line added room below early =
    let many : length new.input.scripts.items ≡ length old.input.scripts.items = omega (arith, added.workers, old.input.scripts.ok.0, new.input.scripts.ok.0) in
    let fits : new.count ≤ MOST_RECORDS = omega (arith, added.count, room) in record {
      after = omega (arith, line.after);
      within = line.within;
      reads = record {
        said = said ∷ [];
        says = line_says text at said next line;
        follows = (below, early, tt);
        asked = added.asked;
        workers = many;
        count = added.count;
        begun = added.begun;
        room = fits;
      };
    }

-- as many workers have scripts
pub scripts_stay : (old new : Progress) (text left : List ℕ) → HasRead (read_by old) text (read_by new) left → vec_len new.input.scripts ≡ vec_len old.input.scripts
scripts_stay old new text left read = new.input.scripts.ok.0 ∙ read.workers ∙ sym old.input.scripts.ok.0

-- what was read up to a text is read on
read_on : (old new : Progress) (text left : List ℕ) → HasRead (read_by old) text (read_by new) left
    → (workers : ℕ) (bytes more : List ℕ) → IsReadUpTo workers bytes old (text ++ more) → IsReadUpTo workers bytes new (left ++ more)
read_on old new text left read workers bytes more up_to =
    let counted : new.count ≡ old.count + length read.said = read.count in
    let begun_is : new.begun ≡ begun_after read.said old.begun = read.begun in
    let asks : asked_of new.input ≡ with_records read.said (asked_of old.input) = read.asked in
    let fits : new.count ≤ MOST_RECORDS = read.room in
    let all : length old.input.scripts.items ≡ workers = up_to.asks.workers_are in
    let end = read.says workers bytes more old.count old.begun (asked_of old.input) (omega (arith, counted, fits)) (subst (λ n. CanFollow n old.begun read.said) all read.follows) up_to in
    rw (counted, begun_is, asks) end

-- what is read of an input from its first byte on
pub read_from_start : (workers : ℕ) (bytes : List ℕ) (input : CompactInput) (new : Progress) (to : List ℕ) → asked_of input ≡ nothing_asked workers
    → HasRead (read_by (record { input = input; count = 0; begun = false })) bytes (read_by new) to → IsReadUpTo workers bytes new to
read_from_start workers bytes input new to empty read =
    let start : Progress = record { input = input; count = 0; begun = false } in
    rw (append-nil to) at (read_on start new bytes to read workers bytes [] (rw (append-nil bytes) (nothing_read workers bytes input empty)))
