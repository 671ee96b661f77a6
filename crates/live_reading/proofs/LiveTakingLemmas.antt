-- What is taken of an input, line by line.
use Rattle.std.proofs.Common.{arith, ◌≡◌, ◌<◌, ◌≤◌, ◌+◌, ◌-◌, ◌∷◌, ◌++◌, ◌∙◌, ◌||◌, not, [], ℕ, Bool, List, Option, None, Some, true, false, drop, length, take, vec_len, refl, sym, ap, ap₂, subst, append_assoc, take-append-drop, if◌then◌else◌, inl, inr}
use Rattle.std.proofs.lemmas.List.{drop-append-le, drop-drop, length-append, length-drop, length-take-le, map-append}
use Rattle.std.specs.Io.KnownBytes.{IsAtEnd, prepend_known}
use Rattle.csv.specs.Reading.{default_config, records}
use Rattle.record_reading.proofs.{AskingLemmas.{ask_more}, WholeLineLemmas.{no_feed_both}}
use Rattle.record_reading.specs.Asking.{AskFor, Asked, asked_of, with_record}
use Rattle.record_reading.specs.Lines.{IsWhole, has_no_feed}
use Rattle.record_reading.specs.declared.buffers.TheConstants.{ROOM_TO_READ}
use Rattle.record_reading.specs.declared.inputs.CompactInput.{CompactInput}
use Rattle.record_reading.specs.declared.record.Record.{Record}
use Rattle.record_reading.specs.declared.inputs.Cause.TheVariants as cause
use Rattle.record_reading.specs.declared.inputs.ReadFault.TheVariants as fault
use Rattle.live_reading.proofs.LineBufferLemmas.{all_held, known_behind}
use Rattle.live_reading.proofs.LiveLineLemmas.{begun_is_long, first_whole, last_is_long, last_line, nothing_says, short_says}
use Rattle.live_reading.{proofs.TakingLemmas.{requests_more}, specs.LineBuffers.{held, lines_left}}
use Rattle.live_reading.specs.LiveLines.{begun_after, faulty_line, first_worker, is_long, line_says, lines_of, lines_say, records_say, then_say}
use Rattle.live_reading.specs.LiveReading.{records_said}
use Rattle.live_reading.specs.declared.line_buffer.LineBuffer.{LineBuffer}
use Rattle.live_reading.specs.declared.line_skipping.Front.TheVariants.{Line}
use Rattle.live_reading.specs.declared.line_taking.LineStop.{LineStop}
use Rattle.live_reading.specs.declared.live_lines.{LineFault.{LineFault}, Said.{Said}}
use Rattle.live_reading.specs.declared.part_records.Taken.{Taken}
use Rattle.live_reading.specs.inner.Lines.{HasFirstLine, HasPassed, underneath}
use Rattle.live_reading.specs.inner.Taking.{AreForOnePart, HasCounted, HasTaken, IsFront, StopsAt, TakesFrom, TakesSaid, TakesText, next_says, stop_at, yet_said}
use Rattle.live_reading.specs.declared.line_taking.LineStop.TheVariants as stop
use Rattle.live_reading.specs.declared.live_lines.Said.TheVariants as says

-- for one part
pub one_part : (taken : Taken) → AreForOnePart taken taken
one_part taken = record { workers = refl; most = refl }

same_part : (a b c : Taken) → AreForOnePart a b → AreForOnePart b c → AreForOnePart a c
same_part a b c first second = record { workers = second.workers ∙ first.workers; most = second.most ∙ first.most }

-- a record is said before what is behind it
front_record : (all : List Said) (said : List Record) (one : Record) (behind : List Said) → all ≡ records_said said ++ (says.Record one ∷ behind)
    → all ≡ records_said (said ++ (one ∷ [])) ++ behind
front_record all said one behind is =
    is ∙ sym (append_assoc (records_said said) (says.Record one ∷ []) behind) ∙ ap (λ (xs : List Said). xs ++ behind) (sym (map-append says.Record said (one ∷ [])))

-- one record more is taken
front_more : (all : List Said) (old new : Taken) (one : Record) (behind : List Said) → IsFront all old (says.Record one ∷ behind) → HasTaken old one new → one.worker < old.workers → IsFront all new behind
front_more all old new one behind is added below = record {
  said = is.said ++ (one ∷ []);
  front = front_record all is.said one behind is.front;
  asked = subst (λ (workers : ℕ). AskFor workers (is.said ++ (one ∷ [])) (asked_of new.input)) (sym added.same.workers) (rw added.asked (ask_more old.workers is.said one (asked_of old.input) is.asked below));
  requests = added.requests ∙ ap (λ (n : ℕ). n + (if one.is_row then 0 else 1)) is.requests ∙ sym (requests_more is.said one);
}

-- no record is taken
front_counted : (all : List Said) (old new : Taken) (count : ℕ) (behind : List Said) → IsFront all old behind → HasCounted old count new → IsFront all new behind
front_counted all old new count behind is counts = record {
  said = is.said;
  front = is.front;
  asked = subst (λ (workers : ℕ). AskFor workers is.said (asked_of new.input)) (sym counts.same.workers)
      (subst (λ (input : CompactInput). AskFor old.workers is.said (asked_of input)) (sym counts.input) is.asked);
  requests = counts.requests ∙ is.requests;
}

-- what a line says is taken
pub step : (all : List Said) (old new : Taken) (said : Option Said) (fault : Option LineFault) (left : List ℕ) → TakesSaid old said new fault
    → IsFront all old (then_say said (yet_said old left) (λ one. lines_say old.workers (old.count + 1 + 1) (begun_after old.begun one) (lines_of left)))
    → StopsAt all new (stop_at fault) left
step all old new None fault left (same, none) is =
    subst (λ (f : Option LineFault). StopsAt all new (stop_at f) left) (sym none) (subst (λ (t : Taken). IsFront all t (yet_said t left)) (sym same) is)
step all old new (Some (says.Record one)) fault left (below, (added, none)) is =
    let behind : lines_say old.workers (old.count + 1 + 1) (old.begun || not one.is_row) (lines_of left) ≡ yet_said new left =
    ap₂ (λ (n : ℕ) (b : Bool). lines_say old.workers (n + 1) b (lines_of left)) (sym added.count) (sym added.begun)
    ∙ ap (λ (workers : ℕ). lines_say workers (new.count + 1) new.begun (lines_of left)) (sym added.same.workers) in
    subst (λ (f : Option LineFault). StopsAt all new (stop_at f) left) (sym none)
    (subst (λ (more : List Said). IsFront all new more) behind (front_more all old new one _ is added below))
step all old new (Some (says.Fault met)) fault left (counts, found) is =
    let behind : lines_say old.workers (old.count + 1 + 1) old.begun (lines_of left) ≡ yet_said new left =
    ap₂ (λ (n : ℕ) (b : Bool). lines_say old.workers (n + 1) b (lines_of left)) (sym counts.counted) (sym counts.begun)
    ∙ ap (λ (workers : ℕ). lines_say workers (new.count + 1) new.begun (lines_of left)) (sym counts.same.workers) in
    subst (λ (f : Option LineFault). StopsAt all new (stop_at f) left) (sym found)
    (subst (λ (more : List Said). IsFront all new (says.Fault met ∷ more)) behind (front_counted all old new (old.count + 1) _ is counts))

same_step : (old new : Taken) (said : Option Said) (fault : Option LineFault) → TakesSaid old said new fault → AreForOnePart old new
same_step old new None fault (same, none) = subst (AreForOnePart old) (sym same) (one_part old)
same_step old new (Some (says.Record one)) fault (below, (added, none)) = added.same
same_step old new (Some (says.Fault met)) fault (counts, found) = counts.same

-- what a line says that is read by itself
pub takes_read : (old new : Taken) (line : List ℕ) (place : ℕ) (said : Option Said) (fault : Option LineFault) → is_long line ≡ false → place ≡ old.count + 1
    → said ≡ records_say old.workers place old.begun (records default_config line) → TakesSaid old said new fault
    → TakesSaid old (next_says old line) new fault
takes_read old new line place said fault short count is takes =
    let same : said ≡ next_says old line =
    is ∙ ap (λ (n : ℕ). records_say old.workers n old.begun (records default_config line)) count ∙ sym (short_says line old.workers (old.count + 1) old.begun short) in
    subst (λ (o : Option Said). TakesSaid old o new fault) same takes

-- one whole line more of a text
pub text_line : (old new : Taken) (xs : List ℕ) (len : ℕ) (fault : Option LineFault) → IsWhole (take len xs)
    → TakesSaid old (next_says old (take len xs)) new fault → TakesText old xs new (stop_at fault) (drop len xs)
unfolding lines_say
text_line old new xs len fault whole takes = record {
  same = same_step old new _ fault takes;
  takes = λ all more is.
      let line = take len xs in let left = drop len xs ++ more in
      let split : xs ++ more ≡ whole.content ++ (10 ∷ left) =
      ap (λ (ys : List ℕ). ys ++ more) (sym (take-append-drop len xs)) ∙ append_assoc line (drop len xs) more
      ∙ ap (λ (l : List ℕ). l ++ left) whole.line_is ∙ append_assoc whole.content (10 ∷ []) left in
      let lines : lines_of (xs ++ more) ≡ line ∷ lines_of left =
      ap lines_of split ∙ first_whole whole.content left whole.no_feed ∙ ap (λ (l : List ℕ). l ∷ lines_of left) (sym whole.line_is) in
      step all old new (next_says old line) fault left takes
      (subst (λ (ls : List (List ℕ)). IsFront all old (lines_say old.workers (old.count + 1) old.begun ls)) lines is);
}

pub text_then : (a b c : Taken) (x y z : List ℕ) (how : LineStop) → TakesText a x b stop.Full y → TakesText b y c how z → TakesText a x c how z
text_then a b c x y z how first second = record { same = same_part a b c first.same second.same; takes = λ all more is. second.takes all more (first.takes all more is) }

-- one more line of a text, from a place on
pub text_more : (first old new : Taken) (text rest : List ℕ) (at len : ℕ) (fault : Option LineFault) → rest ≡ drop at text → TakesText first text old stop.Full (drop at text) → IsWhole (take len rest)
    → TakesSaid old (next_says old (take len rest)) new fault → TakesText first text new (stop_at fault) (drop (at + len) text)
text_more first old new text rest at len fault is before whole takes =
    let here = subst (λ (xs : List ℕ). TakesText old xs new (stop_at fault) (drop len xs)) is (text_line old new rest len fault whole takes) in
    subst (λ (to : List ℕ). TakesText first text new (stop_at fault) to) (drop-drop len at text)
    (text_then first old new text (drop at text) (drop len (drop at text)) (stop_at fault) before here)

-- what is taken of the front of a text is taken of the text
in_front_of : (old new : Taken) (x y tail : List ℕ) → TakesText old x new stop.Full y → TakesText old (x ++ tail) new stop.Full (y ++ tail)
in_front_of old new x y tail takes = record {
  same = takes.same;
  takes = λ all more is.
      subst (λ (bytes : List ℕ). StopsAt all new stop.Full bytes) (sym (append_assoc y tail more))
      (takes.takes all (tail ++ more) (subst (λ (bytes : List ℕ). StopsAt all old stop.Full bytes) (append_assoc x tail more) is));
}

from_place : (text : List ℕ) (end at : ℕ) → end ≤ length text → at ≤ end → drop at text ≡ drop at (take end text) ++ drop end text
from_place text end at within before =
    ap (drop at) (sym (take-append-drop end text)) ∙ drop-append-le at (take end text) (drop end text) (let n = length-take-le end text within in omega (arith, n))

-- more bids of the whole lines of a text
pub bids_more : (first old new : Taken) (text : List ℕ) (end at next : ℕ) → end ≤ length text → at < next → next ≤ end → TakesText first text old stop.Full (drop at text)
    → TakesText old (drop at (take end text)) new stop.Full (drop next (take end text)) → TakesText first text new stop.Full (drop next text)
bids_more first old new text end at next within after before so_far takes =
    let here : TakesText old (drop at text) new stop.Full (drop next text) =
    rw (from_place text end at within (omega arith), from_place text end next within before) (in_front_of old new _ _ (drop end text) takes) in
    text_then first old new text (drop at text) (drop next text) stop.Full so_far here

-- a bid's line of a text, from a place on
pub bid_text : (old new : Taken) (text : List ℕ) (at next : ℕ) (one : Record) → IsWhole (take (next - at) (drop at text)) → at < next
    → next_says old (take (next - at) (drop at text)) ≡ Some (says.Record one) → one.worker < old.workers → HasTaken old one new → TakesText old (drop at text) new stop.Full (drop next text)
bid_text old new text at next one whole after said below added =
    let takes : TakesSaid old (next_says old (take (next - at) (drop at text))) new None = subst (λ (o : Option Said). TakesSaid old o new None) (sym said) (below, (added, refl)) in
    let to_next : at + (next - at) ≡ next = omega arith in
    subst (λ (to : List ℕ). TakesText old (drop at text) new stop.Full to) (drop-drop (next - at) at text ∙ ap (λ (n : ℕ). drop n text) to_next)
    (text_line old new (drop at text) (next - at) None whole takes)

-- a bid is no row
pub bid_rows : (old new : Taken) (one : Record) → HasTaken old one new → one.is_row ≡ false → vec_len new.input.rows ≡ vec_len old.input.rows
bid_rows old new one added request =
    let rows : length (with_record one (asked_of old.input)).rows ≡ length (asked_of old.input).rows = rw request refl in
    omega (arith, new.input.rows.ok.0, old.input.rows.ok.0, ap (λ (a : Asked). length a.rows) added.asked, rows)

pub within_more : (text rest : List ℕ) (at len : ℕ) → rest ≡ drop at text → at ≤ length text → len ≤ length rest → at + len ≤ length text
within_more text rest at len is within fits = omega (arith, length-drop at text, ap length is, within, fits)

pub text_none : (taken : Taken) (text : List ℕ) → TakesText taken text taken stop.Full text
text_none taken text = record { same = one_part taken; takes = λ all more is. is }

module _ {R : Type 0} (rem : R → Option (List ℕ)) where
  pub from_none : (lines : LineBuffer R) (taken : Taken) → TakesFrom rem lines taken lines taken stop.Full
  from_none lines taken = record { same = one_part taken; takes = λ all from known is. (from, known, is) }

  -- what is taken of what a buffer holds
  pub from_held : (lines next : LineBuffer R) (old new : Taken) (how : LineStop) → underneath next ≡ underneath lines → TakesText old (held lines) new how (held next)
      → TakesFrom rem lines old next new how
  from_held lines next old new how same takes = record {
    same = takes.same;
    takes = λ all from known is.
        let (left, here, are) = known_behind (held lines) from (rem (underneath lines)) known in
        let now : lines_left rem next ≡ Some (held next ++ left) = ap (λ (r : R). prepend_known (held next) (rem r)) same ∙ ap (prepend_known (held next)) here in
        (held next ++ left, now, takes.takes all left (subst (λ (bytes : List ℕ). StopsAt all old stop.Full bytes) are is));
  }

  pub from_then : (a b c : LineBuffer R) (x y z : Taken) (how : LineStop) → TakesFrom rem a x b y stop.Full → TakesFrom rem b y c z how → TakesFrom rem a x c z how
  from_then a b c x y z how first second = record {
    same = same_part x y z first.same second.same;
    takes = λ all from known is. let (mid, now, taken) = first.takes all from known is in second.takes all mid now taken;
  }

  -- to read on takes nothing
  pub from_read : (a b c : LineBuffer R) (x y : Taken) → TakesFrom rem a x b y stop.Full → ((bytes : List ℕ) → lines_left rem b ≡ Some bytes → lines_left rem c ≡ Some bytes)
      → TakesFrom rem a x c y stop.Full
  from_read a b c x y first reads = record {
    same = first.same;
    takes = λ all from known is. let (mid, now, taken) = first.takes all from known is in (mid, reads mid now, taken);
  }

-- the taking stops at a fault, or at the input's end
abbrev pub last_stop : Option LineFault → LineStop
last_stop None = stop.End
last_stop (Some fault) = stop.Fault fault

at_end : (all : List Said) (taken : Taken) (fault : Option LineFault) → StopsAt all taken (stop_at fault) [] → StopsAt all taken (last_stop fault) []
unfolding lines_of lines_say
at_end all taken None is = is
at_end all taken (Some fault) is = is

-- the last line, or nothing
last_step : (all : List Said) (old new : Taken) (line : List ℕ) (fault : Option LineFault) → has_no_feed line ≡ true
    → TakesSaid old (next_says old line) new fault → StopsAt all old stop.Full line → StopsAt all new (last_stop fault) []
unfolding lines_of lines_say
last_step all old new [] fault none takes is =
    at_end all new fault (step all old new None fault [] (subst (λ (o : Option Said). TakesSaid old o new fault) (nothing_says old.workers (old.count + 1) old.begun) takes) is)
last_step all old new (b ∷ x) fault none takes is =
    at_end all new fault (step all old new (next_says old (b ∷ x)) fault [] takes
    (subst (λ (ls : List (List ℕ)). IsFront all old (lines_say old.workers (old.count + 1) old.begun ls)) (last_line b x none) is))

-- the first line says this
first_said : (all : List Said) (old : Taken) (from line rest : List ℕ) (one : Said) → lines_of from ≡ line ∷ lines_of rest → next_says old line ≡ Some one → StopsAt all old stop.Full from
    → IsFront all old (then_say (Some one) (yet_said old rest) (λ said. lines_say old.workers (old.count + 1 + 1) (begun_after old.begun said) (lines_of rest)))
unfolding lines_say
first_said all old from line rest one lines said is =
    let front = subst (λ (ls : List (List ℕ)). IsFront all old (lines_say old.workers (old.count + 1) old.begun ls)) lines is in
    subst (λ (o : Option Said). IsFront all old (then_say o (yet_said old rest) (λ s. lines_say old.workers (old.count + 1 + 1) (begun_after old.begun s) (lines_of rest)))) said front

-- the fault of a line that is too long
abbrev long_fault : Option ℕ → ℕ → LineFault
long_fault worker place = record { worker = worker; fault = fault.Line place cause.Long }

one_line : (x : List ℕ) → has_no_feed x ≡ true → 0 < length x → lines_of x ≡ x ∷ []
one_line [] none some = absurd (omega (arith, some))
one_line (b ∷ x) none some = last_line b x none

-- what a line that is too long says
abbrev LongSays : List ℕ → List ℕ → Type 0
LongSays front line = (workers place : ℕ) (begun : Bool)
    → line_says workers place begun line ≡ Some (faulty_line (first_worker workers (records default_config front)) (fault.Line place cause.Long))

-- and which it is, of bytes with a front that has no line feed
long_line : (front left rest from : List ℕ) → has_no_feed front ≡ true → length front ≡ ROOM_TO_READ → from ≡ front ++ left → HasFirstLine left rest
    → (line : List ℕ) × (lines_of from ≡ line ∷ lines_of rest) × LongSays front line
unfolding lines_of
long_line front left rest from none full are first =
    let content = first.content in let both = no_feed_both front content none first.no_feed in
    elim first.bytes_are [
      | inl feed ↦
          let split : from ≡ (front ++ content) ++ (10 ∷ rest) = are ∙ ap (λ (xs : List ℕ). front ++ xs) feed ∙ sym (append_assoc front content (10 ∷ rest)) in
          ((front ++ content) ++ (10 ∷ []), ap lines_of split ∙ first_whole (front ++ content) rest both, λ workers place begun. begun_is_long front content workers place begun both full)
      | inr (is_all, no_rest) ↦
          let all : from ≡ front ++ content = are ∙ ap (λ (xs : List ℕ). front ++ xs) is_all in
          let some : 0 < length (front ++ content) = omega (arith, length-append front content, full) in
          (front ++ content, ap lines_of all ∙ one_line (front ++ content) both some ∙ ap (λ (xs : List ℕ). (front ++ content) ∷ lines_of xs) (sym no_rest), λ workers place begun. last_is_long front content workers place begun both full)
    ]

module _ {R : Type 0} (rem : R → Option (List ℕ)) (lines next : LineBuffer R) (old new : Taken) where
  -- the last line, if a buffer holds it
  pub from_last : (fault : Option LineFault) → has_no_feed (held lines) ≡ true → IsAtEnd (rem (underneath lines))
      → TakesSaid old (next_says old (held lines)) new fault → underneath next ≡ underneath lines → held next ≡ [] → TakesFrom rem lines old next new (last_stop fault)
  from_last fault none end takes same nothing = record {
    same = same_step old new _ fault takes;
    takes = λ all from known is.
        let (are, left) = all_held (held lines) from (rem (underneath lines)) known end in
        let now : lines_left rem next ≡ Some [] = ap₂ (λ (h : List ℕ) (r : R). prepend_known h (rem r)) nothing same ∙ ap (prepend_known []) left in
        ([], now, last_step all old new (held lines) fault none takes (subst (λ (bytes : List ℕ). StopsAt all old stop.Full bytes) are is));
  }

  -- a line that is too long, of which a buffer holds the front
  pub from_long : (mid : LineBuffer R) (worker : Option ℕ) (place : ℕ) → has_no_feed (held lines) ≡ true → length (held lines) ≡ ROOM_TO_READ → underneath mid ≡ underneath lines → held mid ≡ []
      → ((bytes : List ℕ) → lines_left rem mid ≡ Some bytes → HasPassed rem Line bytes next) → worker ≡ first_worker old.workers (records default_config (held lines)) → place ≡ old.count + 1
      → HasCounted old place new → TakesFrom rem lines old next new (stop.Fault (record { worker = worker; fault = fault.Line place cause.Long }))
  from_long mid worker place none full same nothing passes names is_next counts = record {
    same = counts.same;
    takes = λ all from known is.
        let (left, here, are) = known_behind (held lines) from (rem (underneath lines)) known in
        let mid_left : lines_left rem mid ≡ Some left = ap₂ (λ (h : List ℕ) (r : R). prepend_known h (rem r)) nothing same ∙ ap (prepend_known []) here in
        let passed = passes left mid_left in
        let (line, first, says_so) = long_line (held lines) left passed.rest from none full are passed.past in
        let met = long_fault worker place in
        let same_fault : Some (says.Fault met) ≡ Some (faulty_line (first_worker old.workers (records default_config (held lines))) (fault.Line (old.count + 1) cause.Long)) =
        ap₂ (λ (w : Option ℕ) (n : ℕ). Some (faulty_line w (fault.Line n cause.Long))) names is_next in
        let said : next_says old line ≡ Some (says.Fault met) = says_so old.workers (old.count + 1) old.begun ∙ sym same_fault in
        (passed.rest, passed.left, step all old new (Some (says.Fault met)) (Some met) passed.rest (subst (λ (n : ℕ). HasCounted old n new) is_next counts, refl) (first_said all old from line passed.rest (says.Fault met) first said is));
  }
