-- What is passed over at the front of an input.
use Rattle.std.proofs.Common.{arith, ◌≡◌, ◌++◌, ◌∷◌, ◌∙◌, ◌⊎◌, [], ℕ, Bool, List, Option, Some, true, false, drop, length, take, refl, sym, ap, ap₂, subst, append_assoc, take-append-drop, inl, inr}
use Rattle.std.{proofs.lemmas.List.{drop_all}, specs.Io.KnownBytes.{IsAtEnd, prepend_known}}
use Rattle.record_reading.proofs.WholeLineLemmas.{no_feed_both}
use Rattle.record_reading.specs.Lines.{IsWhole, has_no_feed}
use Rattle.live_reading.proofs.LineBufferLemmas.{all_held, known_behind}
use Rattle.live_reading.specs.LineBuffers.{held, lines_left}
use Rattle.live_reading.specs.declared.line_buffer.LineBuffer.{LineBuffer}
use Rattle.live_reading.specs.declared.line_skipping.Front.{TheVariants.{Line}, Front}
use Rattle.live_reading.specs.inner.Lines.{HasPassed, IsPast, Passes, underneath}

-- a line that ends in a text is passed over
pub line_ends : (text : List ℕ) (len : ℕ) → IsWhole (take len text) → Passes Line text (drop len text) true
line_ends text len whole = λ more.
    let left = drop len text ++ more in record {
      content = whole.content;
      no_feed = whole.no_feed;
      bytes_are = inl (ap (λ (xs : List ℕ). xs ++ more) (sym (take-append-drop len text)) ∙ append_assoc (take len text) (drop len text) more
          ∙ ap (λ (xs : List ℕ). xs ++ left) whole.line_is ∙ append_assoc whole.content (10 ∷ []) left);
    }

longer : (text bytes content rest : List ℕ) → (bytes ≡ content ++ (10 ∷ rest)) ⊎ ((bytes ≡ content) × (rest ≡ []))
    → (text ++ bytes ≡ (text ++ content) ++ (10 ∷ rest)) ⊎ ((text ++ bytes ≡ text ++ content) × (rest ≡ []))
longer text bytes content rest (inl feed) = inl (ap (λ (xs : List ℕ). text ++ xs) feed ∙ sym (append_assoc text content (10 ∷ rest)))
longer text bytes content rest (inr (is_all, none)) = inr (ap (λ (xs : List ℕ). text ++ xs) is_all, none)

-- a text in which no line ends is passed over, and the line goes on
pub line_goes_on : (text : List ℕ) → has_no_feed text ≡ true → Passes Line text (drop (length text) text) false
line_goes_on text none =
    let nothing : drop (length text) text ≡ [] = drop_all (length text) text (omega arith) in
    subst (λ (left : List ℕ). Passes Line text left false) (sym nothing) (all_of_it text none) where
      all_of_it : (text : List ℕ) → has_no_feed text ≡ true → Passes Line text [] false
      all_of_it text none = (
        omega arith,
        (
          record { content = []; no_feed = refl; bytes_are = inr (refl, refl) },
          λ more rest first. record {
            content = text ++ first.content;
            no_feed = no_feed_both text first.content none first.no_feed;
            bytes_are = longer text more first.content rest first.bytes_are;
          },
        ),
      )

-- what is passed over of a text is of what a buffer holds, which is the text
pub passes_held : (front : Front) (text held : List ℕ) (len : ℕ) (whole is : Bool) → text ≡ held → whole ≡ is → Passes front text (drop len text) whole → Passes front held (drop len held) is
passes_held front text held len whole is same found passes =
    subst (λ (xs : List ℕ). Passes front xs (drop len xs) is) same (subst (λ (b : Bool). Passes front text (drop len text) b) found passes)

-- Of some bytes that begin with such a front a part of it is passed over: what is behind the rest of
-- it, with which a buffer goes on, is behind it.
pub record IsPassing {R : Type 0} (rem : R → Option (List ℕ)) (front : Front) (bytes : List ℕ) (lines : LineBuffer R) : Type 0 where
  pub left : List ℕ
  pub known : lines_left rem lines ≡ Some left
  pub on : (rest : List ℕ) → IsPast front left rest → IsPast front bytes rest

module _ {R : Type 0} (rem : R → Option (List ℕ)) (front : Front) (bytes : List ℕ) where
  pub passing_none : (lines : LineBuffer R) → lines_left rem lines ≡ Some bytes → IsPassing rem front bytes lines
  passing_none lines known = record { left = bytes; known = known; on = λ rest past. past }

  -- to read on passes over nothing
  pub passing_read : (a b : LineBuffer R) → IsPassing rem front bytes a → ((all : List ℕ) → lines_left rem a ≡ Some all → lines_left rem b ≡ Some all) → IsPassing rem front bytes b
  passing_read a b passing reads = record { left = passing.left; known = reads passing.left passing.known; on = passing.on }

  module _ (a b : LineBuffer R) (len : ℕ) (passing : IsPassing rem front bytes a) (same : underneath b ≡ underneath a) (behind : held b ≡ drop len (held a)) where
    left_then : (more : List ℕ) → rem (underneath a) ≡ Some more → lines_left rem b ≡ Some (drop len (held a) ++ more)
    left_then more here = ap₂ (λ (h : List ℕ) (r : R). prepend_known h (rem r)) behind same ∙ ap (prepend_known (drop len (held a))) here

    -- a part of what a buffer holds is passed over
    pub passing_part : Passes front (held a) (drop len (held a)) false → IsPassing rem front bytes b
    passing_part passes =
        let (more, here, are) = known_behind (held a) passing.left (rem (underneath a)) passing.known in
        record {
          left = drop len (held a) ++ more;
          known = left_then more here;
          on = λ rest past. passing.on rest (subst (λ (xs : List ℕ). IsPast front xs rest) (sym are) (passes.1.1 more rest past));
        }

    -- the front ends in what a buffer holds
    pub passed_whole : Passes front (held a) (drop len (held a)) true → HasPassed rem front bytes b
    passed_whole passes =
        let (more, here, are) = known_behind (held a) passing.left (rem (underneath a)) passing.known in
        let rest = drop len (held a) ++ more in
        record { rest = rest; past = passing.on rest (subst (λ (xs : List ℕ). IsPast front xs rest) (sym are) (passes more)); left = left_then more here }

  -- the input ends with it
  pub passed_all : (a : LineBuffer R) → IsPassing rem front bytes a → IsPast front (held a) (held a) → IsAtEnd (rem (underneath a)) → HasPassed rem front bytes a
  passed_all a passing past end =
      let (are, left) = all_held (held a) passing.left (rem (underneath a)) passing.known end in
      record { rest = held a; past = passing.on (held a) (subst (λ (xs : List ℕ). IsPast front xs (held a)) (sym are) past); left = passing.known ∙ ap Some are }
