-- One part more.
use Rattle.std.proofs.Common.{◌≡◌, ◌⊎◌, false, inl, inr, ℕ, suc, ◌+◌, ◌-◌, ◌*◌, ◌/◌, ◌<◌, ◌≤◌, List, [], ◌∷◌, ◌++◌, length, length-append, take, get_or, refl, ap, sym, ◌∙◌, subst, arith}
use mathlib.Core.List.{IsPrefix}
use Rattle.std.{proofs.lemmas.List.{take_more}, specs.List.{AllByRecursion}}
use Rattle.split_engine.proofs.{Counts.{total-append}, Splits.{length-acts}}
use Rattle.split_engine.specs.{Rules.{Rules, most_acts}, Serial.{acts_at, next, table_after}}
use Rattle.split_engine.specs.{Serving.{total}, declared.entry.Entry.{Entry}}
use Rattle.application_window.specs.Published.{Published, with_part, table_of, AreWithin}
use Rattle.application_window.specs.inner.Copies.{HasParts, IsLastPart}
use Rattle.published_parts.proofs.Growing.{before_last}

-- so many commits do at most so many acts
pub room_for : (acts more : ℕ) → acts ≤ most_acts → more ≤ (4294967296 - acts) / 4 → acts + 4 * more ≤ most_acts
room_for acts more few room = omega arith

-- of two lists of parts with so many, the longer is the one with more
pub longer_next : {E : Type 0} (old new both : List (List E)) → (both ≡ old) ⊎ (both ≡ new) → IsPrefix new both → length old < length new → both ≡ new
longer_next old new both (inl same) begins more = absurd (omega (arith, length-append new begins.0, ap length begins.1, ap length same))
longer_next old new both (inr same) begins more = same

-- what is published once a part is shown
pub with_part-is : {Commit : Type 0} (old before : Published Commit) (part : List Commit) (parts : List (List Commit)) (more : ℕ) → old ≡ before → parts ≡ old.parts ++ part ∷ [] → more ≡ length part →
    with_part before part ≡ record { parts = parts; room = old.room - more; failed = false }
with_part-is old before part parts more same grown long = rw (grown, long, ← same) refl

module _ {Record Slice Look Request Reply Act : Type 0} (rules : Rules Record Slice Look Request Reply Act) where
  -- a commit more
  after-snoc : (t : List Record) (part : List (Entry Request Reply)) (e : Entry Request Reply) → table_after rules t (part ++ e ∷ []) ≡ next rules (table_after rules t part) e.request
  after-snoc t [] e = refl
  after-snoc t (d ∷ part) e = after-snoc (next rules t d.request) part e

  pub after_more : (t u v : List Record) (part : List (Entry Request Reply)) (k : ℕ) (e : Entry Request Reply) → k < length part → e ≡ get_or part k e →
      u ≡ table_after rules t (take k part) → v ≡ next rules u e.request → v ≡ table_after rules t (take (k + 1) part)
  after_more t u v part k e low here was is =
      is ∙ ap (λ w. next rules w e.request) was ∙ sym (after-snoc t (take k part) e)
      ∙ ap (table_after rules t) (sym (take_more part k e low ∙ ap (λ x. take k part ++ x ∷ []) (sym here)))

  -- a table keeps its length
  pub length-after : (t : List Record) (part : List (Entry Request Reply)) → length (table_after rules t part) ≡ length t
  length-after t [] = refl
  length-after t (e ∷ part) = length-after (next rules t e.request) part ∙ length-acts rules t (acts_at rules t e.request)

  length-table_of : (opened : List Record) (parts : List (List (Entry Request Reply))) → length (table_of rules opened parts) ≡ length opened
  length-table_of opened [] = refl
  length-table_of opened (part ∷ parts) = length-table_of (table_after rules opened part) parts ∙ length-after opened part

  -- the table after one part more
  table_of-snoc : (opened : List Record) (parts : List (List (Entry Request Reply))) (last : List (Entry Request Reply)) →
      table_of rules opened (parts ++ last ∷ []) ≡ table_after rules (table_of rules opened parts) last
  table_of-snoc opened [] last = refl
  table_of-snoc opened (part ∷ parts) last = table_of-snoc (table_after rules opened part) parts last

  -- what is seen of a copy's table is of the table after the parts that it has
  pub seen_after : {T : Type 0} (f : List Record → T) (seen : T) (now table opened : List Record) (parts shown : List (List (Entry Request Reply))) →
      seen ≡ f now → now ≡ table → table ≡ table_of rules opened parts → shown ≡ parts → seen ≡ f (table_of rules opened shown)
  seen_after f seen now table opened parts shown seen_is same is shown_are = seen_is ∙ ap f (same ∙ is ∙ ap (table_of rules opened) (sym shown_are))

  module _ {Fits : ℕ → Record → Type 0} {opened table : List Record} {acts commits : ℕ} {old : List (List (Entry Request Reply))} (held : HasParts rules Fits opened table acts commits old) where
    -- a copy has as many records as the table before the first part
    pub as_long : length table ≡ length opened
    as_long = ap length held.table_is ∙ length-table_of opened old

    module _ {last : List (Entry Request Reply)} {new : List (List (Entry Request Reply))} (part : IsLastPart rules opened last new) where
      -- the requests of the part that comes next name keys of it
      pub is_within : AreWithin rules (length table) last
      is_within = subst (λ (len : ℕ). AreWithin rules len last) (sym as_long) part.within

      -- once they are performed, it has the part too
      pub has_next : IsPrefix old new → length new ≡ suc (length old) → (after : List Record) (more count : ℕ) → after ≡ table_after rules table last →
          AllByRecursion (Fits more) after → more ≡ acts + 4 * length last → more ≤ most_acts → count ≡ commits + length last → HasParts rules Fits opened after more count new
      has_next begins len after more count performed fits acts_are few count_is =
          let same = before_last old new part.before last part.parts_are begins len in
          let grown : new ≡ old ++ last ∷ [] = part.parts_are ∙ ap (λ (parts : List (List (Entry Request Reply))). parts ++ last ∷ []) same in record {
            table_is = performed ∙ ap (λ (t : List Record). table_after rules t last) held.table_is ∙ sym (table_of-snoc opened old last) ∙ ap (table_of rules opened) (sym grown);
            fits = fits;
            few = few;
            fewer = omega (arith, held.fewer);
            count = let snoc = total-append old last in let all = ap total grown in omega (arith, held.count);
          }
