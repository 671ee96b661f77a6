-- Indexes that rise: one more at their end, and two lists of them.
use Rattle.std.proofs.Common.{◌≡◌, ◌≤◌, ◌+◌, ◌∙◌, ℕ, List, [], ◌∷◌, ◌++◌, map, None, Some, refl, sym, ap, subst, append_assoc}
use Rattle.std.{proofs.lemmas.{List.{map-append}, Option.{same_Some}}, specs.Prelude.{slice_get}}
use Rattle.auction_rows.specs.declared.rows.Entry.{Entry}
use Rattle.worker_journals.specs.Journals.{entry_index}
use Rattle.worker_journals.specs.Rising.{RisesTo, EntriesRiseTo, HasPassed}
use Rattle.worker_journals.specs.{declared.heads.Head.{Head}, inner.Entries.{entry_from}}
use Rattle.worker_journals.specs.inner.HeadLists.{AskedHead, head_in, head_index}
use Rattle.worker_journals.specs.inner.Sides.{SideLists}

rises_further : (a b c : ℕ) (xs ys : List ℕ) → RisesTo a xs b → RisesTo b ys c → RisesTo a (xs ++ ys) c
rises_further a b c [] ys first second = subst (λ n. RisesTo n ys c) first second
rises_further a b c (x ∷ xs) ys first second = (first.0, rises_further (x + 1) b c xs ys first.1 second)

-- one more at the end
pub rises_pushed : (from next index : ℕ) (xs : List ℕ) → RisesTo from xs next → next ≤ index → RisesTo from (xs ++ index ∷ []) (index + 1)
rises_pushed from next index xs rise past = rises_further from next (index + 1) xs (index ∷ []) rise (past, refl)

pub heads_pushed : (heads new : List AskedHead) (head : AskedHead) (next : ℕ) → RisesTo 0 (map head_index heads) next → next ≤ head.head.index → new ≡ heads ++ head ∷ [] → RisesTo 0 (map head_index new) (head.head.index + 1)
heads_pushed heads new head next rise past pushed =
    subst (λ xs. RisesTo 0 xs (head.head.index + 1)) (sym (ap (map head_index) pushed ∙ map-append head_index heads (head ∷ [])))
    (rises_pushed 0 next head.head.index (map head_index heads) rise past)

-- the indexes of entries are those of their heads
pub indexes_are : (phase worker : ℕ) (sides : SideLists) (heads : List AskedHead) → map entry_index (map (entry_from phase worker sides) heads) ≡ map head_index heads
indexes_are phase worker sides [] = refl
indexes_are phase worker sides (head ∷ heads) = ap (λ xs. head.head.index ∷ xs) (indexes_are phase worker sides heads)

-- none was passed
pub none_passed : (from : ℕ) (entries : List Entry) → HasPassed from entries entries from
none_passed from entries = record { passed = []; parts = refl; rise = refl }

-- more were passed
pub passed_more : (from middle next : ℕ) (entries left more after : List Entry) → HasPassed from entries left middle → left ≡ more ++ after → EntriesRiseTo middle more next → HasPassed from entries after next
passed_more from middle next entries left more after so_far parts rise = record {
  passed = so_far.passed ++ more;
  parts = so_far.parts ∙ ap (λ es. so_far.passed ++ es) parts ∙ sym (append_assoc so_far.passed more after);
  rise = subst (λ xs. RisesTo from xs next) (sym (map-append entry_index so_far.passed more)) (rises_further from middle next (map entry_index so_far.passed) (map entry_index more) so_far.rise rise);
}

-- none rise from any index
pub none_rise : (phase worker : ℕ) (sides : SideLists) (from : ℕ) (heads : List AskedHead) → None ≡ slice_get (map head_in heads) 0 →
    EntriesRiseTo from (map (entry_from phase worker sides) heads) from
none_rise phase worker sides from [] is = refl
none_rise phase worker sides from (head ∷ heads) is = absurd (cc is)

-- so the entries of heads rise from any index up to the first head's
pub entries_from : (phase worker : ℕ) (sides : SideLists) (from next : ℕ) (heads : List AskedHead) (head : Head) → Some head ≡ slice_get (map head_in heads) 0 → RisesTo 0 (map head_index heads) next → from ≤ head.index
    → EntriesRiseTo from (map (entry_from phase worker sides) heads) next
entries_from phase worker sides from next [] head is rise before = absurd (cc)
entries_from phase worker sides from next (first ∷ heads) head is rise before =
    let same : head ≡ first.head = same_Some head first.head is in
    (subst (λ (h : Head). from ≤ h.index) same before, subst (λ xs. RisesTo (first.head.index + 1) xs next) (sym (indexes_are phase worker sides heads)) rise.1)
