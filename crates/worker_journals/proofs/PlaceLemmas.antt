-- What the entry at a place of a journal is.
use Rattle.std.proofs.Common.{◌≡◌, ◌<◌, ◌∙◌, ℕ, zero, suc, List, [], ◌∷◌, Some, map, length, slice_get, refl, sym, ap, subst, arith}
use Rattle.std.{proofs.lemmas.Option.{none-some, same_Some}, specs.List.{AllByRecursion}}
use Rattle.auction_rows.specs.declared.{requests.Request.Request, rows.Entry.Entry}
use Rattle.worker_journals.specs.{Journals.{IsOf, JournalView}, declared.heads.Head.{Head}}
use Rattle.worker_journals.specs.inner.Entries.{HasHead, SaysEntry, entry_from, shown}
use Rattle.worker_journals.specs.inner.HeadLists.{AskedHead, head_in, request_in}
use Rattle.worker_journals.specs.inner.{Places.{entry_at}, Sides.{SideLists}}

-- it is of the journal's phase and worker
pub is_own : (phase worker : ℕ) (entries : List Entry) (place : ℕ) → AllByRecursion (IsOf phase worker) entries → place < length entries →
    IsOf phase worker (entry_at place entries)
is_own phase worker [] place own within = absurd (omega arith)
is_own phase worker (e ∷ es) zero own within = own.0
is_own phase worker (e ∷ es) (suc n) own within = is_own phase worker es n own.1 (omega arith)

module _ (phase worker : ℕ) (sides : SideLists) where
  head_there : (heads : List AskedHead) (place : ℕ) (head : Head) → AllByRecursion (HasHead sides) heads → slice_get (map head_in heads) place ≡ Some head →
      SaysEntry sides head (entry_at place (map (entry_from phase worker sides) heads))
  head_there [] place head within is = absurd (none-some head is)
  head_there (asked ∷ heads) zero head within is =
      let here : SaysEntry sides asked.head (entry_from phase worker sides asked) = record { number = refl; index = refl; reply = record { within = within.0; is = refl } } in
      subst (λ (h : Head). SaysEntry sides h (entry_from phase worker sides asked)) (same_Some asked.head head is) here
  head_there (asked ∷ heads) (suc place) head within is = head_there heads place head within.1 is

  request_there : (heads : List AskedHead) (place : ℕ) (request : Request) → slice_get (map request_in heads) place ≡ Some request →
      request ≡ (entry_at place (map (entry_from phase worker sides) heads)).request
  request_there [] place request is = absurd (none-some request is)
  request_there (asked ∷ heads) zero request is = sym (same_Some asked.request request is)
  request_there (asked ∷ heads) (suc place) request is = request_there heads place request is

  -- of a journal that these heads say
  module _ (heads : List AskedHead) (place : ℕ) (journal : JournalView) (entry : Entry) (shows : shown phase worker heads sides ≡ journal) (there : entry_at place journal.entries ≡ entry) where
    same_entry : entry_at place (map (entry_from phase worker sides) heads) ≡ entry
    same_entry = ap (λ (j : JournalView). entry_at place j.entries) shows ∙ there

    -- the head there says it
    pub head_says : (head : Head) → AllByRecursion (HasHead sides) heads → slice_get (map head_in heads) place ≡ Some head → SaysEntry sides head entry
    head_says head within is = subst (λ (e : Entry). SaysEntry sides head e) same_entry (head_there heads place head within is)

    -- and it has the request there
    pub request_is : (request : Request) → slice_get (map request_in heads) place ≡ Some request → request ≡ entry.request
    request_is request is = request_there heads place request is ∙ ap (λ (e : Entry). e.request) same_entry
