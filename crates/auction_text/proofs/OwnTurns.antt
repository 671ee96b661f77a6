-- The entries of one worker in turn, by their indexes.
use Rattle.std.proofs.Common.{arith, ◌≡◌, ◌∙◌, ◌+◌, ◌==◌, ◌∷◌, ◌++◌, ℕ, true, false, not, List, [], Option, Some, None, IfSome, nat_lt, ap, refl, subst, sym, inl, inr}
use Rattle.std.proofs.lemmas.Bool.{Decides.{nat_tests}, cases_Bool, cases_order}
use Rattle.std.specs.{Cmp.{nat_cmp_is}, List.{AllByRecursion}}
use Rattle.std.specs.Ordering.{is_lt, nat_cmp, ordering_then}
use Rattle.std.specs.declared.cmp.Ordering.TheVariants.{Equal, Greater, Less}
use Rattle.phase_laws.specs.Order.{part}
use Rattle.auction_rows.specs.declared.rows.Entry.{Entry}
use Rattle.worker_journals.specs.{Journals.{entry_worker}, Rising.{EntriesRiseTo, HasPassed}}
use Rattle.auction_text.{proofs.TurnLemmas.{late-in_turn}, specs.Order.{comes_before}}
use Rattle.auction_text.specs.inner.Turns.{is_late, late}

-- the first index that comes after an entry's
abbrev pub next_after : Option Entry → ℕ
next_after None = 0
next_after (Some entry) = entry.index + 1

-- the entries are of a worker
abbrev pub AreOf : ℕ → List Entry → Type 0
AreOf worker entries = AllByRecursion (λ entry. entry.worker ≡ worker) entries

pub part_own : (worker : ℕ) (entries : List Entry) → AreOf worker (part entry_worker worker entries)
part_own worker [] = tt
part_own worker (e ∷ es) = elim (cases_Bool (e.worker == worker)) [
  | inl here ↦ let is : e.worker ≡ worker = grind (arith, nat_tests) in rw here (is, part_own worker es)
  | inr there ↦ rw there (part_own worker es)
]

-- the last entry of a worker in turn, by the index after it, and what holds of it
pub record HasLast (worker next : ℕ) (P : Option Entry → Type 0) : Type 0 where
  pub last : Option Entry
  pub next_is : next ≡ next_after last
  pub own : IfSome last (λ entry. entry.worker ≡ worker)
  pub holds : P last

-- of one worker an entry comes before another that has a greater index
by_index : (a b : Entry) → a.worker ≡ b.worker → comes_before a b ≡ nat_lt a.index b.index
by_index a b own =
    let tie : nat_cmp a.worker b.worker ≡ Equal = sym (nat_cmp_is a.worker b.worker Equal own) in
    ap (λ o. is_lt (ordering_then o (nat_cmp a.index b.index))) tie ∙ index_less a.index b.index where
      index_less : (i j : ℕ) → is_lt (nat_cmp i j) ≡ nat_lt i j
      index_less i j = elim (cases_order i j) [
        | inl same ↦ let no : nat_lt i j ≡ false = grind (arith, nat_tests) in ap is_lt (sym (nat_cmp_is i j Equal same)) ∙ sym no
        | inr (inl less) ↦ let yes : nat_lt i j ≡ true = grind (arith, nat_tests) in ap is_lt (sym (nat_cmp_is i j Less less)) ∙ sym yes
        | inr (inr more) ↦ let no : nat_lt i j ≡ false = grind (arith, nat_tests) in ap is_lt (sym (nat_cmp_is i j Greater more)) ∙ sym no
      ]

not_less : (i j : ℕ) → not (nat_lt i j) ≡ nat_lt j (i + 1)
not_less i j = elim (cases_Bool (nat_lt i j)) [
  | inl less ↦ let no : nat_lt j (i + 1) ≡ false = grind (arith, nat_tests) in rw (less, no) refl
  | inr more ↦ let yes : nat_lt j (i + 1) ≡ true = grind (arith, nat_tests) in rw (more, yes) refl
]

-- so an entry is late where its index is below the next one
pub late_by_index : (worker next : ℕ) (last : Option Entry) (e : Entry) → next ≡ next_after last → IfSome last (λ entry. entry.worker ≡ worker) → e.worker ≡ worker
    → is_late comes_before last e ≡ nat_lt e.index next
late_by_index worker next None e is own here = let no : nat_lt e.index next ≡ false = grind (arith, nat_tests) in sym no
late_by_index worker next (Some last) e is own here =
    ap not (by_index last e (own ∙ sym here)) ∙ not_less last.index e.index ∙ ap (nat_lt e.index) (sym is)

-- entries whose indexes rise stand in turn
late_passed : (worker next after : ℕ) (last : Option Entry) (passed left : List Entry) → next ≡ next_after last → IfSome last (λ entry. entry.worker ≡ worker) → AreOf worker passed → EntriesRiseTo next passed after
    → HasLast worker after (λ now. late comes_before last (passed ++ left) ≡ late comes_before now left)
late_passed worker next after last [] left is own of rise = record { last = last; next_is = rise ∙ is; own = own; holds = refl }
late_passed worker next after last (e ∷ es) left is own of rise =
    let no : nat_lt e.index next ≡ false = grind (arith, nat_tests, rise.0) in
    let more = late_passed worker (e.index + 1) after (Some e) es left refl of.0 of.1 rise.1 in
    record {
      last = more.last;
      next_is = more.next_is;
      own = more.own;
      holds = late-in_turn comes_before last e (es ++ left) (late_by_index worker next last e is own of.0 ∙ no) ∙ more.holds;
    }

own_parts : (worker : ℕ) (passed left : List Entry) → AreOf worker (passed ++ left) → AreOf worker passed × AreOf worker left
own_parts worker [] left of = (tt, of)
own_parts worker (e ∷ es) left of = let more = own_parts worker es left of.1 in ((of.0, more.0), more.1)

-- so the late ones of a worker's entries are among those that are left once such were passed
pub pass_on : (worker next after : ℕ) (so_far all left rest : List Entry) → AreOf worker left → HasLast worker next (λ last. so_far ++ late comes_before last left ≡ all) → HasPassed next left rest after
    → AreOf worker rest × HasLast worker after (λ last. so_far ++ late comes_before last rest ≡ all)
pass_on worker next after so_far all left rest of turn gone =
    let own = own_parts worker gone.passed rest (subst (AreOf worker) gone.parts of) in
    let more = late_passed worker next after turn.last gone.passed rest turn.next_is turn.own own.0 gone.rise in (
      own.1,
      record {
        last = more.last;
        next_is = more.next_is;
        own = more.own;
        holds = ap (λ es. so_far ++ es) (sym (ap (late comes_before turn.last) gone.parts ∙ more.holds)) ∙ turn.holds;
      },
    )
