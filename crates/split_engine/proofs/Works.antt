-- What a worker leaves, call by call.
use Rattle.std.proofs.Common.{◌≡◌, ℕ, ◌+◌, ◌<◌, Bool, true, false, not, cond, List, [], ◌∷◌, ◌++◌, length, take, get_or, append_assoc, Some, refl, sym, ap, ◌∙◌, subst}
use Rattle.std.proofs.{Math.Numerals.{add-one}, lemmas.List.{append-nil, map-append, take_more}}
use Rattle.std.proofs.lemmas.List.{Elements.{filter-append}, Sums.{fold-append}}
use Rattle.std.{proofs.lemmas.Option.{slice_get-get_or}, specs.List.{filter, AllByRecursion}}
use Rattle.std.specs.Option.{option_map, option_to_list}
use Rattle.split_engine.specs.Rules.{Rules}
use Rattle.split_engine.specs.Serial.{next, reply, after_entry, ReplaysFrom, table_after}
use Rattle.split_engine.specs.{Serving.{calls_before, call_of}, declared.entry.Entry.{Entry}}
use Rattle.split_engine.specs.inner.Commits.{commit}
use Rattle.split_engine.specs.inner.Phases.{is_taken, split_calls, put_off, HasPerformedOnSlices, HasPerformed}
use Rattle.phase_laws.proofs.ListLemmas.{all-append, all-get_or}

pub all_more : {X : Type 0} (P : X → Type 0) (xs : List X) (x : X) → AllByRecursion P xs → P x → AllByRecursion P (xs ++ x ∷ [])
all_more P [] x h p = (p, tt)
all_more P (y ∷ ys) x h p = (h.0, all_more P ys x h.1 p)

pub filter_one : {X : Type 0} (p : X → Bool) (xs : List X) (x : X) (b : Bool) → p x ≡ b → filter p (xs ++ x ∷ []) ≡ filter p xs ++ cond b (x ∷ []) []
filter_one p xs x b h = filter-append p xs (x ∷ []) ∙ ap (λ c. filter p xs ++ cond c (x ∷ []) []) h

pub calls_more : {Q : Type 0} (script : List Q) (n : ℕ) (q : Q) → n < length script → q ≡ get_or script n q → calls_before script (n + 1) ≡ calls_before script n ++ (n, q) ∷ []
calls_more script n q h e =
    ap (calls_before script) (add-one n)
    ∙ ap (λ o. calls_before script n ++ option_to_list (option_map (λ r. (n, r)) o)) (slice_get-get_or script n q h ∙ ap Some (sym e))

-- what holds of the first elements, and of the next one
pub all_take : {X : Type 0} (P : X → Type 0) (xs : List X) (k : ℕ) (x : X) → k < length xs → x ≡ get_or xs k x → AllByRecursion P (take k xs) → P x →
    AllByRecursion P (take (k + 1) xs)
all_take P xs k x lt is h p =
    subst (AllByRecursion P) (sym (take_more xs k x lt ∙ ap (λ y. take k xs ++ y ∷ []) (sym is))) (all_more P (take k xs) x h p)

pub all_at : {X : Type 0} (P : X → Type 0) (xs : List X) (n : ℕ) (d : X) → n < length xs → AllByRecursion P xs → P (get_or xs n d)
all_at P xs n d h all = all-get_or P xs n d h all

module _ {Record Slice Look Request Reply Act : Type 0} (rules : Rules Record Slice Look Request Reply Act) (IsSmall : Act → Type 0)
    (hot : List Bool) (table : List Record) (worker : ℕ) where
  pub stashed_more : (before all : List (ℕ × Request)) (journal : List (Entry Request Reply)) (slices : List Slice) (stash : List (ℕ × Request)) (call : ℕ × Request) →
      HasPerformedOnSlices rules IsSmall hot table worker all journal slices before stash → is_taken rules hot call.1 ≡ false →
      HasPerformedOnSlices rules IsSmall hot table worker (all ++ call ∷ []) journal slices before (stash ++ call ∷ [])
  stashed_more before all journal slices stash call d n = record {
    split = d.split;
    own = d.own;
    performed = d.performed ∙ sym (append-nil (split_calls rules hot all))
        ∙ sym (filter_one (λ c. is_taken rules hot c.1) all call false n);
    stash_is = ap (λ cs. cs ++ call ∷ []) d.stash_is ∙ append_assoc before (put_off rules hot all) (call ∷ [])
        ∙ ap (λ cs. before ++ cs) (sym (filter_one (λ c. not (is_taken rules hot c.1)) all call true (ap not n)));
    slices_are = d.slices_are;
  }

module _ {Record Slice Look Request Reply Act : Type 0} (rules : Rules Record Slice Look Request Reply Act) where
  pub replays_both : (t : List Record) (es fs : List (Entry Request Reply)) → ReplaysFrom rules t es → ReplaysFrom rules (table_after rules t es) fs → ReplaysFrom rules t (es ++ fs)
  replays_both t [] fs h g = g
  replays_both t (e ∷ es) fs h g = (h.0, replays_both (after_entry rules t e) es fs h.1 g)

  pub performed_both : (w : ℕ) (one two : List (ℕ × Request)) (t u v : List Record) (es fs : List (Entry Request Reply)) →
      HasPerformed rules w one t u es → HasPerformed rules w two u v fs → HasPerformed rules w (one ++ two) t v (es ++ fs)
  performed_both w one two t u v es fs h g = record {
    replays = replays_both t es fs h.replays (subst (λ s. ReplaysFrom rules s fs) h.table_is g.replays);
    table_is = g.table_is ∙ ap (λ s. table_after rules s fs) h.table_is ∙ sym (fold-append (after_entry rules) t es fs);
    own = all-append _ es fs h.own g.own;
    performed = map-append call_of es fs ∙ (λ i. h.performed i ++ g.performed i);
  }

  pub performed_none : (w : ℕ) (t : List Record) → HasPerformed rules w [] t t []
  performed_none w t = record { replays = tt; table_is = refl; own = tt; performed = refl }

  pub performed_one : (w : ℕ) (t u : List Record) (call : ℕ × Request) → u ≡ next rules t call.1 →
      HasPerformed rules w (call ∷ []) t u (commit w call (reply rules t call.1) ∷ [])
  performed_one w t u call e = record { replays = (refl, tt); table_is = e; own = (refl, tt); performed = refl }
