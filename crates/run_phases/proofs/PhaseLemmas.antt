-- From the floor, the permits and the receipts of a phase to what a run knows of it.
use Rattle.std.proofs.Common.{◌≡◌, ℕ, zero, suc, ◌+◌, ◌-◌, ◌%◌, ◌<◌, ◌≤◌, ◌⊎◌, inl, inr, min, Bool, true, false, not, cond, List, [], ◌∷◌, ◌++◌, map, length, take, drop, refl, sym, ap, subst, ◌∙◌, arith}
use Rattle.std.proofs.Math.{ListN.{get_or-map}, Seq.{drop-nil, take-nil}}
use Rattle.std.proofs.lemmas.{Bool.{eq-eqb, ne_eqb, cases_lt}, List.{length-map, get_or_past}}
use Rattle.std.specs.{List.{AllByRecursion, AllZip}, Prelude.{Option, slice_index}}
use Rattle.auction_rows.specs.{History.{ReplaysFrom, book_after}, Phases.{IsNumbered}}
use Rattle.auction_rows.specs.declared.{limits.Policy.Policy, requests.Facts.Facts, requests.Object.Object, requests.Request.Request, rows.Entry.Entry}
use Rattle.phase_laws.specs.Order.{part}
use Rattle.run_laws.proofs.{PartLemmas.{all_of_parts}, ScriptLemmas.{past_end}}
use Rattle.run_laws.specs.Phases.{is_split, quota}
use Rattle.run_laws.specs.Run.{first_index, calls_of, calls_given, IsPhasePerformed}
use Rattle.run_laws.specs.{Serving.{call_of, script_of}, Turns.{numbered}}
use Rattle.shard_boxes.specs.{Keys.{BoxId}, States.{ShardState, state_of}}
use Rattle.worker_slices.specs.{Slicing.{hot_objects, stocks_of, slices_of}, Stashes.{StashState}}
use Rattle.item_shards.specs.CommitNumbers.{last_number}
use Rattle.phase_transactions.specs.{Performing.{HaveOpening, greatest_seen}, Workers.{WorkerState}}
use Rattle.phase_transactions.specs.declared.fault.PermitFault.TheVariants as permit
use Rattle.closing_laws.specs.Phases.{no_receipt, receipt_at, journal_of, counters_of}
use Rattle.closing_laws.specs.Standing.{StandFor, counters_at}
use Rattle.worker_journals.specs.Journals.{IsJournalOf, IsOfScript, entry_worker}
use Rattle.phase_floor.specs.Begins.{IsTooLong, empty_stash}
use Rattle.phase_floor.specs.Closings.{AreOfScripts, AreReceiptsOf, Leaves, stash_of}
use Rattle.phase_floor.specs.Floors.{FloorState, IsNewPermit, stash_at}
use Rattle.phase_floor.specs.States.{JoinedState, states_of, StandsFor}
use Rattle.phase_floor.specs.declared.floor.BeginFault.{BeginFault}
use Rattle.phase_floor.specs.declared.floor.BeginFault.TheVariants.{UnknownHot, TooLong, Memory}
use Rattle.run_phases.proofs.{AskedLemmas.{all_journals, done_asked}, ScriptLemmas.{past_stashes}}
use Rattle.run_phases.specs.{Phases.{told}, inner.Closed.{HasClosedPhase}}
use Rattle.run_phases.specs.inner.Plans.{IsCallOf, MayPerform, waiting_in, quota_of}
use Rattle.run_phases.specs.inner.Serving.{CanPerform, HasBegunPhase, HasEnded}
use Rattle.phase_workers.proofs.WorkLemmas.{cold_kept, cold_off}
use Rattle.phase_workers.specs.Tasks.{Task, task, tasks, to_do, calls_for, CanBeDone, HasDoneTask, IsFirstFault, IsReceiptFor}
use Rattle.phase_workers.specs.Working.{committed, stashed, taken, still_waiting, hot_for, put_off, not_put_off, AreOfPhase, IsSamePermit, IsPermitOf, ArePermitsOf}

-- ---- tasks, by worker

pub tasks_all : (P : Task → Type 0) (permits : List WorkerState) (scripts : List (List Request)) (first : ℕ) → length permits ≡ length scripts →
    ((w : ℕ) → w < length permits → P (task (receipt_at permits w) (script_of scripts w) first)) → AllByRecursion P (tasks permits scripts first)
tasks_all P [] scripts first same each = tt
tasks_all P (p ∷ ps) [] first same each = absurd (omega (arith, same))
tasks_all P (p ∷ ps) (s ∷ ss) first same each =
    (each 0 (omega arith), tasks_all P ps ss first (omega (arith, same)) (λ w less. each (suc w) (omega (arith, less))))

pub done_count : (P : Task → WorkerState → Type 0) (permits receipts : List WorkerState) (scripts : List (List Request)) (first : ℕ) → length permits ≡ length scripts →
    AllZip P (tasks permits scripts first) receipts → length receipts ≡ length permits
done_count P [] [] scripts first same all = refl
done_count P (p ∷ ps) receipts [] first same all = absurd (omega (arith, same))
done_count P (p ∷ ps) (r ∷ rs) (s ∷ ss) first same all = ap suc (done_count P ps rs ss first (omega (arith, same)) all.1)
done_count P permits receipts scripts first same all = absurd all

pub done_at : (P : Task → WorkerState → Type 0) (permits receipts : List WorkerState) (scripts : List (List Request)) (first : ℕ) → length permits ≡ length scripts →
    AllZip P (tasks permits scripts first) receipts → (w : ℕ) → w < length permits → P (task (receipt_at permits w) (script_of scripts w) first) (receipt_at receipts w)
done_at P [] receipts scripts first same all w less = absurd (omega (arith, less))
done_at P (p ∷ ps) receipts [] first same all w less = absurd (omega (arith, same))
done_at P (p ∷ ps) [] (s ∷ ss) first same all w less = absurd all
done_at P (p ∷ ps) (r ∷ rs) (s ∷ ss) first same all zero less = all.0
done_at P (p ∷ ps) (r ∷ rs) (s ∷ ss) first same all (suc w) less = done_at P ps rs ss first (omega (arith, same)) all.1 w (omega (arith, less))

-- ---- quotas

pub only_memory : (fault : BeginFault) → (fault ≡ UnknownHot → ⊥) → (fault ≡ TooLong → ⊥) → fault ≡ Memory
only_memory UnknownHot known short = absurd (known refl)
only_memory TooLong known short = absurd (short refl)
only_memory Memory known short = refl

pub not_too_long : {policy : Policy} {scripts : List (List Request)} {state : JoinedState} {stashes : List StashState} {hot : List Object} (may : MayPerform policy scripts state stashes hot) (handed : List StashState) (quotas : List ℕ) →
    ((w : ℕ) → (stash_at handed w).requests ≡ waiting_in stashes w) → ((w : ℕ) → w < length scripts → slice_index quotas w ≡ quota_of policy state.phase (script_of scripts w)) → IsTooLong state.limit state.counters handed quotas → ⊥
not_too_long may handed quotas handed_is are long =
    let room = may.room long.0 long.1 in
    let same = are long.0 (omega (arith, long.1, may.scripts_are)) in
    let as_long = ap length (handed_is long.0) in let over = long.2 in
    absurd (omega (arith, room, same, as_long, over))

-- what each worker is given is its quota of the phase
pub given_quotas : (policy : Policy) (scripts : List (List Request)) (phase first : ℕ) (given quotas : List ℕ) (split : Bool) → is_split phase ≡ split → first ≡ first_index policy phase → given ≡ quotas →
    ((w : ℕ) → w < length scripts → slice_index quotas w ≡ min (cond split policy.split_quota policy.joined_quota) (length (script_of scripts w) - first)) →
    (w : ℕ) → w < length scripts → slice_index given w ≡ quota_of policy phase (script_of scripts w)
given_quotas policy scripts phase first given quotas split is at same are w less =
    ap (λ qs. slice_index qs w) same ∙ are w less
    ∙ ap (λ k. min (cond split policy.split_quota policy.joined_quota) (length (script_of scripts w) - k)) at
    ∙ ap (λ b. min (cond b policy.split_quota policy.joined_quota) (length (script_of scripts w) - first_index policy phase)) (sym is)

-- ---- the answer of a phase

-- where numbers suffice no worker met their end
pub none_met_the_end : (takes : Bool) (initial : List ShardState) (given : List Task) (receipts : List WorkerState) → IsFirstFault takes initial given receipts permit.NumberFull →
    ((w : ℕ) → w < length receipts → (request : Request) → greatest_seen initial (receipt_at receipts w) (receipt_at receipts w).key request < last_number) → ⊥
none_met_the_end takes initial (t ∷ ts) (r ∷ rs) met suffice = at met (λ later. none_met_the_end takes initial ts rs later (λ w less request. suffice (suc w) (omega (arith, less)) request)) where
  at : IsFirstFault takes initial (t ∷ ts) (r ∷ rs) permit.NumberFull → (IsFirstFault takes initial ts rs permit.NumberFull → ⊥) → ⊥
  at (inl stopped) again =
      let few : greatest_seen initial r r.key stopped.call.1 < last_number = suffice 0 (omega arith) stopped.call.1 in
      let many : last_number ≤ greatest_seen initial r r.key stopped.call.1 = stopped.cause in omega (arith, few, many)
  at (inr more) again = again more.1
none_met_the_end takes initial ts rs met suffice = absurd met

-- ---- small facts

-- a phase of an even number is a joined one
pub even_joined : {number phase : ℕ} → number ≡ phase → number % 2 ≡ 0 → is_split phase ≡ false
even_joined {number} {phase} is even = ne_eqb (phase % 2) 1 (λ odd. let e : phase % 2 ≡ 0 = subst (λ n. n % 2 ≡ 0) is even in omega (arith, e, odd))

pub odd_split : {number phase : ℕ} → number ≡ phase → (number % 2 ≡ 0 → ⊥) → is_split phase ≡ true
odd_split {number} {phase} is odd = let no : phase % 2 ≡ 0 → ⊥ = subst (λ n. n % 2 ≡ 0 → ⊥) is odd in eq-eqb (phase % 2) 1 (omega (arith, no))

stocks_back : (stocks : List (Object × Option (Facts × ℕ))) → stocks_of (slices_of stocks []) ≡ stocks
stocks_back [] = refl
stocks_back (s ∷ ss) = ap (λ xs. s ∷ xs) (stocks_back ss)

objects_back : (stocks : List (Object × Option (Facts × ℕ))) → hot_objects (slices_of stocks []) ≡ hot_objects stocks
objects_back [] = refl
objects_back (s ∷ ss) = ap (λ xs. s.0 ∷ xs) (objects_back ss)

within : (q len f first : ℕ) → first ≡ f → min q (len - f) ≤ len - first
within q len f first is = omega (arith, is)

-- nothing is given of no script
given_none : (policy : Policy) (phase : ℕ) → calls_given policy phase [] ≡ []
given_none policy phase =
    ap (take (quota policy.joined_quota policy.split_quota phase 0)) (drop-nil (first_index policy phase))
    ∙ take-nil (quota policy.joined_quota policy.split_quota phase 0)

-- ---- what a phase takes of a stash

-- it is all that waits, where nothing waits that is not taken
all_are_taken : (takes : Bool) (permit : WorkerState) (waiting : List (ℕ × Request)) → stashed permit ≡ waiting → (takes ≡ false → waiting ≡ []) → taken takes permit ≡ waiting
all_are_taken true permit waiting is none = is
all_are_taken false permit waiting is none = sym (none refl)

none_kept : (takes : Bool) (permit : WorkerState) (waiting : List (ℕ × Request)) → stashed permit ≡ waiting → (takes ≡ false → waiting ≡ []) → still_waiting takes permit ≡ []
none_kept true permit waiting is none = refl
none_kept false permit waiting is none = is ∙ none refl

pub empty_at : (quotas : List ℕ) (w : ℕ) → (stash_at (map empty_stash quotas) w).requests ≡ []
empty_at (q ∷ qs) (suc w) = empty_at qs w
empty_at quotas w = refl

-- of the workers of a phase, by number
of_workers : (phase n : ℕ) (permits : List WorkerState) → ((w : ℕ) → w < length permits → IsPermitOf phase (n + w) (receipt_at permits w)) → ArePermitsOf phase n permits
of_workers phase n [] each = tt
of_workers phase n (p ∷ ps) each =
    let first : n + 0 ≡ n = omega arith in (
      subst (λ m. IsPermitOf phase m p) first (each 0 (omega arith)),
      of_workers phase (suc n) ps (λ w less. let next : n + suc w ≡ suc n + w = omega arith in
          subst (λ m. IsPermitOf phase m (receipt_at ps w)) next (each (suc w) (omega (arith, less)))),
    )

-- the workers can do their tasks with the boxes that the floor shows
pub can_with : {takes : Bool} {initial : List ShardState} {floor : FloorState} {permits : List WorkerState} {scripts : List (List Request)} {phase first : ℕ} →
    CanPerform takes initial floor permits scripts phase first → {boxes : List BoxId} → boxes ≡ floor.boxes → HaveOpening initial floor.opening →
    AllByRecursion (CanBeDone initial boxes) (tasks permits scripts first)
can_with {initial = initial} {permits = permits} {scripts = scripts} {first = first} ready same have =
    subst (λ boxes. AllByRecursion (CanBeDone initial boxes) (tasks permits scripts first)) (sym same) (ready.can have)

module _ {policy : Policy} {scripts : List (List Request)} {state : JoinedState} {stashes : List StashState} {hot : List Object} {first : ℕ}
    (first_is : first ≡ first_index policy state.phase) (may : MayPerform policy scripts state stashes hot)
    {floor : FloorState} {permits : List WorkerState} (begun : HasBegunPhase policy scripts state stashes hot floor permits) where
  workers_are : length floor.counters ≡ length scripts
  workers_are = ap length begun.counters_are ∙ sym may.scripts_are

  as_many : length permits ≡ length scripts
  as_many = begun.new.0 ∙ workers_are

  begins : (w : ℕ) → w < length scripts → IsNewPermit floor w (slice_index begun.quotas w) (stash_at begun.handed w) (receipt_at permits w)
  begins w less = begun.new.1 w no_receipt (omega (arith, less, workers_are))

  left_is : (w : ℕ) → w < length scripts → (receipt_at permits w).left ≡ quota_of policy state.phase (script_of scripts w)
  left_is w less = ap (λ (p : WorkerState). p.left) (begins w less).new ∙ begun.quotas_are w less

  stash_is : (w : ℕ) → w < length scripts → stashed (receipt_at permits w) ≡ waiting_in stashes w
  stash_is w less = ap (λ (p : WorkerState). stashed p) (begins w less).new ∙ begun.handed_are w

  none_committed : (w : ℕ) → w < length scripts → committed (receipt_at permits w) ≡ []
  none_committed w less = ap (λ (p : WorkerState). committed p) (begins w less).new

  calls_given_are : (w : ℕ) → w < length scripts → calls_for (task (receipt_at permits w) (script_of scripts w) first) ≡ calls_given policy state.phase (script_of scripts w)
  calls_given_are w less =
      ap (λ n. take n (drop first (numbered 0 (script_of scripts w)))) (left_is w less)
      ∙ ap (λ n. take (quota_of policy state.phase (script_of scripts w)) (drop n (numbered 0 (script_of scripts w)))) first_is

  -- each worker can do its task
  can_all : (initial : List ShardState) → HaveOpening initial floor.opening → AllByRecursion (CanBeDone initial floor.boxes) (tasks permits scripts first)
  can_all initial have = tasks_all (CanBeDone initial floor.boxes) permits scripts first as_many (λ w below.
      let less : w < length scripts = omega (arith, below, as_many) in let left = left_is w less in
      let waits : length (stashed (receipt_at permits w)) ≡ length (waiting_in stashes w) = ap length (stash_is w less) in
      let tries : (receipt_at permits w).tries ≡ 0 = ap (λ (p : WorkerState). p.tries) (begins w less).new in
      let fits = within (cond (is_split state.phase) policy.split_quota policy.joined_quota) (length (script_of scripts w)) (first_index policy state.phase) first first_is in record {
        boxes_are = (begins w less).key.boxes_are;
        opening_is = subst (HaveOpening initial) (sym (ap (λ (p : WorkerState). p.opening) (begins w less).new)) have;
        short = may.short w;
        given = subst (λ n. n ≤ length (script_of scripts w) - first) (sym left) fits;
        tries = omega (arith, left, waits, tries, fits, may.short w, may.waits w);
      })

  -- the permits are those of the workers of a phase that has this number
  own_permits : {phase : ℕ} → phase ≡ state.phase → ArePermitsOf phase 0 permits
  own_permits {phase} now = of_workers phase 0 permits (λ w below.
      let less : w < length scripts = omega (arith, below, as_many) in record {
        phase_is = ap (λ (p : WorkerState). p.journal.phase) (begins w less).new ∙ begun.phase_is ∙ sym now;
        worker_is = (begins w less).key.worker_is ∙ (let e : w ≡ 0 + w = omega arith in e);
      })

  module _ (receipts : List WorkerState) (count : length receipts ≡ length permits)
      (same : (w : ℕ) → w < length scripts → IsSamePermit (receipt_at permits w) (receipt_at receipts w)) where
    journal_phase : (w : ℕ) → w < length scripts → (receipt_at receipts w).journal.phase ≡ floor.phase
    journal_phase w less = (same w less).phase ∙ ap (λ (p : WorkerState). p.journal.phase) (begins w less).new

    -- the receipts are those of the phase
    are_receipts : AreReceiptsOf floor receipts
    are_receipts = (
      count ∙ begun.new.0,
      λ w below.
          let less : w < length scripts = omega (arith, below, workers_are) in record {
            boxes_are = (same w less).boxes ∙ (begins w less).key.boxes_are;
            worker_is = (same w less).worker ∙ (begins w less).key.worker_is;
            opening_is = (same w less).opening ∙ ap (λ (p : WorkerState). p.opening) (begins w less).new;
            phase_is = journal_phase w less;
            stocks_are = (same w less).stocks ∙ ap (λ (p : WorkerState). stocks_of p.slices) (begins w less).new ∙ stocks_back floor.stocks;
            begun = (same w less).begun ∙ ap (λ (p : WorkerState). p.begun) (begins w less).new;
          },
    )

    past : (w : ℕ) → length scripts ≤ w → receipt_at receipts w ≡ no_receipt
    past w beyond = get_or_past receipts w no_receipt (omega (arith, beyond, count, as_many))

    module _ (entries : List Entry) (parts : (w : ℕ) → part entry_worker w entries ≡ (journal_of (receipt_at receipts w)).entries) where
      calls_are : (w : ℕ) → calls_of w entries ≡ committed (receipt_at receipts w)
      calls_are w = ap (map call_of) (parts w)

      own_at : (w : ℕ) → AllByRecursion (λ (e : Entry). e.phase ≡ state.phase) (journal_of (receipt_at receipts w)).entries
      own_at w = at (cases_lt w (length scripts)) where
        at : (w < length scripts) ⊎ (length scripts ≤ w) → AllByRecursion (λ (e : Entry). e.phase ≡ state.phase) (journal_of (receipt_at receipts w)).entries
        at (inl less) =
            let before : AreOfPhase (receipt_at permits w) = subst AreOfPhase (sym (begins w less).new) tt in
            subst (λ n. AllByRecursion (λ (e : Entry). e.phase ≡ n) (journal_of (receipt_at receipts w)).entries) (journal_phase w less ∙ begun.phase_is) ((same w less).own before)
        at (inr beyond) = subst (λ (p : WorkerState). AllByRecursion (λ (e : Entry). e.phase ≡ state.phase) (journal_of p).entries) (sym (past w beyond)) tt

      of_phase : AllByRecursion (λ (e : Entry). e.phase ≡ state.phase) entries
      of_phase = all_of_parts entry_worker (λ e. e.phase ≡ state.phase) entries (λ w. subst (AllByRecursion (λ (e : Entry). e.phase ≡ state.phase)) (sym (parts w)) (own_at w))

      commits_are : (after : ℕ → ℕ) → ((w : ℕ) → w < length receipts → after w ≡ (counters_at floor.counters w).commits + length (journal_of (receipt_at receipts w)).entries) →
          (w : ℕ) → w < length state.counters → after w ≡ (counters_at state.counters w).commits + length (calls_of w entries)
      commits_are after told w less =
          let entries_count : length (calls_of w entries) ≡ length (journal_of (receipt_at receipts w)).entries =
          ap length (calls_are w) ∙ length-map (journal_of (receipt_at receipts w)).entries call_of in
          told w (omega (arith, less, count, as_many, may.scripts_are))
          ∙ ap (λ cs. (counters_at cs w).commits + length (journal_of (receipt_at receipts w)).entries) begun.counters_are
          ∙ ap (λ n. (counters_at state.counters w).commits + n) (sym entries_count)

      -- what waits after the phase is what the receipts have left
      waits_after : (w : ℕ) → waiting_in (map stash_of receipts) w ≡ stashed (receipt_at receipts w)
      waits_after w = ap (λ (s : StashState). s.requests) (get_or-map stash_of receipts w no_receipt)

      module _ (takes : Bool) (none : (w : ℕ) → takes ≡ false → waiting_in stashes w ≡ [])
          (done : (w : ℕ) → w < length scripts → HasDoneTask takes (task (receipt_at permits w) (script_of scripts w) first) (receipt_at receipts w)) where
        -- what waited and what is given
        abbrev asked : ℕ → List (ℕ × Request)
        asked w = waiting_in stashes w ++ calls_given policy state.phase (script_of scripts w)

        hot_is : (w : ℕ) → w < length scripts → hot_for (receipt_at permits w) ≡ hot
        hot_is w less = ap (λ (p : WorkerState). hot_for p) (begins w less).new ∙ objects_back floor.stocks ∙ begun.hot_are

        asked_is : (w : ℕ) → w < length scripts → to_do takes (task (receipt_at permits w) (script_of scripts w) first) ≡ asked w
        asked_is w less =
            ap (λ ss. ss ++ calls_for (task (receipt_at permits w) (script_of scripts w) first)) (all_are_taken takes (receipt_at permits w) (waiting_in stashes w) (stash_is w less) (none w))
            ∙ ap (λ cs. waiting_in stashes w ++ cs) (calls_given_are w less)

        none_asked : (w : ℕ) → length scripts ≤ w → asked w ≡ []
        none_asked w beyond =
            ap (λ ss. ss ++ calls_given policy state.phase (script_of scripts w)) (past_stashes stashes w (omega (arith, beyond, may.stashes_are, may.scripts_are)))
            ∙ ap (calls_given policy state.phase) (past_end scripts w beyond) ∙ given_none policy state.phase

        calls_done : (w : ℕ) → calls_of w entries ≡ not_put_off hot (asked w)
        calls_done w = at (cases_lt w (length scripts)) where
          at : (w < length scripts) ⊎ (length scripts ≤ w) → calls_of w entries ≡ not_put_off hot (asked w)
          at (inl less) =
              let permit : WorkerState = receipt_at permits w in
              let given : List (ℕ × Request) = to_do takes (task permit (script_of scripts w) first) in
              calls_are w ∙ (done w less).calls
              ∙ ap (λ cs. cs ++ not_put_off (hot_for permit) given) (none_committed w less)
              ∙ ap (λ h. not_put_off h given) (hot_is w less)
              ∙ ap (not_put_off hot) (asked_is w less)
          at (inr beyond) = calls_are w ∙ ap (λ (p : WorkerState). committed p) (past w beyond) ∙ sym (ap (not_put_off hot) (none_asked w beyond))

        stash_left : (w : ℕ) → waiting_in (map stash_of receipts) w ≡ put_off hot (asked w)
        stash_left w = at (cases_lt w (length scripts)) where
          at : (w < length scripts) ⊎ (length scripts ≤ w) → waiting_in (map stash_of receipts) w ≡ put_off hot (asked w)
          at (inl less) =
              let permit : WorkerState = receipt_at permits w in
              waits_after w ∙ (done w less).stash
              ∙ ap (λ ss. ss ++ put_off (hot_for permit) (to_do takes (task permit (script_of scripts w) first))) (none_kept takes permit (waiting_in stashes w) (stash_is w less) (none w))
              ∙ ap (λ h. put_off h (to_do takes (task permit (script_of scripts w) first))) (hot_is w less)
              ∙ ap (put_off hot) (asked_is w less)
          at (inr beyond) = waits_after w ∙ ap (λ (p : WorkerState). stashed p) (past w beyond) ∙ sym (ap (put_off hot) (none_asked w beyond))

        performed : IsPhasePerformed policy scripts state.phase hot (waiting_in stashes) (waiting_in (map stash_of receipts)) entries
        performed = record {
          phases = of_phase;
          joined_calls = λ joined w. calls_done w ∙ ap (λ h. not_put_off h (asked w)) (may.joined joined) ∙ cold_kept (asked w);
          joined_stash = λ joined w. stash_left w ∙ ap (λ h. put_off h (asked w)) (may.joined joined) ∙ cold_off (asked w);
          split_calls = λ split w. calls_done w ∙ ap (λ ss. not_put_off hot (ss ++ calls_given policy state.phase (script_of scripts w))) (may.split split w);
          split_stash = λ split w. stash_left w ∙ ap (λ ss. put_off hot (ss ++ calls_given policy state.phase (script_of scripts w))) (may.split split w);
        }

  module _ (takes : Bool) (receipts : List WorkerState) (all : AllZip (HasDoneTask takes) (tasks permits scripts first) receipts) where
    count : length receipts ≡ length permits
    count = done_count (HasDoneTask takes) permits receipts scripts first as_many all

    done : (w : ℕ) → w < length scripts → HasDoneTask takes (task (receipt_at permits w) (script_of scripts w) first) (receipt_at receipts w)
    done w less = done_at (HasDoneTask takes) permits receipts scripts first as_many all w (omega (arith, less, as_many))

    same : (w : ℕ) → w < length scripts → IsSamePermit (receipt_at permits w) (receipt_at receipts w)
    same w less = (done w less).same

    -- all that a run knows of the phase, once it is closed
    closed_phase : {initial : List ShardState} → states_of state ≡ initial → is_split state.phase ≡ not takes → {entries : List Entry} {next : JoinedState} {kept : List StashState} →
        Leaves initial floor receipts entries next kept → HasClosedPhase policy scripts state stashes hot entries next kept
    closed_phase {initial} named split {entries} {next} {kept} left =
        let law = left.lawful.lawful in
        let shards : length initial ≡ policy.shards = sym (ap length named) ∙ length-map state.shards state_of ∙ may.shards_are in record {
          performed = subst (λ ss. IsPhasePerformed policy scripts state.phase hot (waiting_in stashes) (waiting_in ss) entries) (sym left.stashes_are)
              (performed receipts count same entries law.parts takes (λ w no. may.split (split ∙ ap not no) w) done);
          numbered = subst (λ h. IsNumbered state.opening policy.shards h entries) begun.hot_are
              (subst (λ n. IsNumbered state.opening n (hot_objects floor.stocks) entries) shards
              (subst (λ o. IsNumbered o (length initial) (hot_objects floor.stocks) entries) begun.opening_is law.numbers));
          replays = λ book is here.
              let stood : StandFor initial floor.counters book [] =
              subst (λ cs. StandFor initial cs book []) (sym begun.counters_are) (subst (λ ss. StandFor ss state.counters book []) named here) in (
                subst (λ o. ReplaysFrom o book entries) begun.opening_is (left.replays book stood),
                subst (λ o. StandsFor next (book_after o book entries)) begun.opening_is (left.stands book stood),
              );
          phase_is = let one_more : floor.phase + 1 ≡ suc floor.phase = omega arith in left.phase_is ∙ one_more ∙ ap suc begun.phase_is;
          opening_is = left.opening_is ∙ begun.opening_is;
          limit_is = left.limit_is ∙ begun.limit_is;
          shards_are = sym (length-map next.shards state_of) ∙ law.left ∙ sym (ap length named) ∙ length-map state.shards state_of;
          workers_are = ap length left.counters_are ∙ length-map receipts counters_of ∙ count ∙ begun.new.0 ∙ ap length begun.counters_are;
          stashes_are = ap length left.stashes_are ∙ length-map receipts stash_of ∙ count ∙ begun.new.0 ∙ ap length begun.counters_are;
          commits = commits_are receipts count same entries law.parts (λ w. (counters_at next.counters w).commits) left.commits;
        }

  -- the entries of those who have done their tasks are of the scripts
  own_asked : (takes : Bool) (receipts : List WorkerState) → AllZip (HasDoneTask takes) (tasks permits scripts first) receipts → AreOfScripts scripts receipts
  own_asked takes receipts all = all_journals (IsJournalOf scripts) receipts (λ w below.
      let less : w < length scripts = omega (arith, below, done_count (HasDoneTask takes) permits receipts scripts first as_many all, as_many) in
      let done = done_at (HasDoneTask takes) permits receipts scripts first as_many all w (omega (arith, less, as_many)) in
      let writer : (receipt_at receipts w).journal.worker ≡ w = done.same.writer ∙ ap (λ (p : WorkerState). p.journal.worker) (begins w less).new in
      let waits = subst (AllByRecursion (IsCallOf (script_of scripts w))) (sym (stash_is w less)) (may.asked w) in
      subst (λ n. AllByRecursion (IsOfScript (script_of scripts n)) (journal_of (receipt_at receipts w)).entries) (sym writer)
      (done_asked takes (receipt_at permits w) (receipt_at receipts w) (script_of scripts w) first done (none_committed w less) waits))

  -- the workers can perform their parts, in a round that has the phase's number
  pub can_perform : {initial : List ShardState} {phase : ℕ} → phase ≡ state.phase → (takes : Bool) → CanPerform takes initial floor permits scripts phase first
  can_perform {initial} now takes = record {
    permits_are = as_many;
    counters_are = workers_are;
    of = own_permits now;
    can = can_all initial;
    receipts_are = λ receipts all.
        are_receipts receipts (done_count IsReceiptFor permits receipts scripts first as_many all) (λ w less. done_at IsReceiptFor permits receipts scripts first as_many all w (omega (arith, less, as_many)));
    asked = own_asked takes;
  }

  -- all that a run knows of the phase, once it has ended
  pub ended_phase : {initial : List ShardState} → states_of state ≡ initial → (takes : Bool) → is_split state.phase ≡ not takes → {entries : List Entry} {next : JoinedState} {kept : List StashState} →
      HasEnded takes initial floor (tasks permits scripts first) entries next kept → HasClosedPhase policy scripts state stashes hot entries next kept
  ended_phase named takes split ended = closed_phase takes ended.receipts ended.done named split ended.leaves
