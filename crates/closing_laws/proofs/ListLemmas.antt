-- The shards' lists hold the lines of the entries, and the entries' numbers follow what they share.
use Rattle.std.proofs.Common.{◌≡◌, ℕ, ◌<◌, ◌≤◌, ◌==◌, ◌||◌, ◌⊎◌, inl, inr, Bool, true, false, cond, List, [], ◌∷◌, map, filter, length, refl, sym, ap, subst, ◌∙◌, arith, eq-eqb}
use Rattle.std.proofs.Math.Nat.{mod-lt}
use Rattle.std.proofs.lemmas.Bool.{eqb-true, or_left, or_right, cases_lt, false≢true}
use Rattle.std.specs.List.{list_any, AllByRecursion}
use Rattle.phase_laws.proofs.NumberLemmas.{follows, linked_from_map, follows_map}
use Rattle.phase_laws.proofs.OrderLemmas.{ordered_from_map, lines_in_order, lifted}
use Rattle.phase_laws.specs.Numbers.{IsLinkedFrom, IsNumberedFrom, shares}
use Rattle.phase_laws.specs.Order.{Precedes, IsAscending, Lifted, part}
use Rattle.auction_rows.specs.Footprint.{footprint, objects_taken, takes_shard}
use Rattle.auction_rows.specs.declared.requests.Object.{Object}
use Rattle.auction_rows.specs.Requests.{number_of as object_number, shard_of}
use Rattle.worker_journals.specs.Journals.{entry_number, entry_worker}
use Rattle.shard_boxes.specs.{Closed.{IsClosedBox}, Lines.{Line, lines_of}, States.{state_at}}
use Rattle.phase_transactions.specs.Txns.{Setting, Txn, hot_of, entry_of, txn_number, clock_found, greatest_clock, takes, line_on, lines_owed}
use Rattle.phase_transactions.specs.{Workers.{work_of}, Works.{Explains}}
use Rattle.closing_laws.proofs.ReceiptLemmas.{txns_by, explains, no_txns, own, numbered, entries_are, lines_are}
use Rattle.closing_laws.specs.Histories.{worker_line, HoldTheEntries, FollowWhatTheyShare}
use Rattle.closing_laws.specs.Phases.{Phase, HasClosed, key_of, receipt_at}

-- A shard that a transaction takes is one of the shards.

known_if : (b c : Bool) (s shards : ℕ) → (b ≡ true → s < shards) → (c ≡ true → s < shards) → (b || c) ≡ true → s < shards
known_if true c s shards first rest is = first refl
known_if false c s shards first rest is = rest is

taken_known : (shards : ℕ) → 0 < shards → (s : ℕ) (objects : List Object) → list_any (λ taken. taken == s) (map (λ object. shard_of object shards) objects) ≡ true → s < shards
taken_known shards some s [] is = absurd (false≢true is)
taken_known shards some s (object ∷ objects) is =
    known_if (shard_of object shards == s) _ s shards
    (λ here. subst (λ t. t < shards) (eqb-true (shard_of object shards) s here) (mod-lt (object_number object) some))
    (taken_known shards some s objects) is

pub takes_known : (z : Setting) → 0 < z.shards → (s : ℕ) (txn : Txn) → takes z s txn ≡ true → s < z.shards
takes_known z some s txn is = taken_known z.shards some s (objects_taken z.opening (hot_of z) txn.0) is

none_taken : (z : Setting) → 0 < z.shards → (s : ℕ) → z.shards ≤ s → (txns : List Txn) → filter (takes z s) txns ≡ []
none_taken z some s past [] = refl
none_taken z some s past (txn ∷ txns) = at (takes z s txn) refl (none_taken z some s past txns) where
  at : (b : Bool) → takes z s txn ≡ b → filter (takes z s) txns ≡ [] → cond b (txn ∷ filter (takes z s) txns) (filter (takes z s) txns) ≡ []
  at true is none = absurd (omega (arith, past, takes_known z some s txn is))
  at false is none = none

-- A list's part of one worker is the lines of the worker.

own_pairs : (w : ℕ) (lines : List (ℕ × Line)) → part (λ entry. entry.0) w lines ≡ map (λ line. (w, line)) (lines_of w lines)
own_pairs w [] = refl
own_pairs w (entry ∷ lines) = at (entry.0 == w) refl (own_pairs w lines) where
  at : (b : Bool) → (entry.0 == w) ≡ b → part (λ e. e.0) w lines ≡ map (λ line. (w, line)) (lines_of w lines)
      → cond b (entry ∷ part (λ e. e.0) w lines) (part (λ e. e.0) w lines) ≡ map (λ line. (w, line)) (map (λ e. e.1) (cond b (entry ∷ part (λ e. e.0) w lines) (part (λ e. e.0) w lines)))
  at true is rest = λ i. (eqb-true entry.0 w is i, entry.1) ∷ rest i
  at false is rest = rest

no_pairs : (workers w : ℕ) → workers ≤ w → (lines : List (ℕ × Line)) → AllByRecursion (λ entry. entry.0 < workers) lines → part (λ entry. entry.0) w lines ≡ []
no_pairs workers w past [] below = refl
no_pairs workers w past (entry ∷ lines) below = at (entry.0 == w) refl (no_pairs workers w past lines below.1) where
  at : (b : Bool) → (entry.0 == w) ≡ b → part (λ e. e.0) w lines ≡ [] → cond b (entry ∷ part (λ e. e.0) w lines) (part (λ e. e.0) w lines) ≡ []
  at true is none = absurd (omega (arith, past, below.0, eqb-true entry.0 w is))
  at false is none = none

-- with its worker, the lines that a worker's transactions owe
own_lines : (z : Setting) (s w : ℕ) (txns : List Txn) → AllByRecursion (λ txn. (entry_of txn).worker ≡ w) txns
    → map (λ line. (w, line)) (lines_owed z s txns) ≡ map (worker_line z s) (filter (takes z s) txns)
own_lines z s w [] are = refl
own_lines z s w (txn ∷ txns) are = at (takes z s txn) (own_lines z s w txns are.1) where
  at : (b : Bool) → map (λ line. (w, line)) (lines_owed z s txns) ≡ map (worker_line z s) (filter (takes z s) txns)
      → map (λ line. (w, line)) (map (line_on z s) (cond b (txn ∷ filter (takes z s) txns) (filter (takes z s) txns)))
      ≡ map (worker_line z s) (cond b (txn ∷ filter (takes z s) txns) (filter (takes z s) txns))
  at true rest = λ i. (sym are.0 i, line_on z s txn) ∷ rest i
  at false rest = rest

-- A transaction takes each shard of its footprint.

more_shards : (t : ℕ) (all shards : List ℕ) → AllByRecursion (λ s. list_any (λ taken. taken == s) all ≡ true) shards → AllByRecursion (λ s. list_any (λ taken. taken == s) (t ∷ all) ≡ true) shards
more_shards t all [] each = tt
more_shards t all (s ∷ shards) each = (or_right (t == s) _ each.0, more_shards t all shards each.1)

each_taken : (shards : List ℕ) → AllByRecursion (λ s. list_any (λ taken. taken == s) shards ≡ true) shards
each_taken [] = tt
each_taken (s ∷ shards) = (or_left (s == s) _ (eq-eqb s s refl), more_shards s shards shards (each_taken shards))

module _ (p : Phase) (closed : HasClosed p) where
  abbrev z : Setting
  z = p.setting

  some : 0 < z.shards
  some = subst (λ n. 0 < n) (sym closed.begun.shards) closed.begun.some

  -- the transactions of the entries
  pub lift : Lifted entry_of entry_worker p.entries (txns_by p closed)
  lift = lifted entry_of entry_worker p.entries (txns_by p closed) (λ w. closed.merged.parts w ∙ entries_are p closed w)

  abbrev pub all_txns : List Txn
  all_txns = lift.all

  pub ascending : IsAscending txn_number (λ txn. (entry_of txn).worker) all_txns
  ascending = ordered_from_map entry_of (Precedes entry_number entry_worker) all_txns
      (subst (IsAscending entry_number entry_worker) (sym lift.entries_are) closed.merged.ascending)

  module _ (s : ℕ) (known : s < length p.initial) where
    abbrev pub box : IsClosedBox p.initial (length p.receipts) (map key_of p.receipts) s (state_at p.given s)
    box = closed.boxes.1 s known

    -- the list's part of each worker is the lines of its transactions
    list_part : (w : ℕ) → part (λ entry. entry.0) w box.lines ≡ map (worker_line z s) (filter (takes z s) (part (λ txn. (entry_of txn).worker) w all_txns))
    list_part w = at (cases_lt w (length p.receipts)) ∙ ap (λ txns. map (worker_line z s) (filter (takes z s) txns)) (sym (lift.parts w)) where
      at : (w < length p.receipts) ⊎ (length p.receipts ≤ w) → part (λ entry. entry.0) w box.lines ≡ map (worker_line z s) (filter (takes z s) (txns_by p closed w))
      at (inl there) =
          own_pairs w box.lines ∙ ap (map (λ line. (w, line))) (box.own w there ∙ lines_are p closed w there s)
          ∙ own_lines z s w (txns_by p closed w) (own p closed w)
      at (inr past) =
          no_pairs (length p.receipts) w past box.lines box.history.workers_are
          ∙ ap (λ txns. map (worker_line z s) (filter (takes z s) txns)) (sym (no_txns p closed w past))

    pub list_is : box.lines ≡ map (worker_line z s) (filter (takes z s) all_txns)
    list_is = lines_in_order (λ txn. (entry_of txn).worker) (λ entry. entry.0) (worker_line z s) (λ txn. refl) (takes z s)
        txn_number (λ entry. entry.1.number) (λ txn. refl) all_txns box.lines ascending box.history.ascending list_part

    list_linked : IsLinkedFrom txn_number (clock_found s) 0 (filter (takes z s) all_txns)
    list_linked = linked_from_map (worker_line z s) (λ entry. entry.1.number) (λ entry. entry.1.before) 0 (filter (takes z s) all_txns)
        (subst (IsLinkedFrom (λ (entry : ℕ × Line). entry.1.number) (λ (entry : ℕ × Line). entry.1.before) 0) list_is box.history.linked)

  -- where there is no shard, no transaction takes it
  pub nowhere : (s : ℕ) → length p.initial ≤ s → filter (takes z s) all_txns ≡ []
  nowhere s past = none_taken z some s (subst (λ n. n ≤ s) (sym closed.begun.shards) past) all_txns

  linked : (s : ℕ) → IsLinkedFrom txn_number (clock_found s) 0 (filter (takes z s) all_txns)
  linked s = at (cases_lt s (length p.initial)) where
    at : (s < length p.initial) ⊎ (length p.initial ≤ s) → IsLinkedFrom txn_number (clock_found s) 0 (filter (takes z s) all_txns)
    at (inl known) = list_linked s known
    at (inr past) = subst (IsLinkedFrom txn_number (clock_found s) 0) (sym (nowhere s past)) tt

  pub hold_the_entries : HoldTheEntries p closed
  hold_the_entries = record {
    txns = all_txns;
    entries = lift.entries_are;
    parts = λ w known. subst (Explains z w (work_of (receipt_at p.receipts w))) (sym (lift.parts w)) (explains p closed w known);
    others = λ w past. lift.parts w ∙ no_txns p closed w past;
    lists = λ s known. list_is s known;
  }

  pub follow_what_they_share : FollowWhatTheyShare z.opening z.shards (hot_of z) p.entries
  follow_what_they_share =
      subst (FollowWhatTheyShare z.opening z.shards (hot_of z)) lift.entries_are
      (follows_map entry_of entry_number (shares entry_worker (footprint z.opening z.shards (hot_of z)) (λ shard entry. takes_shard z.opening z.shards (hot_of z) entry shard)) all_txns
      (follows txn_number (λ txn. (entry_of txn).worker) (λ txn. footprint z.opening z.shards (hot_of z) (entry_of txn)) (takes z) clock_found all_txns ascending
      (λ w. subst (IsNumberedFrom txn_number (greatest_clock z) 0) (sym (lift.parts w)) (numbered p closed w))
      linked
      (λ txn. each_taken (footprint z.opening z.shards (hot_of z) (entry_of txn)))))
