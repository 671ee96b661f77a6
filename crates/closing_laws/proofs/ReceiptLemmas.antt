-- What the receipts of a phase tell of each worker, and nothing of others.
use Rattle.std.proofs.Common.{◌≡◌, ℕ, zero, suc, ◌+◌, ◌<◌, ◌≤◌, ◌==◌, ◌⊎◌, inl, inr, fold, List, [], ◌∷◌, map, length, refl, sym, ap, subst, ◌∙◌, arith, eq-eqb}
use Rattle.std.proofs.Math.ListN.{get_or-map}
use Rattle.std.proofs.lemmas.{Bool.{cond-true, cond-false, ne_eqb, cases_lt}, List.{get_or_past}}
use Rattle.std.specs.List.{AllByRecursion}
use Rattle.phase_laws.specs.{Numbers.{IsNumberedFrom}, Replay.{SawInTurn}}
use Rattle.auction_rows.specs.History.{rows_of}
use Rattle.worker_journals.specs.Merged.{entries_of}
use Rattle.shard_boxes.specs.Keys.{key_at, lines_at}
use Rattle.worker_slices.specs.{Slicing.{slices_of}, declared.counters.Counters.{Counters}}
use Rattle.phase_transactions.specs.Txns.{Setting, Txn, entry_of, txn_number, greatest_clock, lines_owed, IsAnswered, after_txn}
use Rattle.phase_transactions.specs.{Workers.{WorkerState, work_of}, Works.{Explains, IsWorkOf}}
use Rattle.closing_laws.specs.Phases.{Phase, HasClosed, IsReceiptOf, no_receipt, receipt_at, key_of, journal_of, counters_of}
use Rattle.closing_laws.specs.Standing.{counters_at}

-- a receipt is explained, in the setting and of the worker of the phase
explained_of : (z : Setting) (w : ℕ) (opened : Counters) (receipt : WorkerState) → IsReceiptOf z w opened receipt → IsWorkOf z w (work_of receipt)
explained_of z w opened receipt is =
    subst (λ v. IsWorkOf z v (work_of receipt)) is.worker_is
    (subst (λ (y : Setting). IsWorkOf y receipt.key.worker (work_of receipt)) is.setting is.explained.work)

-- of journals of workers in order from this one on, the entries of a worker are those of its own
entries_from : (k : ℕ) (receipts : List WorkerState) → ((i : ℕ) → i < length receipts → (journal_of (receipt_at receipts i)).worker ≡ k + i)
    → (w : ℕ) → entries_of (k + w) (map journal_of receipts) ≡ (journal_of (receipt_at receipts w)).entries
entries_from k [] are w = refl
entries_from k (receipt ∷ receipts) are zero =
    cond-true ((journal_of receipt).worker == (k + 0)) _ _ (eq-eqb _ _ (are 0 (omega arith)))
entries_from k (receipt ∷ receipts) are (suc w) =
    let first : (journal_of receipt).worker ≡ k + 0 = are 0 (omega arith) in
    cond-false ((journal_of receipt).worker == (k + suc w)) _ _ (ne_eqb _ _ (λ same. omega (arith, first, same)))
    ∙ ap (λ v. entries_of v (map journal_of receipts)) {x = k + suc w} {y = suc k + w} (omega arith)
    ∙ entries_from (suc k) receipts (λ i less. are (suc i) (omega (arith, less)) ∙ omega arith) w

module _ (p : Phase) (closed : HasClosed p) where
  abbrev workers : ℕ
  workers = length p.receipts

  abbrev pub receipt : ℕ → WorkerState
  receipt w = receipt_at p.receipts w

  work : (w : ℕ) → w < workers → IsWorkOf p.setting w (work_of (receipt w))
  work w known = explained_of p.setting w (counters_at p.counters w) (receipt w) (closed.receipts w known)

  txns_if : (w : ℕ) → (w < workers) ⊎ (workers ≤ w) → List Txn
  txns_if w (inl known) = (work w known).txns
  txns_if w (inr past) = []

  -- the transactions that explain a worker's receipt, and none where there is no such worker
  pub txns_by : ℕ → List Txn
  txns_by w = txns_if w (cases_lt w workers)

  pub explains : (w : ℕ) → w < workers → Explains p.setting w (work_of (receipt w)) (txns_by w)
  unfolding txns_by txns_if work
  explains w known = at (cases_lt w workers) where
    at : (either : (w < workers) ⊎ (workers ≤ w)) → Explains p.setting w (work_of (receipt w)) (txns_if w either)
    at (inl there) = (work w there).explained
    at (inr past) = absurd (omega (arith, known, past))

  none_past : (w : ℕ) → workers ≤ w → receipt w ≡ no_receipt
  none_past w past = get_or_past p.receipts w no_receipt past

  pub no_txns : (w : ℕ) → workers ≤ w → txns_by w ≡ []
  unfolding txns_by txns_if
  no_txns w past = at (cases_lt w workers) where
    at : (either : (w < workers) ⊎ (workers ≤ w)) → txns_if w either ≡ []
    at (inl known) = absurd (omega (arith, known, past))
    at (inr none) = refl

  -- what holds of each worker's transactions, since it holds where there are none
  each_worker : (P : ℕ → List Txn → Type 0) → ((w : ℕ) → P w []) → ((w : ℕ) → w < workers → P w (txns_by w)) → (w : ℕ) → P w (txns_by w)
  each_worker P none own w = at (cases_lt w workers) where
    at : (w < workers) ⊎ (workers ≤ w) → P w (txns_by w)
    at (inl known) = own w known
    at (inr past) = subst (P w) (sym (no_txns w past)) (none w)

  pub own : (w : ℕ) → AllByRecursion (λ txn. (entry_of txn).worker ≡ w) (txns_by w)
  own = each_worker (λ w txns. AllByRecursion (λ txn. (entry_of txn).worker ≡ w) txns) (λ w. tt) (λ w known. (explains w known).own)

  pub numbered : (w : ℕ) → IsNumberedFrom txn_number (greatest_clock p.setting) 0 (txns_by w)
  numbered = each_worker (λ w txns. IsNumberedFrom txn_number (greatest_clock p.setting) 0 txns) (λ w. tt)
      (λ w known. subst (λ n. IsNumberedFrom txn_number (greatest_clock p.setting) n (txns_by w)) (ap (λ (b : Counters × ℕ). b.1) (closed.receipts w known).begun) (explains w known).numbered)

  pub answered : (w : ℕ) → w < workers → SawInTurn (IsAnswered p.setting) after_txn (counters_at p.counters w) (txns_by w)
  answered w known = subst (λ (c : Counters). SawInTurn (IsAnswered p.setting) after_txn c (txns_by w)) (ap (λ (b : Counters × ℕ). b.0) (closed.receipts w known).begun) (explains w known).answered

  pub counts : (w : ℕ) → w < workers → counters_of (receipt w) ≡ fold after_txn (counters_at p.counters w) (txns_by w)
  counts w known = (explains w known).counts ∙ ap (λ (b : Counters × ℕ). fold after_txn b.0 (txns_by w)) (closed.receipts w known).begun

  journal_worker : (i : ℕ) → i < workers → (journal_of (receipt i)).worker ≡ 0 + i
  journal_worker i known = (closed.receipts i known).explained.worker ∙ (closed.receipts i known).worker_is ∙ omega arith

  -- a worker's journal, and its part in the entries, are the entries of its transactions
  pub journal_entries : (w : ℕ) → (journal_of (receipt w)).entries ≡ map entry_of (txns_by w)
  journal_entries w = at (cases_lt w workers) where
    at : (w < workers) ⊎ (workers ≤ w) → (journal_of (receipt w)).entries ≡ map entry_of (txns_by w)
    at (inl known) = (explains w known).entries
    at (inr past) = ap (λ (r : WorkerState). (journal_of r).entries) (none_past w past) ∙ sym (ap (map entry_of) (no_txns w past))

  pub entries_are : (w : ℕ) → entries_of w (map journal_of p.receipts) ≡ map entry_of (txns_by w)
  entries_are w =
      ap (λ v. entries_of v (map journal_of p.receipts)) {x = w} {y = 0 + w} (omega arith) ∙ entries_from 0 p.receipts journal_worker w ∙ journal_entries w

  -- the lines of each worker's key are those that its transactions owe
  pub lines_are : (w : ℕ) → w < workers → (s : ℕ) → lines_at (key_at (map key_of p.receipts) w) s ≡ lines_owed p.setting s (txns_by w)
  lines_are w known s = ap (λ key. lines_at key s) (get_or-map key_of p.receipts w no_receipt) ∙ (explains w known).lines s

  -- a worker's slices are those of the rows of its journal
  pub sliced : (w : ℕ) → w < workers → (receipt w).slices ≡ slices_of p.setting.stocks (rows_of (journal_of (receipt w)).entries)
  sliced w known = (explains w known).sliced

  pub counters_are : (w : ℕ) → counters_at (map counters_of p.receipts) w ≡ counters_of (receipt w)
  counters_are w = get_or-map counters_of p.receipts w no_receipt
