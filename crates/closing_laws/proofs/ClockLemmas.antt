-- No clock is past the number of entries: each number is 1 + one before it, or 1. So no request meets
-- the end of numbers.
use Rattle.std.proofs.Common.{◌≡◌, ℕ, suc, le_trans, zero, ◌+◌, ◌*◌, ◌<◌, ◌≤◌, max, ◌==◌, ◌⊎◌, inl, inr, Bool, true, false, cond, List, [], ◌∷◌, ◌++◌, map, filter, length, refl, sym, ap, subst, ◌∙◌, arith, eq-eqb, append_assoc, append-nil}
use Rattle.std.proofs.{Math.{ListN.{get_or-map}, Nat.{mod-lt}}, lemmas.{Bool.{cases_lt, eqb-true}, List.{length-append}}}
use Rattle.std.specs.List.{AllByRecursion}
use Rattle.phase_laws.proofs.{ListLemmas.{all-any, greatest_least}, OrderLemmas.{all-map}}
use Rattle.phase_laws.specs.{Numbers.{FollowsWhatItShares, greatest_by, last_by}, Order.{part}}
use Rattle.auction_rows.specs.{Footprint.{objects_taken}, Requests.{number_of as object_number, shard_of}}
use Rattle.auction_rows.specs.declared.{limits.TheConstants.{MOST_WORKERS}, requests.Request.Request, rows.Entry.Entry}
use Rattle.item_shards.specs.CommitNumbers.{last_number}
use Rattle.worker_journals.specs.Journals.{entry_number, entry_worker}
use Rattle.shard_boxes.specs.Lines.{Line, after_lines, after_put, number_put}
use Rattle.shard_boxes.specs.States.{AreInitial, ShardState, state_at}
use Rattle.shard_boxes.specs.declared.limits.TheConstants.{MOST_COMMITS}
use Rattle.phase_transactions.specs.{Performing.{entry_asked, greatest_seen, shards_asked}, Putting.{clock_seen}}
use Rattle.phase_transactions.specs.{Txns.{Setting, Txn, entry_of, hot_of, takes, txn_number}, Workers.{setting_of}}
use Rattle.closing_laws.proofs.ListLemmas.{all_txns, box, follow_what_they_share, lift, list_is}
use Rattle.closing_laws.proofs.ReceiptLemmas.{entries_are, explains, txns_by}
use Rattle.closing_laws.proofs.WorkerLemmas.{entries_below, part_is}
use Rattle.closing_laws.specs.Histories.{worker_line}
use Rattle.closing_laws.specs.Phases.{HasClosed, Phase, journal_of, key_of, receipt_at}

module _ {D : Type 0} (number : D → ℕ) where
  -- what is kept has no greater number
  kept_less : (p : D → Bool) (xs : List D) → greatest_by number (filter p xs) ≤ greatest_by number xs
  kept_less p [] = omega arith
  kept_less p (x ∷ xs) = at (p x) (kept_less p xs) where
    at : (b : Bool) → greatest_by number (filter p xs) ≤ greatest_by number xs → greatest_by number (cond b (x ∷ filter p xs) (filter p xs)) ≤ max (number x) (greatest_by number xs)
    at true less = omega (arith, less)
    at false less = omega (arith, less)

  pushed : (xs : List D) (x : D) → greatest_by number (xs ++ x ∷ []) ≡ max (greatest_by number xs) (number x)
  pushed [] x = omega arith
  pushed (y ∷ xs) x = let again : greatest_by number (xs ++ x ∷ []) ≡ max (greatest_by number xs) (number x) = pushed xs x in omega (arith, again)

  last_few : (n : ℕ) (xs : List D) → last_by number n xs ≤ max n (greatest_by number xs)
  last_few n [] = omega arith
  last_few n (x ∷ xs) = omega (arith, last_few (number x) xs)

  module _ (sharing : D → D → Bool) (all : List D) (follows : FollowsWhatItShares number sharing all) where
    few_from : (earlier later : List D) → all ≡ earlier ++ later → greatest_by number earlier ≤ length earlier → greatest_by number all ≤ length all
    few_from earlier [] is few = subst (λ xs. greatest_by number xs ≤ length xs) (sym (is ∙ append-nil earlier)) few
    few_from earlier (x ∷ later) is few =
        few_from (earlier ++ x ∷ []) later (is ∙ sym (append_assoc earlier (x ∷ []) later))
        (omega (arith, few, pushed earlier x, length-append earlier (x ∷ []), follows earlier x later is, kept_less (sharing x) earlier))

    pub numbers_few : greatest_by number all ≤ length all
    numbers_few = few_from [] all refl (omega arith)

-- the clock after lines is the number of the last
clock_after : (state : ShardState) (lines : List (ℕ × Line)) → (after_lines state lines).clock ≡ last_by number_put state.clock lines
clock_after state [] = refl
clock_after state (entry ∷ lines) = clock_after (after_put state entry) lines

-- the lines of transactions have their numbers
line_numbers : (z : Setting) (s : ℕ) (txns : List Txn) → greatest_by number_put (map (worker_line z s) (filter (takes z s) txns)) ≤ greatest_by entry_number (map entry_of txns)
line_numbers z s [] = omega arith
line_numbers z s (txn ∷ txns) = at (takes z s txn) (line_numbers z s txns) where
  at : (b : Bool) → greatest_by number_put (map (worker_line z s) (filter (takes z s) txns)) ≤ greatest_by entry_number (map entry_of txns)
      → greatest_by number_put (map (worker_line z s) (cond b (txn ∷ filter (takes z s) txns) (filter (takes z s) txns))) ≤ max (entry_of txn).number (greatest_by entry_number (map entry_of txns))
  at true less = omega (arith, less)
  at false less = omega (arith, less)

txn_numbers : (txns : List Txn) → greatest_by txn_number txns ≡ greatest_by entry_number (map entry_of txns)
txn_numbers [] = refl
txn_numbers (txn ∷ txns) = ap (max (entry_of txn).number) (txn_numbers txns)

-- ---- how many entries there are

abbrev sum_to : ℕ → (ℕ → ℕ) → ℕ
sum_to zero f = 0
sum_to (suc n) f = f n + sum_to n f

module _ (entry : Entry) (entries : List Entry) where
  own_more : (w : ℕ) → length (part entry_worker w entries) ≤ length (part entry_worker w (entry ∷ entries))
  own_more w = at (entry_worker entry == w) where
    at : (b : Bool) → length (part entry_worker w entries) ≤ length (cond b (entry ∷ part entry_worker w entries) (part entry_worker w entries))
    at true = omega arith
    at false = omega arith

  one_more : (w : ℕ) → entry_worker entry ≡ w → suc (length (part entry_worker w entries)) ≤ length (part entry_worker w (entry ∷ entries))
  one_more w own = at (entry_worker entry == w) (eq-eqb (entry_worker entry) w own) where
    at : (b : Bool) → b ≡ true → suc (length (part entry_worker w entries)) ≤ length (cond b (entry ∷ part entry_worker w entries) (part entry_worker w entries))
    at true is = omega arith
    at false is = absurd (cc is)

  sums_grow : (n : ℕ) → sum_to n (λ w. length (part entry_worker w entries)) ≤ sum_to n (λ w. length (part entry_worker w (entry ∷ entries)))
  sums_grow zero = omega arith
  sums_grow (suc n) = omega (arith, own_more n, sums_grow n)

  sums_grow_by_one : (n : ℕ) → entry_worker entry < n → suc (sum_to n (λ w. length (part entry_worker w entries))) ≤ sum_to n (λ w. length (part entry_worker w (entry ∷ entries)))
  sums_grow_by_one zero below = absurd (omega (arith, below))
  sums_grow_by_one (suc n) below = at (cases_lt (entry_worker entry) n) (sums_grow_by_one n) where
    at : (entry_worker entry < n) ⊎ (n ≤ entry_worker entry)
        → (entry_worker entry < n → suc (sum_to n (λ w. length (part entry_worker w entries))) ≤ sum_to n (λ w. length (part entry_worker w (entry ∷ entries))))
        → suc (sum_to (suc n) (λ w. length (part entry_worker w entries))) ≤ sum_to (suc n) (λ w. length (part entry_worker w (entry ∷ entries)))
    at (inl less) again = omega (arith, own_more n, again less)
    at (inr past) again =
        let same : entry_worker entry ≡ n = omega (arith, past, below) in
        omega (arith, one_more n same, sums_grow n)

all_in_parts : (n : ℕ) (entries : List Entry) → AllByRecursion (λ entry. entry_worker entry < n) entries → length entries ≤ sum_to n (λ w. length (part entry_worker w entries))
all_in_parts n [] below = omega arith
all_in_parts n (entry ∷ entries) below = omega (arith, all_in_parts n entries below.1, sums_grow_by_one entry entries n below.0)

sum_few : (n : ℕ) (f : ℕ → ℕ) → ((w : ℕ) → w < n → f w ≤ MOST_COMMITS) → sum_to n f ≤ n * MOST_COMMITS
sum_few zero f each = omega arith
sum_few (suc n) f each = omega (arith, each n (omega arith), sum_few n f (λ w less. each w (omega (arith, less))))

module _ (p : Phase) (closed : HasClosed p) where
  numbers_are_few : greatest_by entry_number p.entries ≤ length p.entries
  numbers_are_few = numbers_few entry_number _ p.entries (follow_what_they_share p closed)

  shard_clocks_few : AreInitial p.initial → (s : ℕ) → s < length p.initial → (state_at p.given s).clock ≤ length p.entries
  shard_clocks_few opened s known =
      let own = box p closed s known in let lines = own.lines in let txns = all_txns p closed in
      let is : (state_at p.given s).clock ≡ last_by number_put (state_at p.initial s).clock lines
      = ap (λ state. state.clock) own.history.state_is ∙ clock_after (state_at p.initial s) lines in
      let listed : greatest_by number_put lines ≤ greatest_by entry_number (map entry_of txns)
      = subst (λ ls. greatest_by number_put ls ≤ greatest_by entry_number (map entry_of txns)) (sym (list_is p closed s known)) (line_numbers p.setting s txns) in
      let same : greatest_by entry_number (map entry_of txns) ≡ greatest_by entry_number p.entries = ap (greatest_by entry_number) (lift p closed).entries_are in
      omega (arith, is, (opened s known).clock_is, last_few number_put (state_at p.initial s).clock lines, listed, same, numbers_are_few)

  worker_clocks_few : (w : ℕ) → w < length p.receipts → (receipt_at p.receipts w).clock ≤ length p.entries
  worker_clocks_few w known =
      let txns = txns_by p closed w in
      let start : (receipt_at p.receipts w).begun.1 ≡ 0 = ap (λ b. b.1) (closed.receipts w known).begun in
      let own : part entry_worker w p.entries ≡ map entry_of txns = closed.merged.parts w ∙ entries_are p closed w in
      let same : greatest_by txn_number txns ≡ greatest_by entry_number (part entry_worker w p.entries) = txn_numbers txns ∙ ap (greatest_by entry_number) (sym own) in
      omega (arith, (explains p closed w known).clocked, last_few txn_number (receipt_at p.receipts w).begun.1 txns, start, same, kept_less entry_number (λ e. entry_worker e == w) p.entries, numbers_are_few)

  entries_few : ((w : ℕ) → w < length p.receipts → length (journal_of (receipt_at p.receipts w)).entries ≤ MOST_COMMITS) → length p.entries ≤ length p.receipts * MOST_COMMITS
  entries_few each =
      omega (
        arith,
        all_in_parts (length p.receipts) p.entries (entries_below p closed),
        sum_few (length p.receipts) (λ w. length (part entry_worker w p.entries)) (λ w known. subst (λ (es : List Entry). length es ≤ MOST_COMMITS) (sym (part_is p closed w)) (each w known)),
      )

  seen_few : AreInitial p.initial → (w : ℕ) → w < length p.receipts → (s : ℕ) → s < length p.initial → clock_seen p.initial (key_of (receipt_at p.receipts w)) s ≤ length p.entries
  seen_few opened w known s low =
      le_trans (subst (λ key. clock_seen p.initial key s ≤ (state_at p.given s).clock) (get_or-map key_of p.receipts w _) ((box p closed s low).seen w known)) (shard_clocks_few opened s low)

  pub seen_by_few : AreInitial p.initial → (w : ℕ) → w < length p.receipts → (request : Request) → let receipt = receipt_at p.receipts w in greatest_seen p.initial receipt receipt.key request ≤ length p.entries
  seen_by_few opened w known request =
      let receipt = receipt_at p.receipts w in let shards = length p.initial in
      let objects = objects_taken receipt.opening (hot_of (setting_of receipt shards)) (entry_asked receipt request) in
      let each : greatest_by (clock_seen p.initial receipt.key) (shards_asked shards receipt request) ≤ length p.entries
      = greatest_least (clock_seen p.initial receipt.key) (length p.entries) (shards_asked shards receipt request)
      (all-map (λ object. shard_of object shards) (λ s. clock_seen p.initial receipt.key s ≤ length p.entries) objects
      (all-any _ (λ object. seen_few opened w known (shard_of object shards) (mod-lt (object_number object) closed.begun.some)) objects)) in
      omega (arith, worker_clocks_few w known, each)

  pub numbers_suffice : AreInitial p.initial → length p.receipts ≤ MOST_WORKERS → ((w : ℕ) → w < length p.receipts → length (journal_of (receipt_at p.receipts w)).entries ≤ MOST_COMMITS)
      → (w : ℕ) → w < length p.receipts → (request : Request) → let receipt = receipt_at p.receipts w in greatest_seen p.initial receipt receipt.key request < last_number
  numbers_suffice opened workers each w known request = omega (arith, seen_by_few opened w known request, entries_few each, workers)
