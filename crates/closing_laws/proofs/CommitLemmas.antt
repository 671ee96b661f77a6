-- A phase leaves a book, and a worker's commits grow by the entries of its journal.
use Rattle.std.proofs.Common.{◌≡◌, ℕ, ◌+◌, ◌<◌, ◌≤◌, List, [], ◌∷◌, fold, length, sym, ap, subst, ◌∙◌, arith}
use Rattle.std.proofs.lemmas.List.{length-map}
use Rattle.auction_rows.proofs.HistoryLemmas.{book_after-replays, rows_go_on, longer_book}
use Rattle.auction_rows.specs.{Book.{Book}, History.{IsBook, book_after, rows_of}}
use Rattle.auction_rows.specs.declared.rows.Entry.{Entry}
use Rattle.worker_slices.specs.declared.counters.Counters.{Counters}
use Rattle.phase_transactions.proofs.LawfulLemmas.{counts_one}
use Rattle.phase_transactions.specs.Txns.{Txn, entry_of, after_txn}
use Rattle.closing_laws.proofs.ReceiptLemmas.{txns_by, counts, journal_entries}
use Rattle.closing_laws.proofs.{ReplayLemmas.{entries_replay}, WorkerLemmas.{rows_below}}
use Rattle.closing_laws.specs.Phases.{Phase, HasClosed, counters_of, journal_of, receipt_at}
use Rattle.closing_laws.specs.Standing.{StandFor, AreOfWorkers, counters_at, stores}
use Rattle.item_shards.specs.Counting.{worker_of}
use Rattle.phase_laws.proofs.ListLemmas.{all-append}

pub book_left : (p : Phase) (closed : HasClosed p) (book : Book) → StandFor p.initial p.counters book [] → IsBook p.setting.opening book
    → IsBook p.setting.opening (book_after p.setting.opening book p.entries)
book_left p closed book opens is =
    let replays = entries_replay p closed book opens in
    subst (IsBook p.setting.opening) (sym (book_after-replays p.setting.opening book p.entries replays))
    (longer_book p.setting.opening book (rows_of p.entries) is (rows_go_on p.setting.opening book p.entries replays))

commits_after : (counters : Counters) (txns : List Txn) → (fold after_txn counters txns).commits ≡ counters.commits + length txns
commits_after counters [] = omega arith
commits_after counters (txn ∷ txns) =
    let one = (counts_one counters txn.0.reply).commits in
    omega (arith, one, commits_after (after_txn counters txn) txns)

pub commits_grow : (p : Phase) (closed : HasClosed p) (w : ℕ) → w < length p.receipts
    → (let receipt = receipt_at p.receipts w in (counters_of receipt).commits ≡ (counters_at p.counters w).commits + length (journal_of receipt).entries)
commits_grow p closed w known =
    ap (λ (counters : Counters). counters.commits) (counts p closed w known)
    ∙ commits_after (counters_at p.counters w) (txns_by p closed w)
    ∙ ap (λ n. (counters_at p.counters w).commits + n)
    (sym (length-map (txns_by p closed w) entry_of) ∙ ap (length {A = Entry}) (sym (journal_entries p closed w)))

-- each commit has at most one store
stores_after : (counters : Counters) (txns : List Txn) → stores counters ≤ counters.commits → stores (fold after_txn counters txns) ≤ (fold after_txn counters txns).commits
stores_after counters [] few = few
stores_after counters (txn ∷ txns) few =
    let one = counts_one counters txn.0.reply in
    stores_after (after_txn counters txn) txns (omega (arith, few, one.stores, one.commits))

pub stores_few : (p : Phase) (closed : HasClosed p) (w : ℕ) → w < length p.receipts
    → (let after = counters_of (receipt_at p.receipts w) in stores (counters_at p.counters w) ≤ (counters_at p.counters w).commits → stores after ≤ after.commits)
stores_few p closed w known few =
    subst (λ (counters : Counters). stores counters ≤ counters.commits) (sym (counts p closed w known))
    (stores_after (counters_at p.counters w) (txns_by p closed w) few)

pub workers_go_on : (p : Phase) (closed : HasClosed p) (book : Book) → StandFor p.initial p.counters book [] → AreOfWorkers (length p.counters) book
    → AreOfWorkers (length p.receipts) (book_after p.setting.opening book p.entries)
workers_go_on p closed book opens own =
    subst (AreOfWorkers (length p.receipts)) (sym (book_after-replays p.setting.opening book p.entries (entries_replay p closed book opens)))
    (all-append (λ row. worker_of row < length p.receipts) book (rows_of p.entries) (subst (λ n. AreOfWorkers n book) closed.begun.workers own) (rows_below p closed))
