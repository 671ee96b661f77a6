-- The entries of a phase are those of its workers, and so are their rows.
use Rattle.std.proofs.Common.{◌≡◌, ℕ, ◌<◌, ◌≤◌, ◌==◌, ◌⊎◌, inl, inr, Bool, true, false, cond, List, [], ◌∷◌, map, length, Option, Some, None, refl, sym, ap, subst, ◌∙◌, eq-eqb}
use Rattle.std.proofs.lemmas.Bool.{eqb-true, cond-true, cases_lt}
use Rattle.std.specs.List.{AllByRecursion, cons_option}
use Rattle.phase_laws.specs.Order.{part}
use Rattle.auction_rows.specs.{Book.{Book}, History.{row_of_entry, rows_of}}
use Rattle.auction_rows.specs.Replies.{row_of, row_if}
use Rattle.auction_rows.specs.declared.replies.Reply.TheVariants.{ItemStored, BidStored, CommentStored, Bought}
use Rattle.auction_rows.specs.declared.requests.Request.TheVariants.{StoreItem, StoreBid, StoreComment, BuyNow}
use Rattle.auction_rows.specs.declared.{requests.Request.Request, replies.Reply.Reply, rows.Row.Row, rows.Entry.Entry}
use Rattle.item_shards.specs.Counting.{worker_of}
use Rattle.worker_journals.specs.Journals.{entry_worker}
use Rattle.phase_transactions.specs.Txns.{entry_of}
use Rattle.closing_laws.proofs.ReceiptLemmas.{no_txns, entries_are, journal_entries}
use Rattle.closing_laws.specs.Phases.{Phase, HasClosed, journal_of, receipt_at}

-- Who has no part of the entries is of none.

part_rest : (w : ℕ) (entry : Entry) (entries : List Entry) (b : Bool) → cond b (entry ∷ part entry_worker w entries) (part entry_worker w entries) ≡ [] → part entry_worker w entries ≡ []
part_rest w entry entries true none = absurd (cc)
part_rest w entry entries false none = none

has_part : (entry : Entry) (entries : List Entry) → part entry_worker (entry_worker entry) (entry ∷ entries) ≡ [] → ⊥
has_part entry entries none =
    let own : part entry_worker (entry_worker entry) (entry ∷ entries) ≡ entry ∷ part entry_worker (entry_worker entry) entries =
    cond-true (entry_worker entry == entry_worker entry) _ _ (eq-eqb (entry_worker entry) (entry_worker entry) refl) in
    cc

all_below : (n : ℕ) (entries : List Entry) → ((w : ℕ) → n ≤ w → part entry_worker w entries ≡ []) → AllByRecursion (λ entry. entry_worker entry < n) entries
all_below n [] none = tt
all_below n (entry ∷ entries) none = (at (cases_lt (entry_worker entry) n), all_below n entries (λ w past. part_rest w entry entries (entry_worker entry == w) (none w past)))
  where
    at : (entry_worker entry < n) ⊎ (n ≤ entry_worker entry) → entry_worker entry < n
    at (inl less) = less
    at (inr past) = absurd (has_part entry entries (none (entry_worker entry) past))

module _ (p : Phase) (closed : HasClosed p) where
  pub part_is : (w : ℕ) → part entry_worker w p.entries ≡ (journal_of (receipt_at p.receipts w)).entries
  part_is w = closed.merged.parts w ∙ entries_are p closed w ∙ sym (journal_entries p closed w)

  pub entries_below : AllByRecursion (λ entry. entry_worker entry < length p.receipts) p.entries
  entries_below = all_below (length p.receipts) p.entries
      (λ w past. closed.merged.parts w ∙ entries_are p closed w ∙ ap (map entry_of) (no_txns p closed w past))

-- What holds of each row that an entry adds.

abbrev IfAny : (Row → Type 0) → Option Row → Type 0
IfAny P None = Unit {0}
IfAny P (Some one) = P one

if_own : (P : Row → Type 0) (b : Bool) (one : Row) → (b ≡ true → P one) → IfAny P (row_if b one)
if_own P true one holds = holds refl
if_own P false one holds = tt

row_worker : (worker : ℕ) (request : Request) (given : Reply) → IfAny (λ one. worker_of one ≡ worker) (row_of worker request given)
row_worker worker (StoreItem facts time) (ItemStored id) = if_own (λ one. worker_of one ≡ worker) (id.worker == worker) _ (eqb-true id.worker worker)
row_worker worker (StoreBid bidder item amount time) (BidStored id) = if_own (λ one. worker_of one ≡ worker) (id.worker == worker) _ (eqb-true id.worker worker)
row_worker worker (StoreComment author about item stars) (CommentStored id) = if_own (λ one. worker_of one ≡ worker) (id.worker == worker) _ (eqb-true id.worker worker)
row_worker worker (BuyNow buyer item quantity time) (Bought id) = if_own (λ one. worker_of one ≡ worker) (id.worker == worker) _ (eqb-true id.worker worker)
row_worker worker request given = tt

one_more : (P : Row → Type 0) (one : Option Row) (rows : Book) → IfAny P one → AllByRecursion P rows → AllByRecursion P (cons_option one rows)
one_more P None rows first rest = rest
one_more P (Some one) rows first rest = (first, rest)

rows_have : (P : Row → Type 0) (Q : Entry → Type 0) → ((entry : Entry) → Q entry → IfAny P (row_of_entry entry)) → (entries : List Entry) → AllByRecursion Q entries → AllByRecursion P (rows_of entries)
rows_have P Q each [] all = tt
rows_have P Q each (entry ∷ entries) all = one_more P (row_of_entry entry) (rows_of entries) (each entry all.0) (rows_have P Q each entries all.1)

below_if : (n worker : ℕ) (one : Option Row) → worker < n → IfAny (λ row. worker_of row ≡ worker) one → IfAny (λ row. worker_of row < n) one
below_if n worker None less own = tt
below_if n worker (Some one) less own = subst (λ w. w < n) (sym own) less

pub rows_below : (p : Phase) (closed : HasClosed p) → AllByRecursion (λ row. worker_of row < length p.receipts) (rows_of p.entries)
rows_below p closed = rows_have (λ row. worker_of row < length p.receipts) (λ entry. entry_worker entry < length p.receipts)
    (λ entry less. below_if (length p.receipts) (entry_worker entry) (row_of_entry entry) less (row_worker (entry_worker entry) entry.request entry.reply))
    p.entries (entries_below p closed)
