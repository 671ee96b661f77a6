-- A commit keeps what a worker's work is.
use Rattle.std.proofs.Common.{◌≡◌, ℕ, suc, max, Bool, true, false, cond, if◌then◌else◌, List, [], ◌∷◌, ◌++◌, map, Option, Some, None, option_to_list, refl, sym, ap, ◌∙◌, subst, append-nil}
use Rattle.std.proofs.lemmas.List.{Elements.{filter-append, filter_map-append}, map-append}
use Rattle.std.{proofs.lemmas.List.Sums.{fold-append}, specs.List.{filter, cons_option}}
use Rattle.phase_laws.proofs.{NumberLemmas.{numbered_push, last-push}, OrderLemmas.{all_push}}
use Rattle.phase_laws.proofs.ReplayLemmas.{saw_push}
use Rattle.auction_rows.specs.{Book.{Book}, History.{row_of_entry, rows_of}}
use Rattle.auction_rows.specs.declared.{requests.Facts.Facts, requests.Object.Object, rows.Row.Row, rows.Entry.Entry}
use Rattle.item_shards.specs.Writing.{writes_if}
use Rattle.worker_slices.{proofs.RowSlices.{row_more}, specs.Slicing.{slices_of, slices_after_acts}}
use Rattle.phase_transactions.specs.Txns.{Setting, Txn, entry_of, txn_number, greatest_clock, takes, line_on, IsAnswered, after_txn}
use Rattle.phase_transactions.specs.Works.{Work, Explains, IsWorkOf, IsCommitOf, with_txn}

-- the lines of the transactions that take a shard, with one transaction more
one_line : {X Y : Type 0} (p : X → Bool) (f : X → Y) (xs : List X) (x : X) (b : Bool) → p x ≡ b
    → map f (filter p (xs ++ x ∷ [])) ≡ (if b then map f (filter p xs) ++ f x ∷ [] else map f (filter p xs))
one_line p f xs x b is = ap (map f) (filter-append p xs (x ∷ [])) ∙ map-append f (filter p xs) (filter p (x ∷ [])) ∙ go b is where
  go : (b : Bool) → p x ≡ b → map f (filter p xs) ++ map f (cond (p x) (x ∷ []) []) ≡ (if b then map f (filter p xs) ++ f x ∷ [] else map f (filter p xs))
  go true is = ap (λ c. map f (filter p xs) ++ map f (cond c (x ∷ []) [])) is
  go false is = ap (λ c. map f (filter p xs) ++ map f (cond c (x ∷ []) [])) is ∙ append-nil (map f (filter p xs))

-- the slices of rows, and of one more if there is one
row_if_any : (stocks : List (Object × Option (Facts × ℕ))) (rows : Book) (one : Option Row) → slices_of stocks (rows ++ option_to_list one) ≡ slices_after_acts (slices_of stocks rows) (writes_if one)
row_if_any stocks rows None = ap (slices_of stocks) (append-nil rows)
row_if_any stocks rows (Some one) = row_more stocks rows one

one_at_most : (row : Option Row) → cons_option row [] ≡ option_to_list row
one_at_most None = refl
one_at_most (Some row) = refl

rows_push : (entries : List Entry) (entry : Entry) → rows_of (entries ++ entry ∷ []) ≡ rows_of entries ++ option_to_list (row_of_entry entry)
rows_push entries entry = filter_map-append row_of_entry entries (entry ∷ []) ∙ ap (λ rows. rows_of entries ++ rows) (one_at_most (row_of_entry entry))

-- the transactions behind it, and the one of the commit, explain what it comes to
explains_more : (z : Setting) (worker : ℕ) (work : Work) (txns : List Txn) (txn : Txn) → Explains z worker work txns → IsCommitOf z worker work txn → Explains z worker (with_txn z work txn) (txns ++ txn ∷ [])
explains_more z worker work txns txn is commit = record {
  own = all_push (λ d. (entry_of d).worker ≡ worker) txns txn is.own commit.own;
  entries = ap (λ es. es ++ entry_of txn ∷ []) is.entries ∙ sym (map-append entry_of txns (txn ∷ []));
  lines = λ shard. ap (λ lines. if takes z shard txn then lines ++ line_on z shard txn ∷ [] else lines) (is.lines shard)
      ∙ sym (one_line (takes z shard) (line_on z shard) txns txn (takes z shard txn) refl);
  clocked = sym (last-push txn_number work.start txns txn);
  counts = ap (λ c. after_txn c txn) is.counts ∙ sym (fold-append after_txn work.opened txns (txn ∷ []));
  numbered = numbered_push txn_number (greatest_clock z) work.start txns txn is.numbered (commit.numbered ∙ ap (λ n. suc (max n (greatest_clock z txn))) is.clocked);
  answered = saw_push (IsAnswered z) after_txn work.opened txns txn is.answered (subst (λ c. IsAnswered z c txn) is.counts commit.answered);
  sliced = ap (λ hots. slices_after_acts hots (writes_if (row_of_entry (entry_of txn)))) is.sliced
      ∙ sym (row_if_any z.stocks (rows_of work.entries) (row_of_entry (entry_of txn)))
      ∙ sym (ap (slices_of z.stocks) (rows_push work.entries (entry_of txn)));
}

pub commit_keeps : (z : Setting) (worker : ℕ) (work : Work) (txn : Txn) → IsWorkOf z worker work → IsCommitOf z worker work txn → IsWorkOf z worker (with_txn z work txn)
commit_keeps z worker work txn is commit = record { txns = is.txns ++ txn ∷ []; explained = explains_more z worker work is.txns txn is.explained commit }
