-- From every book for which the phase began, the entries replay, and what the boxes gave back stands for the book after them.
use Rattle.std.proofs.Common.{Option, ◌≡◌, ℕ, ◌<◌, ◌≤◌, ◌⊎◌, inl, inr, true, List, [], ◌∷◌, map, filter, fold, length, refl, sym, ap, subst, ◌∙◌, arith}
use Rattle.std.proofs.lemmas.{Bool.{cases_lt}, List.{Folds.{fold-map}, length-map}}
use Rattle.phase_laws.proofs.ReplayLemmas.{replayed, saw_from_map, replays_map, saw_nothing}
use Rattle.phase_laws.specs.Replay.{SawInTurn, Replays}
use Rattle.auction_rows.specs.Book.{Book, facts_of, bought, items_stored, bids_stored, comments_stored, buys_stored}
use Rattle.auction_rows.specs.History.{IsRight, ReplaysFrom, after_entry, book_after}
use Rattle.auction_rows.specs.{Requests.{shard_of}, declared.requests.Object.TheVariants.{Item}}
use Rattle.auction_rows.specs.declared.requests.{ItemId.ItemId, Facts.Facts, Object.Object}
use Rattle.item_shards.{proofs.AnswerLemmas.{stock_is}, specs.Contents.{Contents}}
use Rattle.item_shards.specs.{Standing.{ContentsStandsFor}, Values.{value, stock}}
use Rattle.shard_boxes.specs.Lines.{Line, acts_in, AreTrueOf, after_line}
use Rattle.shard_boxes.specs.States.{ShardState, state_at}
use Rattle.worker_slices.specs.declared.counters.Counters.{Counters}
use Rattle.phase_transactions.specs.Txns.{Setting, Txn, hot_of, entry_of, takes, line_on, IsAnswered, after_txn}
use Rattle.phase_permits.specs.Replying.{CountsOf}
use Rattle.closing_laws.proofs.{FixedLemmas.{HasItems}, GivenLemmas.{given_is, is_known}}
use Rattle.closing_laws.proofs.HotLemmas.{stocked_of, read_of}
use Rattle.closing_laws.proofs.ListLemmas.{lift, all_txns, box, list_is, nowhere}
use Rattle.closing_laws.proofs.PlaceLemmas.{Place, shard, worker, fixed, State, takes_at, step_at, Saw_at, Stands_at, next_at, Right_at, phase_laws}
use Rattle.closing_laws.proofs.ReceiptLemmas.{receipt, no_txns, answered, counts, counters_are}
use Rattle.closing_laws.specs.Histories.{ReplaysAndStands, worker_line}
use Rattle.closing_laws.specs.Phases.{Phase, HasClosed, counters_of, value_on}
use Rattle.closing_laws.specs.Standing.{ShardsStandFor, StandFor, counters_at}

-- Of a shard after lines, its contents alone.

saw_contents : (z : Setting) (s : ℕ) (state : ShardState) (txns : List Txn)
    → SawInTurn (λ (found : ShardState) txn. AreTrueOf found.contents (acts_in (line_on z s txn).acts)) (λ found txn. after_line found (line_on z s txn)) state txns
    → SawInTurn (Saw_at z (shard s)) (step_at z (shard s)) state.contents txns
saw_contents z s state [] saw = tt
saw_contents z s state (txn ∷ txns) saw = (saw.0, saw_contents z s (after_line state (line_on z s txn)) txns saw.1)

-- what no transaction changes stays
stays : {S : Type 0} (s : S) (txns : List Txn) → fold (λ t txn. t) s txns ≡ s
stays s [] = refl
stays s (txn ∷ txns) = stays s txns

-- the counters that count a book
abbrev counters_in : Book → ℕ → Counters
counters_in book w = record { items = items_stored book w; bids = bids_stored book w; comments = comments_stored book w; buys = buys_stored book w; commits = 0 }

module _ (p : Phase) (closed : HasClosed p) (book : Book) (opens : StandFor p.initial p.counters book []) where
  abbrev z : Setting
  z = p.setting

  shards_are : z.shards ≡ length p.initial
  shards_are = closed.begun.shards

  pub opening_value : (object : Object) → value_on p.initial object ≡ value book object
  opening_value object = opens.shards (shard_of object (length p.initial)) (is_known p closed object) object refl refl

  -- what the places hold as the phase begins: a worker that is none of the phase's has what the book says
  abbrev counters_then : (w : ℕ) → (w < length p.receipts) ⊎ (length p.receipts ≤ w) → Counters
  counters_then w (inl known) = counters_at p.counters w
  counters_then w (inr past) = counters_in book w

  abbrev opening_at : (q : Place) → State q
  opening_at (shard s) = (state_at p.initial s).contents
  opening_at (worker w) = counters_then w (cases_lt w (length p.receipts))
  opening_at fixed = λ item. (facts_of book item, bought book item)

  counts_then : (w : ℕ) (case : (w < length p.receipts) ⊎ (length p.receipts ≤ w)) → CountsOf book w (counters_then w case)
  counts_then w (inl known) = opens.counts w (subst (λ n. w < n) (sym closed.begun.workers) known)
  counts_then w (inr past) = record { items = refl; bids = refl; comments = refl; buys = refl }

  opening_stands : (q : Place) → Stands_at z q (opening_at q) book
  opening_stands (shard s) = λ object here cold.
      subst (λ (t : ℕ). (state_at p.initial t).contents object ≡ value book object) (ap (shard_of object) (sym shards_are) ∙ here) (opening_value object)
  opening_stands (worker w) = counts_then w (cases_lt w (length p.receipts))
  opening_stands fixed = (
    λ item hot. sym (stock_is book item) ∙ ap stock (sym (opening_value (Item item))) ∙ sym (read_of p.initial z.stocks closed.begun.read item hot),
    λ item hot. (refl, refl),
  )

  -- what the transactions saw of each place, in turn
  saw_shard : (s : ℕ) → (s < length p.initial) ⊎ (length p.initial ≤ s)
      → SawInTurn (Saw_at z (shard s)) (step_at z (shard s)) (state_at p.initial s).contents (filter (takes z s) (all_txns p closed))
  saw_shard s (inl known) =
      saw_contents z s (state_at p.initial s) (filter (takes z s) (all_txns p closed))
      (saw_from_map (worker_line z s) (λ (found : ShardState) entry. AreTrueOf found.contents (acts_in entry.1.acts)) (λ found entry. after_line found entry.1) (state_at p.initial s) (filter (takes z s) (all_txns p closed))
      (subst (SawInTurn (λ (found : ShardState) (entry : ℕ × Line). AreTrueOf found.contents (acts_in entry.1.acts)) (λ found entry. after_line found entry.1) (state_at p.initial s))
      (list_is p closed s known) (box p closed s known).history.looks))
  saw_shard s (inr past) =
      subst (SawInTurn (Saw_at z (shard s)) (step_at z (shard s)) (state_at p.initial s).contents) (sym (nowhere p closed s past)) tt

  saw_worker : (w : ℕ) (case : (w < length p.receipts) ⊎ (length p.receipts ≤ w))
      → SawInTurn (IsAnswered z) after_txn (counters_then w case) (filter (takes_at z (worker w)) (all_txns p closed))
  saw_worker w (inl known) = subst (SawInTurn (IsAnswered z) after_txn (counters_at p.counters w)) (sym ((lift p closed).parts w)) (answered p closed w known)
  saw_worker w (inr past) =
      subst (SawInTurn (IsAnswered z) after_txn (counters_in book w)) (sym ((lift p closed).parts w ∙ no_txns p closed w past)) tt

  saw : (q : Place) → SawInTurn (Saw_at z q) (step_at z q) (opening_at q) (filter (takes_at z q) (all_txns p closed))
  saw (shard s) = saw_shard s (cases_lt s (length p.initial))
  saw (worker w) = saw_worker w (cases_lt w (length p.receipts))
  saw fixed = saw_nothing (λ items txn. items) (opening_at fixed) (filter (λ txn. true) (all_txns p closed))

  abbrev pub end : Book
  end = fold (next_at z) book (all_txns p closed)

  replay : Replays (Right_at z) (next_at z) book (all_txns p closed)
      × ((q : Place) → Stands_at z q (fold (step_at z q) (opening_at q) (filter (takes_at z q) (all_txns p closed))) end)
  replay = replayed (phase_laws z (stocked_of z.stocks closed.begun.stocked)) (all_txns p closed) book opening_at opening_stands saw

  pub end_is : end ≡ book_after z.opening book p.entries
  end_is = sym (fold-map (after_entry z.opening) entry_of book (all_txns p closed)) ∙ ap (book_after z.opening book) (lift p closed).entries_are

  pub entries_replay : ReplaysFrom z.opening book p.entries
  entries_replay = subst (ReplaysFrom z.opening book) (lift p closed).entries_are
      (replays_map entry_of (IsRight z.opening) (after_entry z.opening) book (all_txns p closed) replay.0)

  -- the facts of hot items, and how many of them are bought, are the same in the end
  pub items_kept : HasItems z (λ item. (facts_of book item, bought book item)) end
  items_kept = subst (λ (items : ItemId → Option Facts × ℕ). HasItems z items end) (stays (opening_at fixed) (filter (λ txn. true) (all_txns p closed))) (replay.1 fixed).1

  pub given_stands : (s : ℕ) → s < length p.initial → ContentsStandsFor s (length p.initial) (state_at p.given s).contents end (hot_of z)
  given_stands s known =
      subst (λ n. ContentsStandsFor s n (state_at p.given s).contents end (hot_of z)) shards_are
      (subst (λ (contents : Contents). ContentsStandsFor s z.shards contents end (hot_of z)) (sym (given_is p closed s known)) (replay.1 (shard s)))

  -- the counters after the phase count the book in the end
  counted_then : (w : ℕ) → w < length p.receipts → (case : (w < length p.receipts) ⊎ (length p.receipts ≤ w))
      → CountsOf end w (fold after_txn (counters_then w case) (filter (takes_at z (worker w)) (all_txns p closed))) → CountsOf end w (counters_of (receipt p closed w))
  counted_then w known (inl there) are = subst (CountsOf end w)
      (ap (fold after_txn (counters_at p.counters w)) ((lift p closed).parts w) ∙ sym (counts p closed w known)) are
  counted_then w known (inr past) are = absurd (omega (arith, known, past))

  counts_end : (w : ℕ) → w < length p.receipts → CountsOf end w (counters_at (map counters_of p.receipts) w)
  counts_end w known = subst (CountsOf end w) (sym (counters_are p closed w))
      (counted_then w known (cases_lt w (length p.receipts)) (replay.1 (worker w)))

  pub replays_and_stands : ReplaysAndStands p book
  replays_and_stands = record {
    replays = entries_replay;
    stand = record {
      shards = subst (λ b. ShardsStandFor p.given b (hot_of z)) end_is
          (λ s known. subst (λ n. ContentsStandsFor s n (state_at p.given s).contents end (hot_of z)) (sym closed.boxes.0) (given_stands s (subst (λ n. s < n) closed.boxes.0 known)));
      counts = λ w known. subst (λ b. CountsOf b w (counters_at (map counters_of p.receipts) w)) end_is (counts_end w (subst (λ n. w < n) (length-map p.receipts counters_of) known));
    };
  }
