-- The places of a phase: its shards, its workers, and what is fixed of its hot items.
use Rattle.std.proofs.Common.{◌≡◌, ℕ, ◌==◌, Bool, true, false, ◌++◌, Option, IsSome, option_to_list, refl, sym, ap, subst, eq-eqb, eqb-true}
use Rattle.std.proofs.lemmas.Bool.{false≢true}
use Rattle.phase_laws.specs.Replay.{ResourceLaws}
use Rattle.auction_rows.specs.{Book.{Book}, Footprint.{is_hot}, History.{IsRight, after_entry}}
use Rattle.auction_rows.specs.{Refusals.{refusal}, Replies.{row_of}}
use Rattle.auction_rows.specs.declared.requests.Object.TheVariants.{Item}
use Rattle.auction_rows.specs.declared.{requests.ItemId.ItemId, requests.Facts.Facts, replies.Reply.Reply}
use Rattle.item_shards.proofs.EntryLemmas.{entry_stands, untaken_stands}
use Rattle.item_shards.specs.{Contents.{Contents, after_acts}, Standing.{ContentsStandsFor}}
use Rattle.shard_boxes.specs.Lines.{acts_in, AreTrueOf}
use Rattle.worker_slices.specs.{Counting.{counters_after}, Slicing.{stock_of}}
use Rattle.worker_slices.specs.declared.counters.Counters.{Counters}
use Rattle.phase_transactions.specs.Txns.{Setting, Txn, hot_of, takes, line_on, after_txn, IsAnswered}
use Rattle.phase_permits.{proofs.RightLemmas.{txn_right}, specs.Replying.{CountsOf, HasFixed}}
use Rattle.closing_laws.proofs.CountLemmas.{own_commit, other_commit}
use Rattle.closing_laws.proofs.FixedLemmas.{HasItems, fixed_next}

pub data Place : Type 0 where
  shard : ℕ → Place
  worker : ℕ → Place
  fixed : Place

abbrev pub State : Place → Type 0
State (shard s) = Contents
State (worker w) = Counters
State fixed = ItemId → Option Facts × ℕ

module _ (z : Setting) where
  abbrev pub takes_at : Place → Txn → Bool
  takes_at (shard s) txn = takes z s txn
  takes_at (worker w) txn = txn.0.worker == w
  takes_at fixed txn = true

  abbrev pub step_at : (p : Place) → State p → Txn → State p
  step_at (shard s) contents txn = after_acts contents (acts_in (line_on z s txn).acts)
  step_at (worker w) counters txn = after_txn counters txn
  step_at fixed items txn = items

  abbrev pub Saw_at : (p : Place) → State p → Txn → Type 0
  Saw_at (shard s) contents txn = AreTrueOf contents (acts_in (line_on z s txn).acts)
  Saw_at (worker w) counters txn = IsAnswered z counters txn
  Saw_at fixed items txn = Unit {0}

  abbrev pub Stands_at : (p : Place) → State p → Book → Type 0
  Stands_at (shard s) contents book = ContentsStandsFor s z.shards contents book (hot_of z)
  Stands_at (worker w) counters book = CountsOf book w counters
  Stands_at fixed items book = HasFixed z book × HasItems z items book

  abbrev pub next_at : Book → Txn → Book
  next_at book txn = after_entry z.opening book txn.0

  abbrev pub Right_at : Book → Txn → Type 0
  Right_at book txn = IsRight z.opening book txn.0

  module _ (stocked : (item : ItemId) → is_hot (hot_of z) (Item item) ≡ true → IsSome (stock_of z.stocks (Item item))) where
    module _ (book : Book) (at : (p : Place) → State p) (txn : Txn) (stands : (p : Place) → Stands_at p (at p) book)
        (saw : (p : Place) → takes_at p txn ≡ true → Saw_at p (at p) txn) where
      answered : IsAnswered z (at (worker txn.0.worker)) txn
      answered = saw (worker txn.0.worker) (eq-eqb txn.0.worker txn.0.worker refl)

      right : Right_at book txn
      right = txn_right z (λ s. at (shard s)) (at (worker txn.0.worker)) txn (λ s taken. saw (shard s) taken) answered
          book (λ s taken. stands (shard s)) (stands fixed).0 (stands (worker txn.0.worker))

      -- the next book, by the reply that was given
      next_is : Right_at book txn → next_at book txn ≡ book ++ option_to_list (row_of txn.0.worker txn.0.request txn.0.reply)
      next_is is = ap (λ (given : Reply). book ++ option_to_list (row_of txn.0.worker txn.0.request given)) (sym is)

      written : Right_at book txn → (p : Place) → takes_at p txn ≡ true → Stands_at p (step_at p (at p) txn) (next_at book txn)
      written is (shard s) taken = entry_stands s z.shards (hot_of z) z.opening (at (shard s)) book txn.1.stock txn.0 is (stands (shard s))
      written is (worker w) taken = own w (eqb-true txn.0.worker w taken) where
        own : (w : ℕ) → txn.0.worker ≡ w → CountsOf (next_at book txn) w (after_txn (at (worker w)) txn)
        own w same =
            subst (λ v. CountsOf (next_at book txn) v (after_txn (at (worker v)) txn)) same
            (subst (λ (given : Reply). CountsOf (next_at book txn) txn.0.worker (counters_after (at (worker txn.0.worker)) given)) (sym is)
            (own_commit book txn.0.worker (at (worker txn.0.worker)) (stands (worker txn.0.worker)) txn.0.request (refusal z.opening book txn.0.request)))
      written is fixed taken = subst (λ b. HasFixed z b × HasItems z (at fixed) b) (sym (next_is is)) (fixed_next z stocked (at fixed) book txn.0.worker txn.0.request txn.0.reply answered.not_put_off (stands fixed))

      kept : Right_at book txn → (p : Place) → takes_at p txn ≡ false → Stands_at p (at p) (next_at book txn)
      kept is (shard s) untaken = untaken_stands s z.shards (hot_of z) z.opening (at (shard s)) book txn.0 (stands (shard s)) is untaken
      kept is (worker w) untaken = other_commit book w (at (worker w)) (stands (worker w)) txn.0.worker txn.0.request (refusal z.opening book txn.0.request) untaken
      kept is fixed untaken = absurd (false≢true (sym untaken))

    -- the places keep the laws
    pub phase_laws : ResourceLaws takes_at step_at Saw_at Stands_at next_at Right_at
    phase_laws = record {
      right = λ book at txn stands saw. right book at txn stands saw;
      written = λ book at txn stands saw is. written book at txn stands saw is;
      kept = λ book at txn stands saw is. kept book at txn stands saw is;
    }
