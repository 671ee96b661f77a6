-- The phase of the example has closed.
use Rattle.std.proofs.Common.{◌≡◌, ℕ, zero, suc, ◌<◌, ◌≤◌, ◌||◌, false, cond, [], ◌∷◌, map, refl, sym, ap, arith}
use Rattle.std.{proofs.lemmas.Bool.{ne_eqb}, specs.List.{IsDistinct}}
use Rattle.auction_rows.specs.{Requests.{same_object}, declared.requests.Facts.{Facts}}
use Rattle.shard_boxes.specs.{Closed.{IsClosedBox}, Helds.{taken_at}, Keys.{key_at, lines_at, holds_at}}
use Rattle.shard_boxes.specs.{Lines.{lines_of}, States.{state_at}}
use Rattle.item_shards.specs.Standing.{ContentsStandsFor}
use Rattle.phase_transactions.specs.Txns.{hot_of, line_on, lines_owed}
use Rattle.phase_permits.specs.Replying.{CountsOf}
use Rattle.closing_laws.specs.Example.{setting, counters, txn, line, key, receipt, opened, example_book, example_phase}
use Rattle.closing_laws.specs.Phases.{HasClosed, IsReceiptOf, receipt_at}
use Rattle.closing_laws.specs.Standing.{StandFor, counters_at}

module _ (facts : Facts) where
  idle : (shard : ℕ) → holds_at (key facts) shard ≡ false
  idle zero = refl
  idle (suc n) = refl

  -- the transaction takes shard 0 alone
  lines : (shard : ℕ) → lines_at (key facts) shard ≡ lines_owed setting shard (txn facts ∷ [])
  lines zero = refl
  lines (suc n) = ap (λ b. map (line_on setting (suc n)) (cond (b || false) (txn facts ∷ []) [])) (sym (ne_eqb 0 (suc n) (λ same. omega (arith, same))))

  distinct : IsDistinct same_object (hot_of setting)
  unfolding IsDistinct
  distinct = (tt, tt)

  receipts : (w : ℕ) → w < 1 → IsReceiptOf setting w (counters_at (counters ∷ []) w) (receipt_at (receipt facts ∷ []) w)
  receipts zero known = record {
    explained = record {
      worker = refl;
      idle = idle;
      work = record {
        txns = txn facts ∷ [];
        explained = record {
          own = (refl, tt);
          entries = refl;
          lines = lines;
          clocked = refl;
          counts = refl;
          numbered = (refl, tt);
          answered = (record { answered = refl; not_put_off = refl }, tt);
          sliced = refl;
        };
      };
    };
    worker_is = refl;
    setting = refl;
    begun = refl;
  }
  receipts (suc n) known = absurd (omega (arith, known))

  own_lines : (w : ℕ) → w < 1 → lines_of w ((0, line facts) ∷ []) ≡ lines_at (key_at (key facts ∷ []) w) 0
  own_lines zero known = refl
  own_lines (suc n) known = absurd (omega (arith, known))

  seen_clocks : (w : ℕ) → w < 1 → (taken_at (opened facts ∷ []) (key_at (key facts ∷ []) w) 0).clock ≤ 1
  seen_clocks zero known = omega arith
  seen_clocks (suc n) known = absurd (omega (arith, known))

  boxes : (s : ℕ) → s < 1 → IsClosedBox (opened facts ∷ []) 1 (key facts ∷ []) s (state_at (example_phase facts).given s)
  boxes zero known = record {
    lines = (0, line facts) ∷ [];
    history = record {
      known = omega arith;
      state_is = refl;
      workers_are = (omega arith, tt);
      ascending = (tt, tt);
      linked = (refl, tt);
      looks = ((refl, (tt, tt)), tt);
      number_is = refl;
      shards_is = refl;
      opening_is = refl;
      within = record { bids = λ id. omega arith; comments = λ user. omega arith; ratings = λ user. omega arith };
    };
    own = own_lines;
    seen = seen_clocks;
  }
  boxes (suc n) known = absurd (omega (arith, known))

  pub has_closed : HasClosed (example_phase facts)
  has_closed = record {
    begun = record {
      some = omega arith;
      shards = refl;
      workers = refl;
      distinct = distinct;
      stocked = (refl, tt);
      read = (tt, tt);
    };
    receipts = receipts;
    boxes = (refl, boxes);
    merged = record { ascending = (tt, tt); parts = λ w. refl };
  }

  counts : (w : ℕ) → w < 1 → CountsOf (example_book facts) w (counters_at (counters ∷ []) w)
  counts zero known = record { items = refl; bids = refl; comments = refl; buys = refl }
  counts (suc n) known = absurd (omega (arith, known))

  shards : (s : ℕ) → s < 1 → ContentsStandsFor s 1 (state_at (opened facts ∷ []) s).contents (example_book facts) []
  shards zero known = λ object here cold. refl
  shards (suc n) known = absurd (omega (arith, known))

  pub has_stood : StandFor (example_phase facts).initial (example_phase facts).counters (example_book facts) []
  has_stood = record { shards = shards; counts = counts }
