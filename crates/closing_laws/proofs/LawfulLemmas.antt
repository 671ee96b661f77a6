-- A phase that has closed, and whose slices are merged, closes lawfully.
use Rattle.std.proofs.Common.{◌≡◌, ℕ, ◌<◌, List, [], fold, length, refl, sym, ap, subst, ◌∙◌}
use Rattle.std.proofs.{Math.Nat.{mod-lt}, lemmas.Bool.{false≢true}}
use Rattle.auction_rows.specs.{Footprint.{is_hot}, declared.requests.Object.{Object}}
use Rattle.auction_rows.specs.Requests.{number_of as object_number, shard_of}
use Rattle.item_shards.specs.Contents.{Contents}
use Rattle.shard_boxes.specs.{Lines.{Line, IsShardHistory}, States.{ShardState, state_at}}
use Rattle.phase_transactions.specs.Txns.{hot_of}
use Rattle.closing_laws.proofs.GivenLemmas.{given_alone}
use Rattle.closing_laws.proofs.ListLemmas.{lift, all_txns, box, list_is, follow_what_they_share}
use Rattle.closing_laws.proofs.MergeLemmas.{value_after_all, as_many}
use Rattle.closing_laws.proofs.{PermutedLemmas.{fold_permuted}, ReceiptLemmas.{sliced}}
use Rattle.closing_laws.proofs.ReconcileLemmas.{rows_by, all_sliced}
use Rattle.closing_laws.proofs.SliceLemmas.{merge_at, merge_at-commutes, all_cold, all_hot}
use Rattle.closing_laws.proofs.WorkerLemmas.{part_is}
use Rattle.closing_laws.specs.Lawful.{with_slices_by, AreSliced, AreHotMerged, AreOthersAsGiven, ClosesLawfully}
use Rattle.closing_laws.specs.Merging.{after_merge, slices_left, IsReconciled}
use Rattle.closing_laws.specs.Phases.{Phase, HasClosed, value_on}

module _ (p : Phase) (closed : HasClosed p) where
  pub are_sliced : AreSliced p
  are_sliced w known = sliced p closed w known

  -- whatever shards are left, where hot and other objects have what they shall
  lawful : (closing : List ShardState) → length closing ≡ length p.initial → AreHotMerged p closing → AreOthersAsGiven p closing → ClosesLawfully p closing
  lawful closing left merged others = record {
    numbers = record { ascending = closed.merged.ascending; follows = follow_what_they_share p closed };
    parts = λ w. part_is p closed w;
    txns = all_txns p closed;
    entries = (lift p closed).entries_are;
    lists = λ s known. subst (λ (lines : List (ℕ × Line)). IsShardHistory p.initial (length p.receipts) s lines (state_at p.given s)) (list_is p closed s known) (box p closed s known).history;
    given = closed.boxes.0;
    left = left;
    slices = are_sliced;
    merged = merged;
    others = others;
  }

  -- where nothing is hot there is nothing to merge
  pub joined_lawful : hot_of p.setting ≡ [] → ClosesLawfully p p.given
  joined_lawful none = lawful p.given closed.boxes.0 (λ object hot. absurd (false≢true (ap (λ objects. is_hot objects object) (sym none) ∙ hot))) (λ object cold. refl)

  module _ (closing : List ShardState) (reconciled : IsReconciled p closing) where
    some : 0 < length p.given
    some = subst (λ n. 0 < n) (sym closed.boxes.0) closed.begun.some

    -- an object's value in the end, by the slices of all workers
    closing_value : (object : Object) → value_on closing object ≡ fold (merge_at object) (value_on p.given object) (slices_left p.receipts)
    closing_value object =
        ap (λ n. (state_at closing (shard_of object n)).contents object) reconciled.count
        ∙ ap (λ (contents : Contents). contents object) (reconciled.contents (shard_of object (length p.given)) (mod-lt (object_number object) some))
        ∙ ap (λ n. (state_at (fold after_merge p.given reconciled.order) (shard_of object n)).contents object) (sym (as_many reconciled.order p.given))
        ∙ value_after_all reconciled.order p.given object some
        ∙ fold_permuted (merge_at object) (merge_at-commutes object) (slices_left p.receipts) reconciled.order reconciled.each (value_on p.given object)

    pub hot_merged : AreHotMerged p closing
    hot_merged object hot =
        closing_value object
        ∙ all_hot p.setting.stocks rows_by object p.receipts (all_sliced p closed) closed.begun.distinct hot (value_on p.given object)
        ∙ ap (with_slices_by p.receipts object) (given_alone p closed object hot)

    others_as_given : AreOthersAsGiven p closing
    others_as_given object cold =
        closing_value object ∙ all_cold p.setting.stocks rows_by object p.receipts (all_sliced p closed) cold (value_on p.given object)

    pub split_lawful : ClosesLawfully p closing
    split_lawful = lawful closing (reconciled.count ∙ closed.boxes.0) hot_merged others_as_given
