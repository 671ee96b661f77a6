-- A phase of the floor closes lawfully, with the shards that it leaves.
use Rattle.std.proofs.Common.{◌≡◌, List, map, fold, length, refl, sym, ap, subst, ◌∙◌}
use Rattle.std.proofs.{Math.ListN.{get_or-map}, lemmas.List.{length-map}}
use Rattle.auction_rows.specs.Requests.{shard_of}
use Rattle.auction_rows.specs.declared.{requests.Object.Object, rows.Entry.Entry}
use Rattle.shard_boxes.specs.States.{ShardState, state_at, no_shard}
use Rattle.phase_transactions.specs.Workers.{WorkerState}
use Rattle.auction_shards.specs.Shards.{at_start}
use Rattle.closing_laws.proofs.{LawfulLemmas.{split_lawful}, MergeLemmas.{as_many}}
use Rattle.closing_laws.specs.{Lawful.{ClosesLawfully}, Merging.{after_merge}}
use Rattle.closing_laws.specs.Phases.{Phase, value_on}
use Rattle.phase_floor.specs.Closings.{HasReconciled, HasClosedLawfully, phase_of}
use Rattle.phase_floor.specs.Floors.{FloorState}

-- clocks don't matter to what shards show of an object
same_value : (states : List ShardState) (object : Object) → value_on (map at_start states) object ≡ value_on states object
same_value states object =
    ap (λ n. (state_at (map at_start states) (shard_of object n)).contents object) (length-map states at_start)
    ∙ ap (λ (state : ShardState). state.contents object) (get_or-map at_start states (shard_of object (length states)) no_shard)

started : (p : Phase) (states : List ShardState) → ClosesLawfully p states → ClosesLawfully p (map at_start states)
started p states lawful = record {
  numbers = lawful.numbers;
  parts = lawful.parts;
  txns = lawful.txns;
  entries = lawful.entries;
  lists = lawful.lists;
  given = lawful.given;
  left = length-map states at_start ∙ lawful.left;
  slices = lawful.slices;
  merged = λ object hot. same_value states object ∙ lawful.merged object hot;
  others = λ object cold. same_value states object ∙ lawful.others object cold;
}

left : (p : Phase) (states closing : List ShardState) → closing ≡ map at_start states → ClosesLawfully p states → ClosesLawfully p closing
left p states closing are lawful = subst (ClosesLawfully p) (sym are) (started p states lawful)

module _ (initial : List ShardState) (floor : FloorState) (receipts : List WorkerState) (states : List ShardState) (entries : List Entry) where
  pub reconciled_lawful : HasReconciled initial floor receipts states entries → HasClosedLawfully initial floor receipts states entries
  reconciled_lawful reconciled =
      let p = phase_of initial floor receipts reconciled.given entries in
      let merged = fold after_merge reconciled.given reconciled.order in record {
        given = reconciled.given;
        lawful = left p merged states reconciled.states_are (split_lawful p reconciled.closed merged
            (record { order = reconciled.order; each = reconciled.each; count = as_many reconciled.order reconciled.given; contents = λ s below. refl }));
      }
