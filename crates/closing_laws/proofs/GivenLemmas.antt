-- What the boxes gave back: the shards after the lines of the transactions, which leave hot objects alone.
use Rattle.std.proofs.Common.{◌≡◌, ℕ, ◌==◌, ◌&&◌, Bool, true, false, cond, not, List, [], ◌∷◌, Option, Some, None, filter, fold, map, length, ◌<◌, refl, ap, ◌∙◌}
use Rattle.std.{proofs.Math.Nat.{mod-lt}, specs.Option.{option_map_or}}
use Rattle.auction_rows.specs.{Footprint.{is_hot}, declared.requests.Object.{Object}}
use Rattle.auction_rows.specs.Requests.{number_of as object_number, shard_of}
use Rattle.item_shards.proofs.{EntryLemmas.{padded_leaves, few_done}, StandingLemmas.{kept_after}}
use Rattle.item_shards.specs.{Contents.{Contents, target, after_act, after_acts}, Events.{Event}}
use Rattle.item_shards.specs.Writing.{acts_of, is_cold_in, is_done_on}
use Rattle.shard_boxes.specs.Lines.{acts_in, after_lines, after_line}
use Rattle.shard_boxes.specs.States.{ShardState, state_at}
use Rattle.phase_transactions.specs.Txns.{Setting, Txn, hot_of, takes, line_on}
use Rattle.closing_laws.{proofs.ListLemmas.{all_txns, box, list_is}, specs.Histories.{worker_line}}
use Rattle.closing_laws.specs.Phases.{Phase, HasClosed, value_on}

module _ (here : Object → Bool) (object : Object) (away : here object ≡ false) where
  -- an act on another object
  act_alone : (contents : Contents) (act : Event) → option_map_or here (target act) false ≡ true → after_act contents act object ≡ contents object
  act_alone contents act is = kept_after (λ o. not (here o)) contents object (ap not away) act (at (target act) is) where
    at : (about : Option Object) → option_map_or here about false ≡ true → option_map_or (λ o. not (here o)) about false ≡ false
    at None is = refl
    at (Some about) is = ap not is

  acts_alone : (acts : List Event) (contents : Contents) → after_acts contents (filter (λ act. option_map_or here (target act) false) acts) object ≡ contents object
  acts_alone [] contents = refl
  acts_alone (act ∷ acts) contents = at (option_map_or here (target act) false) refl (acts_alone acts) where
    at : (b : Bool) → option_map_or here (target act) false ≡ b → ((s : Contents) → after_acts s (filter (λ a. option_map_or here (target a) false) acts) object ≡ s object)
        → after_acts contents (cond b (act ∷ filter (λ a. option_map_or here (target a) false) acts) (filter (λ a. option_map_or here (target a) false) acts)) object ≡ contents object
    at true is rest = rest (after_act contents act) ∙ act_alone contents act is
    at false is rest = rest contents

-- so a hot object has on a shard what it had, after any transactions
pub hot_alone : (z : Setting) (s : ℕ) (object : Object) → is_hot (hot_of z) object ≡ true → (txns : List Txn) (contents : Contents)
    → fold (λ t txn. after_acts t (acts_in (line_on z s txn).acts)) contents txns object ≡ contents object
hot_alone z s object hot [] contents = refl
hot_alone z s object hot (txn ∷ txns) contents =
    let all = acts_of z.opening txn.1.stock txn.0 in
    hot_alone z s object hot txns (after_acts contents (acts_in (line_on z s txn).acts))
    ∙ ap (λ (t : Contents). t object) (padded_leaves contents (filter (is_done_on s z.shards (hot_of z)) all) (few_done s z.shards (hot_of z) z.opening txn.1.stock txn.0))
    ∙ acts_alone (is_cold_in s z.shards (hot_of z)) object (ap (λ b. not b && (shard_of object z.shards == s)) hot) all contents

-- of a shard after the lines of transactions, its contents
abbrev pub after_txns : Setting → ℕ → Contents → List Txn → Contents
after_txns z s contents txns = fold (λ t txn. after_acts t (acts_in (line_on z s txn).acts)) contents txns

contents_after : (z : Setting) (s : ℕ) (state : ShardState) (txns : List Txn) → (after_lines state (map (worker_line z s) txns)).contents ≡ after_txns z s state.contents txns
contents_after z s state [] = refl
contents_after z s state (txn ∷ txns) = contents_after z s (after_line state (line_on z s txn)) txns

module _ (p : Phase) (closed : HasClosed p) where
  pub given_is : (s : ℕ) → s < length p.initial
      → (state_at p.given s).contents ≡ after_txns p.setting s (state_at p.initial s).contents (filter (takes p.setting s) (all_txns p closed))
  given_is s known =
      ap (λ (state : ShardState). state.contents) (box p closed s known).history.state_is
      ∙ ap (λ lines. (after_lines (state_at p.initial s) lines).contents) (list_is p closed s known)
      ∙ contents_after p.setting s (state_at p.initial s) (filter (takes p.setting s) (all_txns p closed))

  pub is_known : (object : Object) → shard_of object (length p.initial) < length p.initial
  is_known object = mod-lt (object_number object) closed.begun.some

  -- so a hot object is given back as it was
  pub given_alone : (object : Object) → is_hot (hot_of p.setting) object ≡ true → value_on p.given object ≡ value_on p.initial object
  given_alone object hot =
      let s = shard_of object (length p.initial) in
      ap (λ n. (state_at p.given (shard_of object n)).contents object) closed.boxes.0
      ∙ ap (λ (contents : Contents). contents object) (given_is s (is_known object))
      ∙ hot_alone p.setting s object hot (filter (takes p.setting s) (all_txns p closed)) (state_at p.initial s).contents
