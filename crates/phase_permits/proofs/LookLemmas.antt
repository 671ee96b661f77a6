-- A look of a transaction at a cold object is true of the object's shard, which the transaction took.
use Rattle.std.proofs.Common.{◌≡◌, ℕ, ◌==◌, Bool, true, false, cond, not, List, [], ◌∷◌, ◌++◌, map, filter, Option, Some, None, refl, ap, subst, ◌∙◌, eq-eqb}
use Rattle.std.{proofs.lemmas.Bool.{or_left}, specs.{List.{list_any}, Option.{option_map_or}}}
use Rattle.std.specs.Prelude.{is_some}
use Rattle.phase_laws.specs.Replay.{SawInTurn}
use Rattle.auction_rows.specs.{Book.{Book}, Footprint.{is_hot, objects_of}, History.{row_of_entry}}
use Rattle.auction_rows.specs.{Refusals.{number_refusal}, Requests.{shard_of}}
use Rattle.auction_rows.specs.declared.{requests.Object.Object, replies.Refusal.Refusal}
use Rattle.item_shards.proofs.StandingLemmas.{cold_here}
use Rattle.item_shards.specs.{Contents.{Contents, target, after_act}, Events.{Event, Look}}
use Rattle.item_shards.specs.{Looking.{IsTrueOf, IsTrueAct}, Shown.{Shown}, Values.{value}}
use Rattle.item_shards.specs.Writing.{looks_of, writes_if, is_cold_in, is_done_on, padded}
use Rattle.phase_transactions.specs.Txns.{Setting, Txn, hot_of, takes}
use Rattle.phase_permits.specs.Replying.{SawTrue, StoodFor}

-- the first of two acts is looked at first
padded_first : (contents : Contents) (act : Event) (acts : List Event) → SawInTurn IsTrueAct after_act contents (padded (act ∷ acts)) → IsTrueAct contents act
padded_first contents act [] saw = saw.0
padded_first contents act (other ∷ acts) saw = saw.0

first_true : (p : Event → Bool) (contents : Contents) (act : Event) (acts : List Event) → p act ≡ true → SawInTurn IsTrueAct after_act contents (padded (filter p (act ∷ acts))) → IsTrueAct contents act
first_true p contents act acts is saw =
    padded_first contents act (filter p acts)
    (subst (λ b. SawInTurn IsTrueAct after_act contents (padded (cond b (act ∷ filter p acts) (filter p acts)))) is saw)

module _ (z : Setting) (txn : Txn) (accepted : number_refusal z.opening txn.0.request ≡ None) where
  abbrev home : Object → ℕ
  home object = shard_of object z.shards

  -- a transaction takes the shard of the first object that it needs, where it is cold
  takes_home : (object : Object) (objects : List Object) → objects_of txn.0.request txn.0.reply ≡ object ∷ objects → is_hot (hot_of z) object ≡ false
      → takes z (home object) txn ≡ true
  takes_home object objects needed cold =
      let cold_ones = filter (λ other. not (is_hot (hot_of z) other)) in
      let any = λ (all : List Object). list_any (λ shard. shard == home object) (map home all) in
      ap (λ (o : Option Refusal). any (cond (is_some o) [] (cold_ones (objects_of txn.0.request txn.0.reply)))) accepted
      ∙ ap (λ (all : List Object). any (cold_ones all)) needed
      ∙ ap (λ b. any (cond (not b) (object ∷ cold_ones objects) (cold_ones objects))) cold
      ∙ or_left (home object == home object) (any (cold_ones objects)) (eq-eqb (home object) (home object) refl)

  pub look_true : (taken : ℕ → Contents) → SawTrue z taken txn
      → (object : Object) (objects : List Object) (shown : Shown) (acts : List Event) → objects_of txn.0.request txn.0.reply ≡ object ∷ objects
      → looks_of txn.1.stock txn.0.reply txn.0.request ++ writes_if (row_of_entry txn.0) ≡ Look shown ∷ acts
      → target (Look shown) ≡ Some object → is_hot (hot_of z) object ≡ false → IsTrueOf (taken (home object)) shown
  look_true taken saw object objects shown acts needed acted about cold =
      let shard = home object in let here : Event → Bool = is_done_on shard z.shards (hot_of z) in
      first_true here (taken shard) (Look shown) acts
      (ap (λ (o : Option Object). option_map_or (is_cold_in shard z.shards (hot_of z)) o false) about ∙ cold_here shard z.shards (hot_of z) object refl cold)
      (subst (λ all. SawInTurn IsTrueAct after_act (taken shard) (padded (filter here all))) acted
      (subst (λ (o : Option Refusal). SawInTurn IsTrueAct after_act (taken shard)
      (padded (filter here (cond (is_some o) [] (looks_of txn.1.stock txn.0.reply txn.0.request ++ writes_if (row_of_entry txn.0)))))) accepted
      (saw shard (takes_home object objects needed cold))))

  -- and the shard has the book's value of the object
  pub value_there : (taken : ℕ → Contents) (book : Book) → StoodFor z taken book txn
      → (object : Object) (objects : List Object) → objects_of txn.0.request txn.0.reply ≡ object ∷ objects → is_hot (hot_of z) object ≡ false
      → taken (home object) object ≡ value book object
  value_there taken book stood object objects needed cold = stood (home object) (takes_home object objects needed cold) object refl cold
