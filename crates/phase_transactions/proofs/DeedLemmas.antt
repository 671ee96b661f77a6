-- The acts that a request owes on a shard are those whose objects have their home there.
use Rattle.std.proofs.Common.{◌≡◌, ℕ, ◌==◌, ◌&&◌, not, Bool, false, cond, List, [], ◌∷◌, filter, Option, Some, refl, sym, ap, ◌∙◌}
use Rattle.std.specs.Option.{option_map_or}
use Rattle.auction_rows.specs.Requests.{shard_of}
use Rattle.auction_rows.specs.declared.{requests.Facts.Facts, requests.Object.Object, replies.Reply.Reply}
use Rattle.item_shards.specs.{Contents.{Contents, target}, Events.{Event}}
use Rattle.item_shards.specs.Looking.{IsTrueAct, event_at}
use Rattle.item_shards.specs.Writing.{is_cold_in, is_done_on, padded}
use Rattle.item_shards.specs.declared.shard.acts.Act.{TheVariants.{Look}, Act}
use Rattle.item_shards.specs.declared.shard.acts.Look.TheVariants as look
use Rattle.item_shards.specs.Events as event
use Rattle.item_shards.specs.Shown as shown
use Rattle.worker_slices.specs.{Homes.{IsHomeOf}, Slicing.{hot_objects}, declared.homes.Home.{Home}}
use Rattle.worker_slices.specs.declared.slices.Hot.{Hot}
use Rattle.worker_slices.specs.declared.homes.Home.TheVariants as home
use Rattle.phase_transactions.specs.inner.Deeds.{is_at, deeds_on, event_with}

module _ (hots : List (Object × Hot)) (shards t : ℕ) where
  abbrev Done : Event → Bool
  Done = is_done_on t shards (hot_objects hots)

  -- an act is done on the shard in which its object has its home
  pub done_is : (object : Object) (h : Home) → IsHomeOf hots shards object h → (x : Event) → target x ≡ Some object → Done x ≡ is_at h t
  done_is object home.Nowhere is x of = absurd is
  done_is object (home.Slice place) is x of =
      ap (λ o. option_map_or (is_cold_in t shards (hot_objects hots)) o false) of ∙ ap (λ b. not b && (shard_of object shards == t)) is.1
  done_is object (home.Shard s) is x of =
      ap (λ o. option_map_or (is_cold_in t shards (hot_objects hots)) o false) of ∙ ap (λ b. not b && (shard_of object shards == t)) is.1 ∙ ap (λ n. n == t) (sym is.0)

  -- one act
  pub one_owed : (x : Event) (h : Home) → Done x ≡ is_at h t → padded (filter Done (x ∷ [])) ≡ deeds_on x (event.Look shown.Nothing) h home.Nowhere t
  one_owed x h is = ap (λ b. padded (cond b (x ∷ []) [])) is

-- an act whose look showed what is there is the event of the act there
pub event_is : (seen : Option (Facts × ℕ)) (reply : Reply) (contents : Contents) (act : Act) → IsTrueAct contents (event_with seen reply act) → event_at contents act ≡ event_with seen reply act
event_is seen reply contents (Look (look.Facts id)) is = ap (λ facts. event.Look (shown.Facts id facts)) (sym is)
event_is seen reply contents (Look (look.Left id)) is = ap (λ stock. event.Look (shown.Left id stock)) (sym is)
event_is seen reply contents (Look (look.Item id)) is = ap (λ view. event.Look (shown.Item id view)) (sym is)
event_is seen reply contents (Look (look.Bids id)) is = ap (λ view. event.Look (shown.Bids id view)) (sym is)
event_is seen reply contents (Look (look.Category category)) is = ap (λ view. event.Look (shown.Category category view)) (sym is)
event_is seen reply contents (Look (look.User user)) is = ap (λ view. event.Look (shown.User user view)) (sym is)
event_is seen reply contents act is = refl
