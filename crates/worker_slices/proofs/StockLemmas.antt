-- What is fixed of hot objects stays, whatever is done to their slices.
use Rattle.std.proofs.Common.{◌≡◌, Bool, true, false, cond, List, [], ◌∷◌, refl, ◌∙◌}
use Rattle.auction_rows.specs.{Requests.{same_object}, declared.requests.Object.{Object}}
use Rattle.auction_rows.specs.declared.requests.Object.TheVariants.{Item, User, Category}
use Rattle.item_shards.specs.Events.{Event, ListItem, Bid, Comment}
use Rattle.item_shards.specs.declared.shard.slices.Slice.{Slice}
use Rattle.worker_slices.specs.Slicing.{stocks_of, slice_with_bid, slice_with_comment, slice_with_item, with_slice_changed, slices_after_act, slices_after_acts}
use Rattle.worker_slices.specs.declared.slices.Hot.{Hot}

-- what is fixed stays
fixed_if : (b : Bool) (change : Slice → Slice) (hot : Hot) → (cond b (record hot { slice = change hot.slice }) hot).stock ≡ hot.stock
fixed_if true change hot = refl
fixed_if false change hot = refl

stocks-changed : (object : Object) (change : Slice → Slice) (hots : List (Object × Hot)) → stocks_of (with_slice_changed object change hots) ≡ stocks_of hots
stocks-changed object change [] = refl
stocks-changed object change (hot ∷ hots) = λ i. (hot.0, fixed_if (same_object object hot.0) change hot.1 i) ∷ stocks-changed object change hots i

stocks-act : (hots : List (Object × Hot)) (act : Event) → stocks_of (slices_after_act hots act) ≡ stocks_of hots
stocks-act hots (ListItem category item) = stocks-changed (Category category) (slice_with_item item) hots
stocks-act hots (Bid id bid) = stocks-changed (Item id) (slice_with_bid bid) hots
stocks-act hots (Comment user stars) = stocks-changed (User user) (slice_with_comment stars) hots
stocks-act hots act = refl

pub stocks-acts : (hots : List (Object × Hot)) (acts : List Event) → stocks_of (slices_after_acts hots acts) ≡ stocks_of hots
stocks-acts hots [] = refl
stocks-acts hots (act ∷ acts) = stocks-acts (slices_after_act hots act) acts ∙ stocks-act hots act
