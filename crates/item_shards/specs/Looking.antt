-- What looks show of contents, and when it is true of contents.
use Rattle.std.specs.Prelude.{◌≡◌, List, [], ◌∷◌, ⊤}
use Rattle.auction_rows.specs.declared.requests.Object.TheVariants.{Item, User, Category}
use Rattle.item_shards.specs.{Contents.{Contents, after_act}, Events.{Event}, Shown.{Shown}}
use Rattle.item_shards.specs.Values.{stock}
use Rattle.item_shards.specs.Views.{item_view, bids_view, category_view, user_view}
use Rattle.item_shards.specs.declared.shard.acts.Act.{Act}
use Rattle.item_shards.specs.declared.shard.acts.Act.TheVariants.{AddItem, ListItem, Bid, Comment, Buy, Look}
use Rattle.item_shards.specs.declared.shard.acts.Look.{Look as LookedAt}
use Rattle.item_shards.specs.declared.shard.acts.Look.TheVariants as look
use Rattle.item_shards.specs.Events as event
use Rattle.item_shards.specs.Shown as shown

-- what a look shows of contents
abbrev pub shown_in : Contents → LookedAt → Shown
shown_in contents look.Nothing = shown.Nothing
shown_in contents (look.Facts id) = shown.Facts id (contents (Item id)).facts
shown_in contents (look.Left id) = shown.Left id (stock (contents (Item id)))
shown_in contents (look.Item id) = shown.Item id (item_view (contents (Item id)))
shown_in contents (look.Bids id) = shown.Bids id (bids_view (contents (Item id)))
shown_in contents (look.Category category) =
    shown.Category category (category_view (contents (Category category)))
shown_in contents (look.User user) = shown.User user (user_view (contents (User user)))

-- an act on contents is an event: it shows what the contents has
abbrev pub event_at : Contents → Act → Event
event_at contents (AddItem id facts) = event.AddItem id facts
event_at contents (ListItem category entry) = event.ListItem category entry
event_at contents (Bid id entry) = event.Bid id entry
event_at contents (Comment user stars) = event.Comment user stars
event_at contents (Buy id quantity) = event.Buy id quantity
event_at contents (Look looked_at) = event.Look (shown_in contents looked_at)

-- the events of acts that are done on contents in turn
abbrev pub events_of : Contents → List Act → List Event
events_of contents [] = []
events_of contents (act ∷ acts) =
    event_at contents act ∷ events_of (after_act contents (event_at contents act)) acts

-- an act is this event, whatever the contents
abbrev pub IsEvent : Act → Event → Type 0
IsEvent act one = (contents : Contents) → event_at contents act ≡ one

-- what is shown is what the contents has
abbrev pub IsTrueOf : Contents → Shown → Type 0
IsTrueOf contents shown.Nothing = ⊤
IsTrueOf contents (shown.Facts id facts) = facts ≡ (contents (Item id)).facts
IsTrueOf contents (shown.Left id seen) = seen ≡ stock (contents (Item id))
IsTrueOf contents (shown.Item id view) = view ≡ item_view (contents (Item id))
IsTrueOf contents (shown.Bids id view) = view ≡ bids_view (contents (Item id))
IsTrueOf contents (shown.Category category view) =
    view ≡ category_view (contents (Category category))
IsTrueOf contents (shown.User user view) = view ≡ user_view (contents (User user))

-- an act that is a look is true
abbrev pub IsTrueAct : Contents → Event → Type 0
IsTrueAct contents (event.AddItem id facts) = ⊤
IsTrueAct contents (event.ListItem category entry) = ⊤
IsTrueAct contents (event.Bid id entry) = ⊤
IsTrueAct contents (event.Comment user stars) = ⊤
IsTrueAct contents (event.Buy id quantity) = ⊤
IsTrueAct contents (event.Look shown) = IsTrueOf contents shown
