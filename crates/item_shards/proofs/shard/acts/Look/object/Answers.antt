use Rattle.std.proofs.Common.{sym, ap}
use Rattle.item_shards.specs.{Contents.{target}, Events.{Look}, Looking.{shown_in}}
use Rattle.item_shards.proofs.shard.acts.Look.object.Goals as goal

pub returns-in-Nothing : goal.returns-in-Nothing
returns-in-Nothing c = λ contents. ap (λ look. target (Look (shown_in contents look))) (sym c.in-Nothing.is)

pub returns-in-Facts : goal.returns-in-Facts
returns-in-Facts c = λ contents. ap (λ look. target (Look (shown_in contents look))) (sym c.in-Facts.is)

pub returns-in-Left : goal.returns-in-Left
returns-in-Left c = λ contents. ap (λ look. target (Look (shown_in contents look))) (sym c.in-Left.is)

pub returns-in-Item : goal.returns-in-Item
returns-in-Item c = λ contents. ap (λ look. target (Look (shown_in contents look))) (sym c.in-Item.is)

pub returns-in-Bids : goal.returns-in-Bids
returns-in-Bids c = λ contents. ap (λ look. target (Look (shown_in contents look))) (sym c.in-Bids.is)

pub returns-in-Category : goal.returns-in-Category
returns-in-Category c = λ contents. ap (λ look. target (Look (shown_in contents look))) (sym c.in-Category.is)

pub returns-in-User : goal.returns-in-User
returns-in-User c = λ contents. ap (λ look. target (Look (shown_in contents look))) (sym c.in-User.is)
