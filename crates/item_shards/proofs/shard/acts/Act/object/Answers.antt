use Rattle.std.proofs.Common.{sym, ap, ◌∙◌}
use Rattle.item_shards.specs.{Contents.{target}, Looking.{event_at}, declared.shard.acts.Act.{Act}}
use Rattle.item_shards.proofs.shard.acts.Act.object.Goals as goal

pub returns-in-AddItem : goal.returns-in-AddItem
returns-in-AddItem c = λ contents. ap (λ (act : Act). target (event_at contents act)) (sym c.in-AddItem.is)

pub returns-in-ListItem : goal.returns-in-ListItem
returns-in-ListItem c = λ contents. ap (λ (act : Act). target (event_at contents act)) (sym c.in-ListItem.is)

pub returns-in-Bid : goal.returns-in-Bid
returns-in-Bid c = λ contents. ap (λ (act : Act). target (event_at contents act)) (sym c.in-Bid.is)

pub returns-in-Comment : goal.returns-in-Comment
returns-in-Comment c = λ contents. ap (λ (act : Act). target (event_at contents act)) (sym c.in-Comment.is)

pub returns-in-Buy : goal.returns-in-Buy
returns-in-Buy c = λ contents. ap (λ (act : Act). target (event_at contents act)) (sym c.in-Buy.is)

pub returns-in-Look : goal.returns-in-Look
returns-in-Look c = λ contents. c.object.ensures contents ∙ ap (λ (act : Act). target (event_at contents act)) (sym c.in-Look.is)
