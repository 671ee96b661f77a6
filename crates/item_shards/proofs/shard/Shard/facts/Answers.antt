use Rattle.std.proofs.Common.{Option, Some, None, IfSome, ap, sym, ◌∙◌, rules}
use Rattle.std.specs.Prelude.{is_some}
use Rattle.auction_rows.specs.declared.requests.{Facts.{Facts}, Object.TheVariants.{Item}}
use Rattle.item_shards.specs.{ShardContents.{HasItemRoom}, Values.{Value}}
use Rattle.item_shards.proofs.shard.Shard.facts.Goals as goal

pub returns-in-Some-clause-contents : goal.returns-in-Some-clause-contents
returns-in-Some-clause-contents c = search rules

pub returns-in-Some-clause-book : goal.returns-in-Some-clause-book
returns-in-Some-clause-book c book hot stands cold =
    returns-in-Some-clause-contents c ∙ ap (λ (v : Value). v.facts) (stands (Item c.args.item) c.requires.here cold)

pub returns-in-Some-clause-room : goal.returns-in-Some-clause-room
returns-in-Some-clause-room c =
    let room : HasItemRoom c.args.self.now c.args.item = sym (ap is_some c.in-Some.ensures) in
    at c.in-Some.record.now.facts room where
      at : {P : Type 0} (o : Option Facts) → P → IfSome o (λ _. P)
      at None p = tt
      at (Some _) p = p
