use Rattle.std.proofs.Common.{sym, ap, ◌∙◌}
use Rattle.auction_rows.specs.declared.requests.Object.TheVariants.{Category}
use Rattle.item_shards.proofs.{Listed.{lies_below, read_at}, Stored.{contents_here}}
use Rattle.item_shards.specs.{Slices.{no_items}, Values.{Value}}
use Rattle.item_shards.proofs.shard.Shard.category_record.Goals as goal

pub returns : goal.returns
returns c =
    let shard = c.args.self.now in
    let read = read_at no_items shard.parts.value.categories.items _ c.index.result.now (lies_below _ _ _ _ c.requires.known shard.parts.value.has_categories) (rw (c.deref.ensures, c.deref-2.ensures) at c.index.ensures) in
    sym (ap (λ (value : Value). value.items) (contents_here shard (Category c.args.category) c.requires.here) ∙ read)
