use Rattle.std.proofs.Common.{sym, ap, ◌∙◌}
use Rattle.auction_rows.specs.declared.requests.Object.TheVariants.{User}
use Rattle.item_shards.proofs.{Listed.{lies_below, read_at}, Stored.{contents_here}}
use Rattle.item_shards.specs.{Slices.{no_comments}, Values.{Value}}
use Rattle.item_shards.proofs.shard.Shard.user_record.Goals as goal

pub returns : goal.returns
returns c =
    let shard = c.args.self.now in
    let read = read_at no_comments shard.parts.value.users.items _ c.index.result.now (lies_below _ _ _ _ c.requires.known shard.parts.value.has_users) (rw (c.deref.ensures, c.deref-2.ensures) at c.index.ensures) in
    sym (ap (λ (value : Value). value.comments) (contents_here shard (User c.args.user) c.requires.here) ∙ read)
