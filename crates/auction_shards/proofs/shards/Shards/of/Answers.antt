use Rattle.std.proofs.Common.{◌≡◌, List, [], length, map, get_or, sym, ap, ◌∙◌, subst, arith}
use Rattle.auction_rows.specs.Requests.{shard_of}
use Rattle.item_shards.specs.declared.shard.Shard.{Shard}
use Rattle.shard_boxes.specs.States.{state_of}
use Rattle.auction_shards.proofs.Views.{lies, opening_is, value_is, stands}
use Rattle.auction_shards.specs.Shards.{ShardsStandFor, opening_in, value_on}
use Rattle.auction_shards.specs.inner.Acting.{IsShardOf}
use Rattle.auction_shards.proofs.shards.Shards.of.Goals as goal

pub returns : goal.returns
returns c =
    let shards = c.self.inside.shards.items in let shard = c.index.result.now in
    let len : c.len.result ≡ length shards = omega (arith, c.len.ensures, c.self.inside.shards.ok.0) in
    let found : IsShardOf shards c.args.object shard = c.index.ensures ∙ ap (λ n. get_or shards n shard) (c.shard_of.ensures.shard ∙ ap (shard_of c.args.object) len) in
    record {
      here = lies shards c.self.invariant c.args.object shard found;
      opening = opening_is shards c.self.invariant c.args.object shard found ∙ ap (λ (shards : List Shard). opening_in (map state_of shards)) c.self.view_is;
      value = value_is shards c.self.invariant c.args.object shard found ∙ ap (λ (shards : List Shard). value_on (map state_of shards) c.args.object) c.self.view_is;
      books = λ book h. stands shards c.self.invariant c.args.object shard found book (subst (λ (shards : List Shard). ShardsStandFor (map state_of shards) book []) (sym c.self.view_is) h);
    }
