use Rattle.std.proofs.Common.{[], map, sym, ap, ◌∙◌, subst}
use Rattle.shard_boxes.specs.States.{state_of}
use Rattle.auction_shards.specs.Shards.{ShardsStandFor, value_on}
use Rattle.phase_floor.{proofs.Shards.{opening_kept}, specs.States.{JoinedState, states_of}}
use Rattle.phase_floor.proofs.joined.Joined.shard.Goals as goal

pub returns : goal.returns
returns c = record {
  here = c.of.ensures.here;
  opening = c.of.ensures.opening
      ∙ opening_kept c.self.inside.opening c.self.inside.limit (map state_of c.self.inside.shards) c.self.inside.counters.items c.self.invariant ∙ ap (λ (s : JoinedState). s.opening) c.self.view_is;
  value = c.of.ensures.value ∙ ap (λ (s : JoinedState). value_on (states_of s) c.args.object) c.self.view_is;
  books = λ book h. c.of.ensures.books book (subst (λ (s : JoinedState). ShardsStandFor (states_of s) book []) (sym c.self.view_is) h.shards);
}
