use Rattle.std.proofs.{Common.{[], map, sym, ap, ◌∙◌, subst}, lemmas.Option.{IfSome_then}}
use Rattle.auction_rows.specs.Replies.{reply}
use Rattle.shard_boxes.specs.States.{state_of}
use Rattle.auction_shards.specs.Shards.{ShardsStandFor}
use Rattle.phase_floor.{proofs.Shards.{opening_kept}, specs.States.{JoinedState, states_of}}
use Rattle.phase_floor.proofs.joined.Joined.view.Goals as goal

pub returns-clause-book : goal.returns-clause-book
returns-clause-book c =
    let opening_is = opening_kept c.self.inside.opening c.self.inside.limit (map state_of c.self.inside.shards) c.self.inside.counters.items c.self.invariant ∙ ap (λ (s : JoinedState). s.opening) c.self.view_is in
    IfSome_then c.view.result c.view.ensures.book (λ seen each. λ book worker stands.
    each book worker (subst (λ (s : JoinedState). ShardsStandFor (states_of s) book []) (sym c.self.view_is) stands.shards)
    ∙ ap (λ opening. reply opening book worker c.args.request.now) opening_is)
