use Rattle.std.proofs.Common.{[], ◌∷◌, ◌++◌, map, sym, subst, arith}
use Rattle.auction_rows.specs.History.{GoOn}
use Rattle.shard_boxes.specs.States.{state_of}
use Rattle.phase_floor.proofs.RowLemmas.{book_taken, counted_back, kept_taken, writes}
use Rattle.phase_floor.specs.States.{IsBookOf, IsKept, JoinedState, joined_of}
use Rattle.phase_floor.specs.inner.Rows.{CanTake}
use Rattle.phase_floor.proofs.joined.Joined.add_row.Goals as goal

pub write-requires : goal.write-requires
write-requires c =
    let state = joined_of c.self.inside.opening c.self.inside.limit c.self.inside.phase c.self.inside.shards c.self.inside.counters.items in
    writes state c.args.row.now c.self.invariant (subst (λ (s : JoinedState). CanTake s c.args.row.now) (sym c.self.view_is) c.requires)

pub invariant_of-self-2 : goal.invariant_of-self-2
invariant_of-self-2 c =
    let r = c.args.row.now in let counters = c.self.inside.counters.items in let w = c.worker-worker.result in
    let state = joined_of c.self.inside.opening c.self.inside.limit c.self.inside.phase c.self.inside.shards counters in
    let take = subst (λ (s : JoinedState). CanTake s r) (sym c.self.view_is) c.requires in
    let counted = counted_back r counters w c.count_row.new.counters c.index_mut.result.now c.worker-worker.ensures (omega (arith, take.own, c.worker-worker.ensures)) c.index_mut.ensures.value c.count_row.ensures in
    subst (IsKept c.self.inside.opening c.self.inside.limit (map state_of c.write.new.self)) (sym counted) (kept_taken state r c.self.invariant take c.write.new.self c.in_ok-write.ensures.done)

pub returns-clause-book : goal.returns-clause-book
returns-clause-book c = λ book of goes_on.
    let r = c.args.row.now in let counters = c.self.inside.counters.items in let w = c.worker-worker.result in
    let state = joined_of c.self.inside.opening c.self.inside.limit c.self.inside.phase c.self.inside.shards counters in
    let take = subst (λ (s : JoinedState). CanTake s r) (sym c.self.view_is) c.requires in
    let counted = counted_back r counters w c.count_row.new.counters c.index_mut.result.now c.worker-worker.ensures (omega (arith, take.own, c.worker-worker.ensures)) c.index_mut.ensures.value c.count_row.ensures in
    subst (λ cs. IsBookOf (joined_of c.self.inside.opening c.self.inside.limit c.self.inside.phase c.write.new.self cs) (book ++ r ∷ [])) (sym counted)
    (book_taken state r c.self.invariant take c.write.new.self c.in_ok-write.ensures.done book
    (subst (λ (s : JoinedState). IsBookOf s book) (sym c.self.view_is) of) (subst (λ (s : JoinedState). GoOn s.opening book (r ∷ [])) (sym c.self.view_is) goes_on))
