use Rattle.std.proofs.Common.{◌∙◌, ap, [], map, length, ◌<◌, sym, subst}
use Rattle.std.proofs.lemmas.List.Elements.{All-from_recursion}
use Rattle.auction_rows.specs.Book.{worker_of}
use Rattle.shard_boxes.specs.States.{state_of}
use Rattle.closing_laws.specs.Standing.{StandFor}
use Rattle.phase_floor.proofs.NextRunLemmas.{kept_next, stand_next, stores_within}
use Rattle.phase_floor.specs.NextRun.{for_next_run}
use Rattle.phase_floor.specs.States.{joined_of, HasNoBook, IsKept, StandsFor}
use Rattle.phase_floor.proofs.joined.Joined.for_next_run.Goals as goal

pub set_commits-requires : goal.set_commits-requires
set_commits-requires c = stores_within c.self.inside.counters.items c.self.invariant.most

pub invariant_of-result : goal.invariant_of-result
invariant_of-result c =
    let states = map state_of c.self.inside.shards in
    subst (λ counters. IsKept c.self.inside.opening c.self.inside.limit states counters) (sym c.set_commits.ensures) (kept_next c.self.inside.counters.items c.self.inside.opening c.self.inside.limit states c.self.invariant)

pub returns-clause-stands : goal.returns-clause-stands
returns-clause-stands c = λ book stands.
    let states = map state_of c.self.inside.shards in
    subst (λ counters. StandFor states counters book []) (sym c.set_commits.ensures)
    (stand_next c.self.inside.counters.items states book (subst (λ state. StandsFor state book) (sym c.self.view_is) stands))

pub returns-clause-of_a_book : goal.returns-clause-of_a_book
returns-clause-of_a_book c = λ none.
    c.self.invariant.of_a_book (λ book is_book own stands. subst HasNoBook (sym c.self.view_is) none book (record {
      is_book = is_book;
      own = All-from_recursion (λ row. worker_of row < length c.self.inside.counters.items) book own;
      stands = stands;
    }))

pub returns-clause-next : goal.returns-clause-next
returns-clause-next c =
    ap (λ counters. joined_of c.self.inside.opening c.self.inside.limit 0 c.self.inside.shards counters) c.set_commits.ensures ∙ ap for_next_run c.self.view_is
