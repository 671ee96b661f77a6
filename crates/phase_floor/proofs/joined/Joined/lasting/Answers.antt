use Rattle.std.proofs.Common.{map, sym, ap, subst}
use Rattle.shard_boxes.specs.States.{state_of}
use Rattle.phase_floor.{proofs.NextRunLemmas.{kept_longer}, specs.NextRun.{lasting}}
use Rattle.phase_floor.specs.States.{IsBookOf}
use Rattle.phase_floor.proofs.joined.Joined.lasting.Goals as goal

pub invariant_of-result : goal.invariant_of-result
invariant_of-result c = kept_longer c.self.inside.opening c.self.inside.limit (map state_of c.self.inside.shards) c.self.inside.counters.items c.self.invariant

pub returns-clause-lasts : goal.returns-clause-lasts
returns-clause-lasts c = ap lasting c.self.view_is

pub returns-clause-books : goal.returns-clause-books
returns-clause-books c = λ book of.
    let own = subst (λ state. IsBookOf state book) (sym c.self.view_is) of in record { is_book = own.is_book; own = own.own; stands = own.stands }
