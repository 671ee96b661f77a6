use Rattle.std.proofs.Common.{sym, subst}
use Rattle.phase_laws.{proofs.TopLemmas.{IsDescending-top}, specs.Ranking.{IsDescending}}
use Rattle.top_records.proofs.TopRec.entries.Goals as goal

pub returns-clause-greatest_first : goal.returns-clause-greatest_first
returns-clause-greatest_first g c =
    subst (IsDescending g.E.Ord.cmp) (sym c.as_slice.ensures.value) (IsDescending-top g.met.E.Ord.total g.row.K c.self.inside.entries.items c.self.invariant.0)
