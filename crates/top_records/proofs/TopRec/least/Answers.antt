use Rattle.std.proofs.Common.{sym, ap, ◌∙◌, ◌∷◌}
use Rattle.phase_laws.specs.Ranking.{top}
use Rattle.top_records.proofs.Places.{past_least}
use Rattle.top_records.proofs.TopRec.least.Goals as goal

pub returns : goal.returns
returns g c entry past =
    ap (λ l. top g.E.Ord.cmp g.row.K (entry ∷ l)) (sym c.self.view_is)
    ∙ past_least g.met.E.Ord.total g.row.K entry c.self.inside.entries.items c.self.inside.least c.self.invariant.0 c.self.invariant.1 past
    ∙ c.self.view_is
