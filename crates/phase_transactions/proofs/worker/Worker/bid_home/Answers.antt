use Rattle.std.proofs.Common.{length, refl, ◌∙◌}
use Rattle.phase_transactions.proofs.HomeLemmas.{asked, asks_one}
use Rattle.request_scripts.specs.Scripts.{request_of}
use Rattle.phase_transactions.proofs.worker.Worker.bid_home.Goals as goal

pub returns-clause-may : goal.returns-clause-may
returns-clause-may g c =
    let w = c.args.self.now in let n = length g.N.PhaseName.initial in
    record {
      allowed = c.requires;
      goes = refl;
      homes_are = (c.home.ensures.at, refl);
      asked = λ t. asked w n (request_of c.args.bid.now) _ c.requires refl t ∙ asks_one n w.slices _ c.home.result c.home.ensures.at t;
    }
