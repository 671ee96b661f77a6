use Rattle.std.proofs.Common.{refl}
use Rattle.split_engine.proofs.Splits.{replay, opened_merged}
use Rattle.split_engine.proofs.laws.split_phases_replay.Goals as goal

pub returns-clause-replays : goal.returns-clause-replays
returns-clause-replays g c table all h =
    replay g.A.Application.rules g.A.Application.fits g.A.Application.slice_fits g.A.Application.is_small g.met.A.Application.laws table table all (λ key. refl) h

pub returns-clause-merged : goal.returns-clause-merged
returns-clause-merged g c n table journals all fit i h =
    opened_merged g.A.Application.rules g.A.Application.fits g.A.Application.slice_fits g.A.Application.is_small g.met.A.Application.laws table n journals all fit i h
