use Rattle.auction_run.proofs.parts.run_on.Goals as goal

pub run_on_shown-requires : goal.run_on_shown-requires
run_on_shown-requires g c = (c.type_bounds.sync-R, (c.type_bounds.sync-G, λ watched. absurd watched))

pub returns : goal.returns
returns g c = c.run_on_shown.ensures.answer
