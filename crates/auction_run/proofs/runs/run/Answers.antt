use Rattle.auction_run.proofs.runs.run.Goals as goal

pub returns : goal.returns
returns g c = c.run_shown.ensures.answer
