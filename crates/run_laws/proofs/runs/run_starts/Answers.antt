use Rattle.run_laws.proofs.runs.run_starts.Goals as goal

pub returns : goal.returns
returns g c = λ opening start stands. record { replays = tt; stands = stands }
