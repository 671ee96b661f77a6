use Rattle.auction_reading.proofs.by_threads.read_scripts_by_threads.Goals as goal

pub returns-clause-input : goal.returns-clause-input
returns-clause-input g c = c.read_input.ensures.input

pub returns-clause-count : goal.returns-clause-count
returns-clause-count g c = c.read_input.ensures.count

pub returns-clause-fault : goal.returns-clause-fault
returns-clause-fault g c = c.read_input.ensures.fault
