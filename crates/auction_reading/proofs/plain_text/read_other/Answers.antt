use Rattle.std.proofs.lemmas.Result.{IfOk-weaker}
use Rattle.auction_reading.proofs.SaidLemmas.{reads_no_line}
use Rattle.auction_reading.proofs.plain_text.read_other.Goals as goal

pub returns-in-Some-clause-line : goal.returns-in-Some-clause-line
returns-in-Some-clause-line c = IfOk-weaker c.add_line.result _ _ (λ place reads. reads c.args.text.now c.in-Some.ensures) c.add_line.ensures.reads

pub returns-in-None-clause-line : goal.returns-in-None-clause-line
returns-in-None-clause-line c = reads_no_line c.args.progress.now c.args.text.now c.args.at c.requires.within c.requires.room
