use Rattle.std.proofs.lemmas.Result.{IfOk-weaker}
use Rattle.auction_reading.proofs.plain_text.read_line.Goals as goal

pub returns-in-Some-clause-line : goal.returns-in-Some-clause-line
returns-in-Some-clause-line c = IfOk-weaker c.add_line.result _ _ (λ place reads. reads c.args.text.now c.in-Some.ensures.says) c.add_line.ensures.reads
