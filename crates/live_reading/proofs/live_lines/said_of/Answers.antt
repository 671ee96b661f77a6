use Rattle.std.proofs.lemmas.Result.{IfOk-weaker}
use Rattle.csv.specs.Reading.{default_config, records}
use Rattle.live_reading.proofs.live_lines.said_of.Goals as goal

pub returns-clause-value : goal.returns-clause-value
returns-clause-value c =
    IfOk-weaker c.said_in.result _ _ (λ said says. says (records default_config c.args.line.now) c.line_reader-records.ensures) c.said_in.ensures.value
