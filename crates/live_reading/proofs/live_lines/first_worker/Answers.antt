use Rattle.std.proofs.lemmas.Result.{IfOk-weaker}
use Rattle.csv.specs.Reading.{default_config, records}
use Rattle.live_reading.proofs.live_lines.first_worker.Goals as goal

pub returns-clause-value : goal.returns-clause-value
returns-clause-value c =
    IfOk-weaker c.worker_in.result _ _ (λ worker names. names (records default_config c.args.text.now) c.line_reader-records.ensures) c.worker_in.ensures.value
