use Rattle.std.proofs.{Common.{ap, ◌∙◌, arith}, lemmas.Fmt.{parse-decimal}}
use Rattle.std.specs.Result.{result_ok}
use Rattle.example_ledger.proofs.ledger.number.Goals as goal

pub returns : goal.returns
returns c n few is = c.ok.ensures.value ∙ ap result_ok (parse-decimal 32 n c.args.text.now c.parse.result few (omega (arith, few)) is c.parse.ensures.value.0)
