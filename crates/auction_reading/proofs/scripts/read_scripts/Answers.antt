use Rattle.std.proofs.Common.{◌≡◌, Err, List, ap, subst, sym, ◌∙◌}
use Rattle.std.{proofs.lemmas.Result.{err_from_is_err_and}, specs.Prelude.{IfSome, Ok}}
use Rattle.auction_rows.specs.declared.requests.{Request.Request, Opened.Opened}
use Rattle.record_reading.specs.Asking.{Asked}
use Rattle.auction_reading.specs.Scripts.{input_of}
use Rattle.auction_reading.proofs.scripts.read_scripts.Goals as goal

abbrev asked : List Opened → List (List Request) → Asked
asked rows scripts = record { rows = rows; scripts = scripts }

pub returns-clause-input : goal.returns-clause-input
returns-clause-input g c =
    subst (λ scripts. IfSome (g.R.Read.remaining c.args.reader) (λ bytes. input_of c.args.workers bytes ≡ Ok (asked c.in_ok-rows.field-0.rows.items scripts)))
    (sym c.in-Ok.ensures.same) c.in_ok-rows.ensures.input

pub returns-clause-count : goal.returns-clause-count
returns-clause-count g c = c.in-Ok.ensures.count ∙ c.in_ok-rows.ensures.count

pub returns-in_err-rows-clause-fault : goal.returns-in_err-rows-clause-fault
returns-in_err-rows-clause-fault g c =
    let failed = err_from_is_err_and c.from_residual.result c.from_residual.ensures.1 in
    let fault : c.from_residual.result ≡ Err c.in_err-rows.field-0.0 = failed.1 ∙ ap Err failed.2 in
    rw fault c.in_err-rows.ensures.fault
