use Rattle.std.proofs.{Common.{sym, ap, ◌∙◌, subst}, KnownBytes.{Appends-trans}}
use Rattle.std.specs.Io.KnownBytes.{Appends}
use Rattle.application_log.proofs.LogLemmas.{log_text-append, requests_of-append}
use Rattle.application_log.specs.Logs.{log_text, requests_of}
use Rattle.application_log.proofs.laws.parts_are_one_history.Goals as goal

pub returns : goal.returns
returns g c before between after first second one two =
    let line = g.A.Loggable.line in
    subst (Appends before after)
    (sym (ap (log_text line) (requests_of-append first second) ∙ log_text-append line (requests_of first) (requests_of second)))
    (Appends-trans before between after (log_text line (requests_of first)) (log_text line (requests_of second)) one two)
