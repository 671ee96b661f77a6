use Rattle.std.proofs.Common.{◌++◌, [], length, take, append_assoc, ap, sym, ◌∙◌, subst}
use Rattle.std.{proofs.lemmas.List.{append-nil}, specs.List.{AllByRecursion}}
use Rattle.application_log.proofs.LogLemmas.{after_history, cut_text, log_text-append, requests_of-append, same_table, take-requests}
use Rattle.application_log.specs.Logs.{after_requests, log_text, requests_of}
use Rattle.application_log.proofs.laws.what_is_acknowledged_is_there.Goals as goal
use Rattle.phase_laws.proofs.ListLemmas.{all-append, all-left, all-right, all-take}

pub returns-clause-acknowledged : goal.returns-clause-acknowledged
returns-clause-acknowledged g c opened left lines kept bytes history all is o =
    let s = g.A.Application in let line = g.A.Loggable.line in let qs = requests_of history in
    let same = same_table s.rules line g.A.Loggable.is_in_range g.met.A.Loggable.one_line g.met.A.Loggable.does_nothing qs o.requests opened o.behind []
    all o.opened.in_range o.opened.read_back o.cut tt (sym o.text ∙ is ∙ sym (append-nil (log_text line qs))) in (
      o.opened.leaves ∙ same.0 ∙ after_history s.rules opened history,
      o.opened.lines_are ∙ same.1,
      o.opened.kept_are ∙ ap length (sym (append-nil (log_text line o.requests)) ∙ ap (λ b. log_text line o.requests ++ b) (sym same.2) ∙ sym o.text),
    )

pub returns-clause-crashed : goal.returns-clause-crashed
returns-clause-crashed g c opened left lines kept n bytes history part all is o =
    let s = g.A.Application in let line = g.A.Loggable.line in let fits = g.A.Loggable.is_in_range in
    let hs = requests_of history in let ps = requests_of part in
    let both = subst (AllByRecursion fits) (requests_of-append history part) all in
    let cut = cut_text s.rules line fits g.met.A.Loggable.one_line g.met.A.Loggable.does_nothing g.A.Loggable.is_cut g.met.A.Loggable.cut_anywhere ps n (all-right fits hs ps both) in
    let k = cut.0 in
    let same = same_table s.rules line fits g.met.A.Loggable.one_line g.met.A.Loggable.does_nothing (hs ++ take k ps) o.requests opened o.behind cut.1
    (all-append fits hs (take k ps) (all-left fits hs ps both) (all-take fits k ps (all-right fits hs ps both)))
    o.opened.in_range o.opened.read_back o.cut cut.2
    (sym o.text ∙ is ∙ ap (λ t. log_text line hs ++ t) cut.3 ∙ sym (append_assoc (log_text line hs) (log_text line (take k ps)) cut.1)
    ∙ ap (λ t. t ++ cut.1) (sym (log_text-append line hs (take k ps)))) in (
      k,
      o.opened.leaves ∙ same.0
          ∙ ap (after_requests s.rules opened) (ap (λ qs. hs ++ qs) (take-requests k part) ∙ sym (requests_of-append history (take k part)))
          ∙ after_history s.rules opened (history ++ take k part),
    )
