use Rattle.std.proofs.Common.{◌≡◌, ◌++◌, ◌<◌, length, take, append_assoc, ap, sym, ◌∙◌, subst, arith}
use Rattle.std.specs.List.{AllByRecursion}
use Rattle.split_engine.specs.Serial.{IsWithin}
use Rattle.application_log.proofs.LogLemmas.{cut_text, lines_of-take-le, log_text-append, never, requests_of-append}
use Rattle.application_log.specs.Logs.{lines_of, log_text, requests_of}
use Rattle.application_log.specs.declared.loggable.TheConstants.{MOST_LINES}
use Rattle.application_log.proofs.laws.a_log_is_never_refused.Goals as goal
use Rattle.phase_laws.proofs.ListLemmas.{all-append, all-left, all-right, all-take}

pub returns : goal.returns
returns g c size n bytes history part fault all within few short is why =
    let s = g.A.Application in let line = g.A.Loggable.line in let fits = g.A.Loggable.is_in_range in
    let hs = requests_of history in let ps = requests_of part in
    let split = requests_of-append history part in
    let both = subst (AllByRecursion fits) split all in
    let in_table = subst (AllByRecursion (IsWithin s.rules size)) split within in
    let one = g.met.A.Loggable.one_line in let nothing = g.met.A.Loggable.does_nothing in
    let cut = cut_text s.rules line fits one nothing g.A.Loggable.is_cut g.met.A.Loggable.cut_anywhere ps n (all-right fits hs ps both) in
    let qs = hs ++ take cut.0 ps in
    let are = all-append fits hs (take cut.0 ps) (all-left fits hs ps both) (all-take fits cut.0 ps (all-right fits hs ps both)) in
    let have = all-append (IsWithin s.rules size) hs (take cut.0 ps) (all-left (IsWithin s.rules size) hs ps in_table)
    (all-take (IsWithin s.rules size) cut.0 ps (all-right (IsWithin s.rules size) hs ps in_table)) in
    let few_taken = lines_of-take-le line hs ps cut.0 in
    let few_all : length (lines_of line (hs ++ ps)) < MOST_LINES = subst (λ rs. length (lines_of line rs) < MOST_LINES) split few in
    let text : bytes ≡ log_text line qs ++ cut.1 =
    is ∙ ap (λ t. log_text line hs ++ t) cut.3 ∙ sym (append_assoc (log_text line hs) (log_text line (take cut.0 ps)) cut.1)
    ∙ ap (λ t. t ++ cut.1) (sym (log_text-append line hs (take cut.0 ps))) in
    never s.rules line fits one nothing g.A.Loggable.is_cut size fault qs cut.1 bytes are have (omega (arith, few_taken, few_all)) short cut.2 cut.4 text why
