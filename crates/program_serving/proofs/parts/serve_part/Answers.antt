use Rattle.std.proofs.Common.{◌∙◌, ℕ, List, ap, inl, subst, sym}
use Rattle.std.proofs.lemmas.Result.{IfErr-weaker, IfOk-weaker}
use Rattle.auction_rows.specs.Book.{Book}
use Rattle.auction_text.specs.{Moved.{BeforeView, gone_by}, Scripts.{asked_of}}
use Rattle.program_opening.{proofs.ErrorLemmas.{error_is}, specs.declared.faults.Fault.{Fault}}
use Rattle.program_serving.{proofs.ToldLemmas.{nothing_told}, specs.Serving.{told_by}}
use Rattle.program_serving.specs.inner.Parts.{BeginsPart, FailsPart, ServesDone, gone_with}
use Rattle.program_serving.proofs.parts.serve_part.Goals as goal

pub returns : goal.returns
returns g c =
    let accepted = g.L.Log.accepted in let contents = g.W.Write.contents in
    let options = c.args.options.now in let part = c.args.part in
    let old = c.args.teller.now.teller in let new = c.perform_part.new.teller.teller in
    let e = c.in_ok-begun.ensures in
    let Holds : List ℕ → List ℕ → Type 0 = (told_by accepted contents old new).whole in record {
      serves = IfOk-weaker c.perform_part.result _ (λ done. (book : Book) → BeginsPart options part book → ServesDone options book (gone_by part.served.before) (asked_of part.input) done.past done.served Holds)
          (λ done serves book begins. subst (λ (b : BeforeView). ServesDone options book (gone_by b) (asked_of part.input) done.past done.served Holds) e.before
          (serves book (asked_of part.input) (e.begins book begins))) c.perform_part.ensures.serves;
      rows = IfOk-weaker c.perform_part.result _ _ (λ done same. same ∙ e.rows) c.perform_part.ensures.rows;
      has = IfOk-weaker c.perform_part.result _ _ (λ done has. has e.has) c.perform_part.ensures.has;
      cause = IfErr-weaker c.perform_part.result _ (λ (f : Fault). (book : Book) → BeginsPart options part book
          → FailsPart (told_by accepted contents old new) options book (gone_by part.served.before) part.served.rows (asked_of part.input) f)
          (λ fault why book begins. subst (λ (b : BeforeView). FailsPart (told_by accepted contents old new) options book (gone_by b) part.served.rows (asked_of part.input) fault) e.before
          (why book (asked_of part.input) part.served.rows (e.begins book begins))) c.perform_part.ensures.cause;
      errors = c.perform_part.ensures.errors;
    }

pub perform_part-requires-clause-next : goal.perform_part-requires-clause-next
perform_part-requires-clause-next g c = λ lives within. c.in_ok-begun.ensures.next ∙ sym (ap (λ (b : BeforeView). gone_with (gone_by b) 0 c.in_ok-begun.begun.scripts.items) c.in_ok-begun.ensures.before)

pub returns-in_err-begun-clause-cause : goal.returns-in_err-begun-clause-cause
returns-in_err-begun-clause-cause g c =
    let accepted = g.L.Log.accepted in let contents = g.W.Write.contents in
    let options = c.args.options.now in let part = c.args.part in
    let teller = c.args.teller.now.teller in
    error_is c.from_residual.result c.in_err-begun.field-0.0 (λ (f : Fault). (book : Book) → BeginsPart options part book
    → FailsPart (told_by accepted contents teller teller) options book (gone_by part.served.before) part.served.rows (asked_of part.input) f) c.from_residual.ensures
    (λ book begins.
    let no = c.in_err-begun.ensures.cause book begins in
    record { past = no.0; are = no.1.0; fails = inl (nothing_told accepted contents teller, no.1.1) })
