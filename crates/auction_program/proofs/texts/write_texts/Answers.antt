use Rattle.std.proofs.Common.{◌≡◌, [], if◌then◌else◌, ap, inr, subst, sym}
use Rattle.std.proofs.{KnownBytes.{Appends-trans}, lemmas.Result.{IfErr-weaker, on_ok_weaker}}
use Rattle.std.specs.Io.KnownBytes.{Appends}
use Rattle.auction_rows.specs.History.{book_after}
use Rattle.byte_texts.specs.{Writing.{IsPartWritten}, declared.writing.WriteFault.{WriteFault}}
use Rattle.program_opening.specs.Options.{opening_asked}
use Rattle.auction_program.proofs.WrittenLemmas.{nothing_added, report_added}
use Rattle.auction_program.specs.Execution.{ArePartWritten, IsOneWritten}
use Rattle.auction_program.specs.{Report.{report_of}, inner.Performing.{added_of, commits_of}}
use Rattle.auction_program.proofs.texts.write_texts.Goals as goal
use Rattle.auction_run.specs.Phases.{hot_sets}
use Rattle.program_serving.proofs.TextLemmas.{part_of_added}

pub returns-in-Some : goal.returns-in-Some
returns-in-Some g c =
    let old = g.W.Write.contents c.args.writer.now in
    let mid = g.W.Write.contents c.write_commits.new.writer in
    let new = g.W.Write.contents c.write_report.new.writer in let texts = c.args.texts in
    let options = texts.options.now in let rows = texts.rows.now in
    let history = texts.performed.now.history.entries in
    let hot = hot_sets texts.performed.now.hot.items in
    let text = commits_of texts in let added = added_of texts in
    let first : Appends old mid text = c.in_ok-write_commits.ensures.whole in
    let report_is = report_added options.report (opening_asked options) (book_after (opening_asked options) rows history) history hot _ _ _ c.in-Some.is c.requires
    (ap (λ sets. hot_sets sets) c.deref.ensures.value) c.if-not-texts.false in record {
      whole = on_ok_weaker c.write_report.result
          (λ whole. Appends-trans old mid new text added first (subst (Appends mid new) report_is whole)) c.write_report.ensures.whole;
      part = IfErr-weaker c.write_report.result _ (λ fault. fault ≡ WriteFault.Write → ArePartWritten old new text added)
          (λ fault part is. part_of_added old mid new text added first (subst (IsPartWritten mid new) report_is (part is))) c.write_report.ensures.part;
      memory = IfErr-weaker c.write_report.result _ (λ fault. fault ≡ WriteFault.Memory → IsOneWritten options old new text added)
          (λ fault kept is. inr (c.if-not-texts.false, subst (λ w. Appends old (g.W.Write.contents w) text) (sym (kept is)) first)) c.write_report.ensures.memory;
    }

pub returns-in-None-clause-memory : goal.returns-in-None-clause-memory
returns-in-None-clause-memory g c = λ _. inr (c.if-not-texts.false, c.in_ok-write_commits.ensures.whole)

pub returns-then-not-texts-clause-whole : goal.returns-then-not-texts-clause-whole
returns-then-not-texts-clause-whole g c =
    let texts = c.args.texts in let options = texts.options.now in
    let rows = texts.rows.now in let history = texts.performed.now.history.entries in
    let hot = hot_sets texts.performed.now.hot.items in
    let new = g.W.Write.contents c.write_commits.new.writer in
    nothing_added (g.W.Write.contents c.args.writer.now) new (commits_of texts) (added_of texts)
    (ap (λ b. if b then report_of (opening_asked options) (book_after (opening_asked options) rows history) history hot else []) c.if-not-texts.true)
    c.in_ok-write_commits.ensures.whole
