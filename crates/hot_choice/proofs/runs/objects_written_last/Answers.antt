use Rattle.std.proofs.Common.{◌≡◌, List, ◌++◌, ◌∷◌, [], take, sym, ap, subst, ◌∙◌}
use Rattle.std.proofs.lemmas.List.{take_all, take_more}
use Rattle.auction_rows.specs.{Choosing.{objects_written}, declared.requests.Object.{Object}}
use Rattle.worker_journals.{proofs.MergedLemmas.{all_entries}, specs.Merged.{merged}}
use Rattle.hot_choice.proofs.RunLemmas.{written_in_turn, written_in_any_order}
use Rattle.hot_choice.specs.inner.Runs.{AreWritten, objects_of}
use Rattle.hot_choice.proofs.runs.objects_written_last.Goals as goal

pub loop-journal-init : goal.loop-journal-init
loop-journal-init c = ap objects_of c.in_ok-runs.ensures.items

pub loop-journal-preserved : goal.loop-journal-preserved
loop-journal-preserved c =
    let journals = c.last_phase-journals.result.now in let i = c.loop-journal.journal-index in
    let journal = c.journal-item.result in
    c.in_ok-add_objects.ensures
    ∙ ap (λ (os : List Object). os ++ objects_written journal.entries) c.loop-journal.invariant
    ∙ sym (written_in_turn (take i journals) journal)
    ∙ ap (λ js. objects_written (all_entries js)) (sym (take_more journals i journal c.loop-journal-test.true ∙ ap (λ x. take i journals ++ x ∷ []) (sym c.journal-item.is)))

pub returns : goal.returns
returns c =
    let journals = c.last_phase-journals.result.now in
    let all : objects_of c.loop-journal.runs.items ≡ objects_written (all_entries journals) =
    c.loop-journal.invariant ∙ ap (λ js. objects_written (all_entries js)) (take_all c.loop-journal.journal-index journals c.loop-journal-test.false) in
    subst (λ js. AreWritten (merged js) (objects_of c.loop-journal.runs.items)) c.last_phase-journals.ensures.last
    (subst (AreWritten (merged journals)) (sym all) (written_in_any_order journals))
