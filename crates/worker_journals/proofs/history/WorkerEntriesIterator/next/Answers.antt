use Rattle.std.proofs.{Common.{◌≡◌, ◌∙◌, [], sym, ap}, lemmas.List.{nil_from_length}}
use Rattle.worker_journals.proofs.HistoryLemmas.{own_end, own_next, own_past}
use Rattle.worker_journals.{proofs.StepLemmas.{goes_on}, specs.Merged.{entries_of}}
use Rattle.worker_journals.specs.inner.{Phases.{journals_of}, Places.{own_left}}
use Rattle.worker_journals.proofs.history.WorkerEntriesIterator.next.Goals as goal

pub returns-in-Some-clause-steps : goal.returns-in-Some-clause-steps
returns-in-Some-clause-steps c =
    let e = c.phases.self-inside in
    c.phases.invariant.left ∙ own_next e.worker e.place e.here.now (journals_of e.phases.now) _ (sym c.in-Some.ensures.entry)

pub returns-in-Some-clause-goes : goal.returns-in-Some-clause-goes
returns-in-Some-clause-goes c =
    let e = c.phases.self-inside in
    goes_on _ (λ _. tt) _ _ _ (c.phases.invariant.left ∙ own_next e.worker e.place e.here.now (journals_of e.phases.now) _ (sym c.in-Some.ensures.entry))

pub phases-preserved : goal.phases-preserved
phases-preserved c =
    let e = c.phases.self-inside in
    let left = c.phases.invariant.left ∙ ap (λ ps. own_left e.worker e.here.now e.place (journals_of ps)) c.in-Some-split_first.ensures.cases.0 in
    record {
      left = left ∙ own_past e.worker e.place e.here.now c.from_own-self-inside.result.now _ (journals_of c.in-Some-split_first.rest.now) (sym c.in_default.ensures.entry)
          (c.from_own-self-inside.ensures ∙ ap (entries_of e.worker) c.as_slice.ensures.value);
    }

pub returns-in_default-split_first-clause-steps : goal.returns-in_default-split_first-clause-steps
returns-in_default-split_first-clause-steps c =
    let e = c.phases.self-inside in
    let none : e.phases.now ≡ [] = nil_from_length e.phases.now c.in_default-split_first.ensures.cases in
    let left = ap (λ ps. own_left e.worker e.here.now e.place (journals_of ps)) none ∙ own_end e.worker e.place e.here.now (sym c.in_default.ensures.entry) in
    (c.phases.invariant.left ∙ left, left)
