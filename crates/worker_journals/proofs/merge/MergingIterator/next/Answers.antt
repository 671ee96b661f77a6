use Rattle.std.proofs.Common.{◌∙◌, sym, ap, get_or}
use Rattle.worker_journals.proofs.StepLemmas.{all_told, has_entry, one_told, merging_on, goes_on}
use Rattle.worker_journals.proofs.merge.MergingIterator.next.Goals as goal

pub returns-in_default-clause-steps : goal.returns-in_default-clause-steps
returns-in_default-clause-steps c =
    let m = c.self.inside in
    let told = sym c.self.view_is ∙ all_told 16 m.journals.now m.places m.numbers c.self.invariant c.in_default.ensures.none in
    (told, told)

pub entry-entry-requires : goal.entry-entry-requires
entry-entry-requires c =
    let m = c.self.inside in let r = c.index-self-worker in
    has_entry 16 m.journals.now m.places m.numbers c.self.invariant _ (get_or m.journals.now c.in-Some.worker r.result) c.in-Some.ensures.least
    (ap (get_or m.journals.now c.in-Some.worker) r.is)

pub invariant_of-self : goal.invariant_of-self
invariant_of-self c =
    let m = c.self.inside in let r = c.index-self-worker in
    merging_on 16 m.journals.now m.places m.numbers c.self.invariant _ (get_or m.journals.now c.in-Some.worker r.result) c.in-Some.ensures.least
    (ap (get_or m.journals.now c.in-Some.worker) r.is) _ c.number_at.ensures.number

pub returns-clause-steps : goal.returns-clause-steps
returns-clause-steps c =
    let m = c.self.inside in let r = c.index-self-worker in
    sym c.self.view_is
    ∙ one_told 16 m.journals.now m.places m.numbers c.self.invariant _ (get_or m.journals.now c.in-Some.worker r.result) c.in-Some.ensures.least
    (ap (get_or m.journals.now c.in-Some.worker) r.is) _ c.entry-entry.ensures.entry

pub returns-clause-goes : goal.returns-clause-goes
returns-clause-goes c =
    let m = c.self.inside in let r = c.index-self-worker in
    goes_on _ (λ _. tt) _ _ _ (sym c.self.view_is
    ∙ one_told 16 m.journals.now m.places m.numbers c.self.invariant _ (get_or m.journals.now c.in-Some.worker r.result) c.in-Some.ensures.least
    (ap (get_or m.journals.now c.in-Some.worker) r.is) _ c.entry-entry.ensures.entry)
