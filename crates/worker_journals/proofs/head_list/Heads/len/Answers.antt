use Rattle.std.proofs.Common.{◌∙◌, ap, arith, length, sym}
use Rattle.worker_journals.proofs.{AskedLemmas.{as_many_asked}, HeadListLemmas.{as_many}}
use Rattle.worker_journals.specs.inner.{Asked.{requests_of}, HeadLists.{HeadList}}
use Rattle.worker_journals.proofs.head_list.Heads.len.Goals as goal

pub returns-clause-len : goal.returns-clause-len
returns-clause-len c =
    let h = c.self.inside in
    c.len.ensures ∙ h.heads.ok.0 ∙ sym (as_many (requests_of h.asked h.heads.items) h.heads.items (as_many_asked h.asked h.heads.items c.self.invariant))
    ∙ ap (λ (l : HeadList). length l.heads) c.self.view_is

pub returns-clause-fits : goal.returns-clause-fits
returns-clause-fits c = omega (arith, c.self.inside.heads.small, ap (λ (l : HeadList). l.room) c.self.view_is)
