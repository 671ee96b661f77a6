use Rattle.std.proofs.Common.{◌∙◌, ap, subst, sym}
use Rattle.worker_journals.specs.inner.Asked.{HaveRequests, requests_of}
use Rattle.worker_journals.specs.inner.HeadLists.{HeadList, heads_of}
use Rattle.worker_journals.proofs.head_list.Heads.shrink_to_fit.Goals as goal

pub invariant_of-self : goal.invariant_of-self
invariant_of-self c =
    subst (HaveRequests c.shrink_to_fit.new.self) (sym c.shrink_to_fit-2.ensures.items) (c.shrink_to_fit.ensures.have c.self.inside.heads.items c.self.invariant)

pub returns : goal.returns
returns c =
    let h = c.self.inside in
    (λ i. heads_of (requests_of c.shrink_to_fit.new.self (c.shrink_to_fit-2.ensures.items i)) (c.shrink_to_fit-2.ensures.items i))
    ∙ ap (λ rs. heads_of rs h.heads.items) (c.shrink_to_fit.ensures.requests h.heads.items)
    ∙ ap (λ (l : HeadList). l.heads) c.self.view_is
