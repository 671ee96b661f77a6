use Rattle.std.{proofs.Common.{◌∙◌, ap, subst, sym}, specs.List.{AllByRecursion}}
use Rattle.worker_journals.proofs.AskedLemmas.{as_many_asked}
use Rattle.worker_journals.proofs.HeadListLemmas.{heads_of_script, within_script}
use Rattle.worker_journals.specs.inner.Asked.{HaveRequests, IsWithin, requests_of}
use Rattle.worker_journals.specs.inner.HeadLists.{HeadList, IsHeadOf, heads_of}
use Rattle.worker_journals.proofs.head_list.Heads.close_on.Goals as goal

pub invariant_of-self : goal.invariant_of-self
invariant_of-self c =
    let h = c.self.inside in
    let all = subst (λ (l : HeadList). AllByRecursion (IsHeadOf c.args.script) l.heads) (sym c.self.view_is) c.requires in
    subst (λ asked. HaveRequests asked c.shrink_to_fit.new.self.items) (sym c.replace-asked.ensures.after)
    (subst (AllByRecursion (IsWithin c.args.script)) (sym c.shrink_to_fit.ensures.items)
    (within_script c.args.script (requests_of h.asked h.heads.items) h.heads.items (as_many_asked h.asked h.heads.items c.self.invariant) all))

pub returns : goal.returns
returns c =
    let h = c.self.inside in
    let all = subst (λ (l : HeadList). AllByRecursion (IsHeadOf c.args.script) l.heads) (sym c.self.view_is) c.requires in
    (λ i. heads_of (requests_of (c.replace-asked.ensures.after i) (c.shrink_to_fit.ensures.items i)) (c.shrink_to_fit.ensures.items i))
    ∙ heads_of_script c.args.script (requests_of h.asked h.heads.items) h.heads.items (as_many_asked h.asked h.heads.items c.self.invariant) all
    ∙ ap (λ (l : HeadList). l.heads) c.self.view_is
