use Rattle.std.proofs.Common.{◌<◌, ◌≡◌, ◌∙◌, ap, arith, length, map, refl, subst, sym}
use Rattle.std.{proofs.lemmas.Option.{slice_get_read}, specs.Prelude.{Some, slice_get}}
use Rattle.worker_journals.proofs.AskedLemmas.{as_many_asked, has_request, request_there}
use Rattle.worker_journals.proofs.HeadListLemmas.{requests_alone, within_heads}
use Rattle.worker_journals.specs.inner.{Asked.{requests_of}, HeadLists.{HeadList, request_in}}
use Rattle.worker_journals.proofs.head_list.Heads.request.Goals as goal

pub index-requires : goal.index-requires
index-requires c =
    let h = c.self.inside in
    let within = subst (λ (l : HeadList). c.args.place < length l.heads) (sym c.self.view_is) c.requires in
    omega (arith, h.heads.ok.0, within_heads (requests_of h.asked h.heads.items) h.heads.items c.args.place (as_many_asked h.asked h.heads.items c.self.invariant) within)

pub request-requires : goal.request-requires
request-requires c =
    let h = c.self.inside in
    let within = within_heads (requests_of h.asked h.heads.items) h.heads.items c.args.place (as_many_asked h.asked h.heads.items c.self.invariant)
    (subst (λ (l : HeadList). c.args.place < length l.heads) (sym c.self.view_is) c.requires) in
    has_request h.asked h.heads.items c.args.place _ c.self.invariant within (slice_get_read h.heads.items (length h.heads.items) c.args.place _ refl within c.index.ensures)

pub returns : goal.returns
returns c =
    let h = c.self.inside in let same = as_many_asked h.asked h.heads.items c.self.invariant in
    let within = within_heads (requests_of h.asked h.heads.items) h.heads.items c.args.place same (subst (λ (l : HeadList). c.args.place < length l.heads) (sym c.self.view_is) c.requires) in
    let here = slice_get_read h.heads.items (length h.heads.items) c.args.place _ refl within c.index.ensures in
    subst (λ (l : HeadList). slice_get (map request_in l.heads) c.args.place ≡ Some c.request.result) c.self.view_is
    (ap (λ rs. slice_get rs c.args.place) (requests_alone (requests_of h.asked h.heads.items) h.heads.items same)
    ∙ request_there h.asked h.heads.items c.args.place _ _ here c.request.ensures)
