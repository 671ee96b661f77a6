use Rattle.std.proofs.Common.{◌<◌, ◌≡◌, ◌∙◌, ap, arith, length, map, refl, subst, sym}
use Rattle.std.{proofs.lemmas.Option.{slice_get_read}, specs.Prelude.{Some, slice_get}}
use Rattle.worker_journals.proofs.AskedLemmas.{as_many_asked}
use Rattle.worker_journals.proofs.HeadListLemmas.{heads_alone, within_heads}
use Rattle.worker_journals.specs.inner.{Asked.{requests_of}, HeadLists.{HeadList, head_in}}
use Rattle.worker_journals.proofs.head_list.Heads.head.Goals as goal

pub index-requires : goal.index-requires
index-requires c =
    let h = c.self.inside in
    let within = subst (λ (l : HeadList). c.args.place < length l.heads) (sym c.self.view_is) c.requires in
    omega (arith, h.heads.ok.0, within_heads (requests_of h.asked h.heads.items) h.heads.items c.args.place (as_many_asked h.asked h.heads.items c.self.invariant) within)

pub returns : goal.returns
returns c =
    let h = c.self.inside in let same = as_many_asked h.asked h.heads.items c.self.invariant in
    let within = within_heads (requests_of h.asked h.heads.items) h.heads.items c.args.place same (subst (λ (l : HeadList). c.args.place < length l.heads) (sym c.self.view_is) c.requires) in
    subst (λ (l : HeadList). slice_get (map head_in l.heads) c.args.place ≡ Some c.index.result.now) c.self.view_is
    (ap (λ hs. slice_get hs c.args.place) (heads_alone (requests_of h.asked h.heads.items) h.heads.items same)
    ∙ slice_get_read h.heads.items (length h.heads.items) c.args.place _ refl within c.index.ensures)
