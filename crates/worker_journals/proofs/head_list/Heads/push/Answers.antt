use Rattle.std.proofs.Common.{◌<◌, ◌∷◌, ◌++◌, ◌∙◌, [], ap, arith, length, min, subst, sym}
use Rattle.worker_journals.proofs.AskedLemmas.{as_many_asked, can_keep, have_more, more_requests, same_room}
use Rattle.worker_journals.proofs.HeadListLemmas.{as_many, one_more_head}
use Rattle.worker_journals.specs.inner.Asked.{requests_of, room_of}
use Rattle.worker_journals.specs.inner.HeadLists.{HeadList, asked_head, head_by, heads_of}
use Rattle.worker_journals.proofs.head_list.Heads.push.Goals as goal

pub push-requires : goal.push-requires
push-requires c =
    let h = c.self.inside in
    let room = subst (λ (l : HeadList). length l.heads < l.room) (sym c.self.view_is) c.requires in
    can_keep h.asked h.heads.items c.self.invariant (omega (arith, room, as_many (requests_of h.asked h.heads.items) h.heads.items (as_many_asked h.asked h.heads.items c.self.invariant)))

pub push_reserved-requires : goal.push_reserved-requires
push_reserved-requires c =
    let h = c.self.inside in
    let room = subst (λ (l : HeadList). length l.heads < l.room) (sym c.self.view_is) c.requires in
    omega (arith, room, h.heads.ok.0, as_many (requests_of h.asked h.heads.items) h.heads.items (as_many_asked h.asked h.heads.items c.self.invariant))

pub invariant_of-self : goal.invariant_of-self
invariant_of-self c =
    let h = c.self.inside in
    let room = subst (λ (l : HeadList). length l.heads < l.room) (sym c.self.view_is) c.requires in
    let can = can_keep h.asked h.heads.items c.self.invariant (omega (arith, room, as_many (requests_of h.asked h.heads.items) h.heads.items (as_many_asked h.asked h.heads.items c.self.invariant))) in
    rw (c.push.ensures, c.push_reserved.ensures.items) (have_more c.args.request.now (head_by c.args.number c.args.index c.args.reply) h.heads.items h.asked can c.self.invariant)

pub returns-clause-heads : goal.returns-clause-heads
returns-clause-heads c =
    let h = c.self.inside in
    let room = subst (λ (l : HeadList). length l.heads < l.room) (sym c.self.view_is) c.requires in
    let same = as_many_asked h.asked h.heads.items c.self.invariant in
    let can = can_keep h.asked h.heads.items c.self.invariant (omega (arith, room, as_many (requests_of h.asked h.heads.items) h.heads.items same)) in
    let head = head_by c.args.number c.args.index c.args.reply in
    (λ i. heads_of (requests_of (c.push.ensures i) (c.push_reserved.ensures.items i)) (c.push_reserved.ensures.items i))
    ∙ ap (λ rs. heads_of rs (h.heads.items ++ head ∷ [])) (more_requests c.args.request.now head h.heads.items h.asked can)
    ∙ one_more_head (requests_of h.asked h.heads.items) h.heads.items c.args.request.now head same
    ∙ ap (λ (l : HeadList). l.heads ++ asked_head head c.args.request.now ∷ []) c.self.view_is

pub returns-clause-room : goal.returns-clause-room
returns-clause-room c =
    let h = c.self.inside in
    let room = subst (λ (l : HeadList). length l.heads < l.room) (sym c.self.view_is) c.requires in
    let can = can_keep h.asked h.heads.items c.self.invariant (omega (arith, room, as_many (requests_of h.asked h.heads.items) h.heads.items (as_many_asked h.asked h.heads.items c.self.invariant))) in
    let kept = ap room_of c.push.ensures ∙ same_room c.args.request.now h.asked can in
    (λ i. min (kept i) (c.push_reserved.ensures.capacity i)) ∙ ap (λ (l : HeadList). l.room) c.self.view_is
