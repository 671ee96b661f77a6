use Rattle.std.proofs.Common.{◌∙◌, ◌++◌, List, ap, ap₂, map}
use Rattle.auction_rows.specs.declared.requests.Facts.{Facts}
use Rattle.request_scripts.proofs.AppendLemmas.{appended}
use Rattle.request_scripts.specs.declared.short_request.ShortRequest.{ShortRequest}
use Rattle.request_scripts.specs.inner.Shifting.{shifted}
use Rattle.request_scripts.proofs.script.Script.append.Goals as goal

pub invariant_of-self-2 : goal.invariant_of-self-2
invariant_of-self-2 c =
    let s = c.self.inside in let o = c.other.inside in let before = c.len-before.result in
    (appended s.facts.items o.facts.items c.extend_from_slice.new.self.items s.requests.items o.requests.items c.push_after.new.requests.items before c.self.invariant c.other.invariant
    (c.in_ok-extend_from_slice.ensures.items ∙ ap (λ (facts : List Facts). s.facts.items ++ facts) c.deref.ensures.value) (c.len-before.ensures ∙ s.facts.ok.0)
    (c.push_after.ensures ∙ ap₂ (λ (front back : List ShortRequest). front ++ map (shifted before) back) c.make_room_for.ensures.same c.deref-2.ensures.value)).0

pub returns-clause-appended : goal.returns-clause-appended
returns-clause-appended c =
    let s = c.self.inside in let o = c.other.inside in let before = c.len-before.result in
    (appended s.facts.items o.facts.items c.extend_from_slice.new.self.items s.requests.items o.requests.items c.push_after.new.requests.items before c.self.invariant c.other.invariant
    (c.in_ok-extend_from_slice.ensures.items ∙ ap (λ (facts : List Facts). s.facts.items ++ facts) c.deref.ensures.value) (c.len-before.ensures ∙ s.facts.ok.0)
    (c.push_after.ensures ∙ ap₂ (λ (front back : List ShortRequest). front ++ map (shifted before) back) c.make_room_for.ensures.same c.deref-2.ensures.value)).1
    ∙ (λ i. c.self.view_is i ++ c.other.view_is i)
