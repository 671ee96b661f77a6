use Rattle.std.proofs.Common.{◌≡◌, ◌∙◌, suc, length, arith, sym, subst}
use Rattle.item_shards.specs.Serial.{CanAdd}
use Rattle.auction_window.{proofs.Growing.{can_add, has_next}, specs.inner.Copies.{HasPhases}}
use Rattle.auction_window.proofs.auction_copy.AuctionCopyAbsorbAddPhase.absorb_first.Goals as goal
use Rattle.published_parts.proofs.Prefixes.{comparable_shorter}

pub add_rows-requires : goal.add_rows-requires
add_rows-requires g c =
    let W = g.J.WindowName in let old = c.self.inside.phases in
    let long : length c.added.inside.phases ≡ suc (length old) = omega (arith, c.len-count.ensures, c.len.ensures) in
    let held = subst (λ auction. HasPhases W.opening W.rows auction old) (sym c.take.ensures.value ∙ c.in-Some.is) c.self.invariant in
    let begins = comparable_shorter old c.added.inside.phases c.agrees.ensures (omega arith) in
    subst (CanAdd c.in-Some.auction) (sym c.deref.ensures.value) (can_add c.added.invariant old begins long c.in-Some.auction held)

pub invariant_of-self-2 : goal.invariant_of-self-2
invariant_of-self-2 g c =
    let W = g.J.WindowName in let old = c.self.inside.phases in
    let long : length c.added.inside.phases ≡ suc (length old) = omega (arith, c.len-count.ensures, c.len.ensures) in
    let held = subst (λ auction. HasPhases W.opening W.rows auction old) (sym c.take.ensures.value ∙ c.in-Some.is) c.self.invariant in
    let begins = comparable_shorter old c.added.inside.phases c.agrees.ensures (omega arith) in
    let added = rw c.deref.ensures.value at c.in_ok-add_rows.ensures.book in
    rw c.again.ensures (has_next c.added.invariant old begins long c.in-Some.auction held c.add_rows.new.self c.add_rows.ensures.opening added)

pub returns-clause-absorbed : goal.returns-clause-absorbed
returns-clause-absorbed g c = c.again.ensures ∙ c.added.view_is
