use Rattle.std.proofs.Common.{◌≡◌, ◌∙◌, ◌+◌, ◌*◌, suc, length, arith, sym, subst, ap}
use mathlib.Core.List.{IsPrefix}
use Rattle.std.specs.List.{AllByRecursion}
use Rattle.split_engine.specs.{Serial.{table_after}, declared.few.TheConstants.{MOST_KEYS}}
use Rattle.application_window.proofs.Growing.{is_within, has_next, longer_next, room_for}
use Rattle.application_window.specs.Published.{AreWithin}
use Rattle.application_window.proofs.table_copy.TableCopyAbsorbAddPart.absorb_first.Goals as goal

pub perform_part-requires-clause-within : goal.perform_part-requires-clause-within
perform_part-requires-clause-within g c =
    let rules = g.A.Application.rules in
    subst (AreWithin rules (length c.self.inside.table.items)) (sym c.deref.ensures.value) (is_within rules c.self.invariant c.added.invariant)

pub perform_part-requires-clause-fits : goal.perform_part-requires-clause-fits
perform_part-requires-clause-fits g c =
    let room = room_for c.self.inside.acts c.len-more.result c.self.invariant.few c.if-more-self.false in
    (c.self.inside.acts, omega (arith, room, c.len-more.ensures, ap length c.deref.ensures.value), c.self.invariant.fits)

pub invariant_of-self : goal.invariant_of-self
invariant_of-self g c =
    let rules = g.A.Application.rules in let old = c.self.inside.parts in let new = c.added.inside.parts in
    let acts = c.self.inside.acts in let more = c.len-more.result in
    let long : length new ≡ suc (length old) = omega (arith, c.len-count.ensures, c.len.ensures) in
    let same = longer_next old new c.longer.result c.longer.ensures.one c.longer.ensures.that (omega arith) in
    let begins = subst (λ parts. IsPrefix old parts) same c.longer.ensures.this in
    let as_many : more ≡ length c.added.inside.commits.items = c.len-more.ensures ∙ sym c.deref.ensures.len ∙ ap length c.deref.ensures.value in
    let performed = c.perform_part.ensures.table ∙ ap (table_after rules c.self.inside.table.items) c.deref.ensures.value in
    let acts_are : acts + MOST_KEYS * length c.deref.result.now ≡ acts + more * 4 = omega (arith, as_many, ap length c.deref.ensures.value) in
    let fits = subst (λ n. AllByRecursion (g.A.Application.fits n) c.perform_part.new.table.items) acts_are (c.perform_part.ensures.fits acts c.self.invariant.fits) in
    let room = room_for acts more c.self.invariant.few c.if-more-self.false in
    rw same (has_next rules c.self.invariant c.added.invariant begins long c.perform_part.new.table.items (acts + more * 4) (c.self.inside.commits + more)
    performed fits (omega (arith, as_many)) (omega (arith, room)) (omega (arith, as_many)))
