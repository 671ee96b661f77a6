use Rattle.std.proofs.Common.{arith, ◌∙◌, sym}
use Rattle.record_reading.proofs.{DigitLemmas.{more_behind}, PlainLineLemmas.{item_in_place}}
use Rattle.record_reading.proofs.plain_lines.item.Goals as goal

pub u32_to-requires-2-clause-within : goal.u32_to-requires-2-clause-within
u32_to-requires-2-clause-within c = more_behind _ _ _ _ _ c.requires.ends c.in_ok-seller.ensures.there (λ e. omega (arith, e))

pub next_field-requires-clause-within : goal.next_field-requires-clause-within
next_field-requires-clause-within c = more_behind _ _ _ _ _ c.requires.ends c.in_ok-category.ensures.there (λ e. omega (arith, e))

pub number_to-requires-2-clause-within : goal.number_to-requires-2-clause-within
number_to-requires-2-clause-within c = more_behind _ _ _ _ _ c.requires.ends c.in_ok-start.ensures.there (λ e. omega (arith, e))

pub put_up-requires-clause-within : goal.put_up-requires-clause-within
put_up-requires-clause-within c = more_behind _ _ _ _ _ c.requires.ends c.in_ok-closes.ensures.there (λ e. omega (arith, e))

pub returns : goal.returns
returns c =
    item_in_place c.args.text.now c.args.at c.in_ok-seller.seller c.in_ok-seller.at_category c.in_ok-category.category c.in_ok-category.at_name c.in_ok-field.field.now _
    c.in_ok-field.at_start c.in_ok-start.start c.in_ok-start.at_closes c.in_ok-closes.closes c.in_ok-closes.at_time c.in_ok-time.time _ c.in_ok-time.next
    c.in_ok-seller.ensures c.in_ok-category.ensures c.in_ok-field.ensures (sym c.read_name.ensures ∙ c.in_ok-name.was)
    c.in_ok-start.ensures c.in_ok-closes.ensures c.in_ok-time.ensures
