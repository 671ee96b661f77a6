use Rattle.std.proofs.Common.{arith, ◌∙◌, sym}
use Rattle.record_reading.proofs.{DigitLemmas.{more_behind}, PlainLineLemmas.{comment_in_place}}
use Rattle.record_reading.proofs.plain_lines.comment.Goals as goal

pub u32_to-requires-2-clause-within : goal.u32_to-requires-2-clause-within
u32_to-requires-2-clause-within c = more_behind _ _ _ _ _ c.requires.ends c.in_ok-author.ensures.there (λ e. omega (arith, e))

pub item_to_comma-requires-clause-within : goal.item_to_comma-requires-clause-within
item_to_comma-requires-clause-within c = more_behind _ _ _ _ _ c.requires.ends c.in_ok-about.ensures.there (λ e. omega (arith, e))

pub last_field-requires-clause-within : goal.last_field-requires-clause-within
last_field-requires-clause-within c = more_behind _ _ _ _ _ c.requires.ends c.in_ok-item.ensures.there (λ e. omega (arith, e))

pub returns : goal.returns
returns c =
    comment_in_place c.args.text.now c.args.at c.in_ok-author.author c.in_ok-author.at_about c.in_ok-about.about c.in_ok-about.at_item c.in_ok-item.item c.in_ok-item.at_stars
    c.in_ok-field.field.now _ c.in_ok-field.next c.in_ok-author.ensures c.in_ok-about.ensures c.in_ok-item.ensures c.in_ok-field.ensures.0 c.in_ok-field.ensures.1
    (sym c.read_stars.ensures ∙ c.in_ok-stars.was)
