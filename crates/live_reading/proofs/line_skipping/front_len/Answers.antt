use Rattle.std.proofs.Common.{drop, false, length, subst, sym, true}
use Rattle.live_reading.proofs.SkippingLemmas.{line_ends, line_goes_on}
use Rattle.live_reading.specs.inner.Lines.{Passes}
use Rattle.live_reading.proofs.line_skipping.front_len.Goals as goal

pub returns-in-Some-line_len-clause-passes : goal.returns-in-Some-line_len-clause-passes
returns-in-Some-line_len-clause-passes c =
    let text = c.args.text.now in let len = c.in-Some-line_len.len in
    subst (λ front. Passes front text (drop len text) true) (sym c.in-Line.is) (line_ends text len c.in-Some-line_len.ensures.len)

pub returns-in-None-line_len-clause-passes : goal.returns-in-None-line_len-clause-passes
returns-in-None-line_len-clause-passes c =
    let text = c.args.text.now in
    subst (λ front. Passes front text (drop (length text) text) false) (sym c.in-Line.is) (line_goes_on text c.in-None-line_len.ensures.len)
