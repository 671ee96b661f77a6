use Rattle.std.proofs.Common.{arith, rules, ◌≡◌, ◌+◌, ◌∙◌, [], true, sym, ap, refl, take}
use Rattle.std.proofs.lemmas.List.{append-nil, length-take}
use Rattle.log_opening.{proofs.ReadingLemmas.{rows_within}, specs.CutRows.{is_cut_row}}
use Rattle.log_opening.proofs.parts.ReadRows.end.Goals as goal

pub overflow_add-result : goal.overflow_add-result
overflow_add-result c = omega (arith, rows_within c.args.self c.requires.can.book c.requires.can.has, c.requires.can.room)

pub returns-clause-cut : goal.returns-clause-cut
returns-clause-cut c =
    let cut : c.is_cut_row.result ≡ true = search rules in
    ap is_cut_row (sym c.as_slice.ensures.value) ∙ sym c.is_cut_row.ensures ∙ cut

pub returns-then-not-is_cut_row-clause-refused : goal.returns-then-not-is_cut_row-clause-refused
returns-then-not-is_cut_row-clause-refused c = λ book has.
    let buffer = c.args.buffer.items in
    let held : c.as_slice.result.now ≡ take c.args.filled buffer = cc in record {
      bytes = take c.args.filled buffer;
      behind = [];
      text_is = sym (append-nil _);
      few = omega (arith, length-take c.args.filled buffer, c.requires.few);
      not_rows = (c.requires.no_end, ap is_cut_row (sym held) ∙ sym c.is_cut_row.ensures ∙ c.if-not-is_cut_row.true, refl, ap (λ rows. rows + 1) has.rows);
    }
