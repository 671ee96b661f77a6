use Rattle.std.proofs.{Common.{◌≡◌, ◌∙◌, ap, sym, vec_len}, lemmas.Bool.{eqb-true}}
use Rattle.std.proofs.lemmas.List.{nil_from_length}
use Rattle.worker_journals.proofs.sides.close_list.Goals as goal

pub returns-then-is_empty : goal.returns-then-is_empty
returns-then-is_empty g c =
    let old = c.args.list.now in
    let none : vec_len old ≡ 0 = eqb-true (vec_len old) 0 (sym c.is_empty.ensures ∙ c.if-is_empty.true) in
    ap (λ list. list.items) c.replace.ensures.after ∙ c.new-none.ensures.items ∙ sym (nil_from_length old.items (sym old.ok.0 ∙ none))
