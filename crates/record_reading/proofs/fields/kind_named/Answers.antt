use Rattle.std.proofs.Common.{rules, ◌≡◌, ◌≤◌, ◌∙◌, None, Some, ap, get_or, length, sym}
use Rattle.record_reading.proofs.KindLemmas.{row_is, store_is, view_is}
use Rattle.record_reading.proofs.fields.kind_named.Goals as goal

pub returns-in-43 : goal.returns-in-43
returns-in-43 c =
    let plus : get_or c.args.word.now 0 0 ≡ 43 = search rules in
    ap Some c.row.ensures ∙ row_is c.args.word.now (Some c.in_ok-store_named.field-0) c.in-43.len_at_least plus c.in_ok-store_named.ensures

pub returns-in_err-store_named : goal.returns-in_err-store_named
returns-in_err-store_named c =
    let plus : get_or c.args.word.now 0 0 ≡ 43 = search rules in
    c.from_residual.ensures ∙ row_is c.args.word.now None c.in-43.len_at_least plus c.in_err-store_named.ensures

pub returns-in-Some : goal.returns-in-Some
returns-in-Some c =
    let plain : 1 ≤ length c.args.word.now → get_or c.args.word.now 0 0 ≡ 43 → ⊥ = search rules in
    ap Some c.request.ensures ∙ store_is c.args.word.now plain c.in-Some.kind c.in-Some.ensures

pub returns-in_ok-view_named-in-None : goal.returns-in_ok-view_named-in-None
returns-in_ok-view_named-in-None c =
    let plain : 1 ≤ length c.args.word.now → get_or c.args.word.now 0 0 ≡ 43 → ⊥ = search rules in
    let none = sym c.in-None.is ∙ c.store_named-2.ensures in
    ap Some c.request-in-None.ensures ∙ view_is c.args.word.now plain (Some c.in_ok-view_named-in-None.field-0) none c.in_ok-view_named-in-None.ensures

pub returns-in_err-view_named-in-None : goal.returns-in_err-view_named-in-None
returns-in_err-view_named-in-None c =
    let plain : 1 ≤ length c.args.word.now → get_or c.args.word.now 0 0 ≡ 43 → ⊥ = search rules in
    let none = sym c.in-None.is ∙ c.store_named-2.ensures in
    c.from_residual-in_err-view_named-in-None.ensures ∙ view_is c.args.word.now plain None none c.in_err-view_named-in-None.ensures
