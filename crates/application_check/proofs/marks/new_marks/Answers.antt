use Rattle.std.proofs.Common.{◌≡◌, ◌++◌, ◌∷◌, [], false, length, replicate, ap, sym, ◌∙◌, arith}
use Rattle.std.proofs.lemmas.List.{map-append}
use Rattle.split_engine.specs.Serving.{lists}
use Rattle.application_check.proofs.MarkRows.{no_marks_more}
use Rattle.application_check.proofs.marks.new_marks.Goals as goal

pub loop-script-preserved : goal.loop-script-preserved
loop-script-preserved g c =
    let row = c.in_ok-vec.field-0 in let script = c.script-item.result in
    let long : c.len.result ≡ length script.items = omega (arith, c.len.ensures, script.ok.0) in
    ap lists c.in_ok-push.ensures.items ∙ map-append (λ v. v.items) c.loop-script.marks.items (row ∷ [])
    ∙ (λ i. c.loop-script.invariant i ++ (c.in_ok-vec.ensures.items_if_clones_equal (λ y is. is) ∙ ap (λ n. replicate n false) long) i ∷ [])
    ∙ sym (no_marks_more c.args.scripts.now c.loop-script.script-index script c.loop-script-test.true c.script-item.is)
