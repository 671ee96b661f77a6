use Rattle.std.{proofs.{Common.{◌∙◌, ◌++◌, List, ℕ, ap, ap₂, append_assoc}, lemmas.Int.{to_z-of_z}}, specs.{Fmt.{signed_decimal}, Int.{w64}}}
use Rattle.byte_texts.proofs.block.Block.push_signed.Goals as goal

pub returns-clause-text : goal.returns-clause-text
returns-clause-text g c =
    let said = c.as_bytes.ensures.value ∙ c.format.ensures.text ∙ ap signed_decimal (to_z-of_z w64 c.args.number c.ranges.number) in
    c.push-2.ensures.text ∙ ap₂ (λ (front back : List ℕ). front ++ back) c.push.ensures.text said ∙ append_assoc c.args.self.now c.args.label.now (signed_decimal c.args.number)
