use Rattle.std.proofs.{Common.{◌∙◌, ◌++◌, List, ℕ, ap, arith, sym}, lemmas.Fmt.{decimal_digit}}
use Rattle.byte_texts.proofs.block.Block.push_number.Goals as goal

pub returns-then-number-lt10-clause-text : goal.returns-then-number-lt10-clause-text
returns-then-number-lt10-clause-text g c =
    c.push.ensures.text ∙ ap (λ (l : List ℕ). c.args.self.now ++ l) (sym (decimal_digit c.args.number (omega arith)))
