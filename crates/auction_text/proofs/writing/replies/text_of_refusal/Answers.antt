use Rattle.std.proofs.Common.{◌∙◌, ap, arith, length}
use Rattle.auction_text.proofs.writing.replies.text_of_refusal.Goals as goal

pub returns-clause-text : goal.returns-clause-text
returns-clause-text c = c.as_bytes.ensures.value ∙ c.text.ensures.text

pub returns-clause-short : goal.returns-clause-short
returns-clause-short c = omega (arith, ap length c.as_bytes.ensures.value, c.text.ensures.short)
