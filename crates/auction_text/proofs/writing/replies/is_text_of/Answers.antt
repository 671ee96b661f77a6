use Rattle.std.proofs.{Common.{◌∙◌, sym}, lemmas.Slice.Eq.{bytes_eq-Decides}}
use Rattle.auction_text.proofs.writing.replies.is_text_of.Goals as goal

pub returns : goal.returns
returns c =
    let same = bytes_eq-Decides c.bytes.result.now c.args.text.now in
    (λ equal. sym (same.0 (sym c.eq.ensures ∙ equal)) ∙ c.bytes.ensures, λ told. c.eq.ensures ∙ same.1 (c.bytes.ensures ∙ sym told))
