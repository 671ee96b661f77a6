use Rattle.std.proofs.{Common.{◌+◌, [], ap, drop, refl}, lemmas.List.{drop_all}}
use Rattle.std.specs.List.{flat_map}
use Rattle.auction_text.proofs.PutLemmas.{adds_part, put_failed, told_all, told_more, told_none, told_part}
use Rattle.auction_text.proofs.TurnLemmas.{drop_next}
use Rattle.auction_text.proofs.writing.text_blocks.write_parts.Goals as goal

pub loop-part-init : goal.loop-part-init
loop-part-init g c = told_none _ _ _ _ refl

pub loop-part-preserved : goal.loop-part-preserved
loop-part-preserved g c =
    let bytes = c.as_slice.ensures.value in
    let at = drop_next c.args.parts.now c.loop-part.part-index c.part-item.result c.loop-part-test.true c.part-item.is in
    told_more _ _ _ _ _ _ _ c.part-item.result.items (flat_map (λ part. part.items) (drop (c.loop-part.part-index + 1) c.args.parts.now)) _ c.loop-part.invariant (ap (flat_map (λ part. part.items)) at)
    (adds_part _ _ _ (rw bytes at c.in_ok-write_part.ensures.whole))

pub returns-in_err-write_part : goal.returns-in_err-write_part
returns-in_err-write_part g c =
    let bytes = c.as_slice.ensures.value in
    let part = rw bytes at c.in_err-write_part.ensures.part in
    let at = drop_next c.args.parts.now c.loop-part.part-index c.part-item.result c.loop-part-test.true c.part-item.is in
    put_failed g.W.Write.contents _ _ _ _ _ c.from_residual.result c.in_err-write_part.field-0.0 c.from_residual.ensures.1 part.0
    (told_part _ _ _ _ _ [] _ c.part-item.result.items (flat_map (λ part. part.items) (drop (c.loop-part.part-index + 1) c.args.parts.now)) _ c.loop-part.invariant
    (ap (flat_map (λ part. part.items)) at) part.1)

pub returns : goal.returns
returns g c = record {
  whole = told_all _ _ _ _ _ _ c.loop-part.invariant (ap (flat_map (λ part. part.items)) (drop_all c.loop-part.part-index c.args.parts.now c.loop-part-test.false));
  part = tt;
}
