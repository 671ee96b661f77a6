use Rattle.std.proofs.Common.{◌≡◌, Bool, ◌<◌, ◌++◌, ◌∷◌, [], take, length, sym, ap, ◌∙◌, subst, arith, vec_len}
use Rattle.std.{proofs.lemmas.List.{take_all, take_more}, specs.List.{AllByRecursion}}
use Rattle.std.specs.Vec.Iter.{into_iter_items}
use Rattle.phase_laws.proofs.OrderLemmas.{all_push}
use Rattle.shard_boxes.proofs.Each.{drop_next, at_head}
use Rattle.closing_laws.specs.Phases.{no_receipt}
use Rattle.phase_floor.proofs.PartLemmas.{kept_next, parts_next}
use Rattle.phase_floor.specs.inner.Parts.{ArePartsOf, IsFinished, slices_kept}
use Rattle.phase_floor.proofs.close.Parts.of.Goals as goal

pub loop-receipt-preserved : goal.loop-receipt-preserved
loop-receipt-preserved g c =
    let was = c.loop-receipt.invariant in let step = c.in-Some.ensures.steps in let o = c.parts-journal.ensures in
    let journals = c.push_reserved.ensures in let stashes = c.push_reserved-in-loop-receipt.ensures in let keys = c.push_reserved-in-loop-receipt-2.ensures in
    let counters = c.push_reserved-in-loop-receipt-3.ensures in let slices = c.keep_slices.ensures in let joined : Bool = g.K.Kind.IS_JOINED in
    let old = c.loop-receipt in let all = c.args.receipts.items in let n = vec_len old.keys in let new = c.push_reserved-in-loop-receipt-2.new.self in
    let receipt = c.in-Some.receipt in let left = into_iter_items c.next.new.self in
    let taken = sym step.0 ∙ was.rest in
    let low : n < length all = omega (arith, step.1, was.count, c.args.receipts.ok.0) in
    let more : take (vec_len new) all ≡ take n all ++ receipt ∷ [] =
    ap (λ m. take m all) keys.len ∙ take_more all n no_receipt low ∙ ap (λ r. take n all ++ r ∷ []) (at_head all n receipt left no_receipt taken) in record {
      count = omega (arith, keys.len, step.1, was.count);
      rest = drop_next all n (vec_len new) receipt left taken keys.len;
      lens = (
        omega (arith, journals.len, keys.len, was.lens.0),
        omega (arith, stashes.len, keys.len, was.lens.1),
        omega (arith, counters.len, keys.len, was.lens.2),
      );
      room = (
        omega (arith, journals.capacity, was.room.0),
        omega (arith, stashes.capacity, was.room.1),
        omega (arith, keys.capacity, was.room.2),
        omega (arith, counters.capacity, was.room.3),
      );
      slices_room = λ split. (
        omega (arith, slices.len split, keys.len, (was.slices_room split).0),
        omega (arith, slices.capacity, (was.slices_room split).1),
      );
      slices = subst (λ done. c.keep_slices.new.kept.items ≡ slices_kept joined done) (sym more)
          (kept_next joined (take n all) receipt old.slices.items c.keep_slices.new.kept.items was.slices slices.none
          (λ split. slices.one split ∙ ap (λ own. old.slices.items ++ own ∷ []) o.slices));
      parts = subst (λ done. ArePartsOf done c.push_reserved.new.self.items c.push_reserved-in-loop-receipt.new.self.items new.items c.push_reserved-in-loop-receipt-3.new.self.items) (sym more)
          (parts_next (take n all) receipt old.journals.items c.push_reserved.new.self.items old.stashes.items c.push_reserved-in-loop-receipt.new.self.items old.keys.items new.items
          old.counters.items c.push_reserved-in-loop-receipt-3.new.self.items was.parts
          (journals.items ∙ ap (λ own. old.journals.items ++ own ∷ []) o.journal)
          (stashes.items ∙ ap (λ own. old.stashes.items ++ own ∷ []) o.stash)
          (keys.items ∙ ap (λ own. old.keys.items ++ own ∷ []) o.key)
          (counters.items ∙ ap (λ own. old.counters.items ++ own ∷ []) o.counters));
      finished = subst (AllByRecursion (IsFinished (length g.N.PhaseName.initial))) (sym more)
          (all_push (IsFinished (length g.N.PhaseName.initial)) (take n all) receipt was.finished (record { explained = o.explained; room = o.room; most = o.limit; few = o.few }));
    }

pub returns : goal.returns
returns g c =
    let was = c.loop-receipt.invariant in let parts = c.loop-receipt in
    let all = take_all (vec_len parts.keys) c.args.receipts.items (omega (arith, was.count, c.in-None.ensures.steps, c.args.receipts.ok.0)) in
    record {
      parts = subst (λ done. ArePartsOf done parts.journals.items parts.stashes.items parts.keys.items parts.counters.items) all was.parts;
      slices = subst (λ done. parts.slices.items ≡ slices_kept g.K.Kind.IS_JOINED done) all was.slices;
      finished = subst (AllByRecursion (IsFinished (length g.N.PhaseName.initial))) all was.finished;
    }
