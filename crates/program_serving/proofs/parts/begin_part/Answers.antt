use Rattle.std.proofs.Common.{◌∙◌, ◌+◌, [], None, ap, arith, inl, inr, length, refl, slice_index, slice_index_or}
use Rattle.auction_rows.specs.Book.{Book}
use Rattle.auction_text.specs.{Moved.{gone_by}, Scripts.{asked_of}}
use Rattle.program_opening.{proofs.ErrorLemmas.{error_is}, specs.declared.faults.Fault.{Fault}}
use Rattle.program_serving.proofs.ServedParts.{begun, next_has, not_taken, past_with_done, requests_past, start}
use Rattle.program_serving.proofs.ToldLemmas.{same_gone}
use Rattle.program_serving.specs.inner.Parts.{BeginsAt, IsNotBegun, gone_with}
use Rattle.program_serving.proofs.parts.begin_part.Goals as goal

pub returns-clause-begins : goal.returns-clause-begins
returns-clause-begins c = λ book begins.
    let next = c.for_next_run-auction.ensures in
    begun c.args.options.now c.args.part.served.auction c.for_next_run-auction.result book c.args.part.input.scripts.items begins next.next next.stands c.add_part.new.auction c.as_slice.result.now c.args.part.input.rows.items c.as_slice.ensures.value
    c.in_ok-added.added.items c.add_part.ensures.same c.in_ok-added.ensures.adds c.args.part.input.scripts.items c.take_past-past.result c.take_past-past.new.scripts.items refl c.take_past-past.ensures.none c.take_past-past.ensures.some c.take_past-past.ensures.short

pub returns-clause-next : goal.returns-clause-next
returns-clause-next c =
    let gone = gone_by c.args.part.served.before in
    same_gone (gone_by c.in-Some-with_scripts.next) (gone_with gone 0 c.take_past-past.new.scripts.items) (omega (arith, c.in-Some-with_scripts.ensures.phases))
    (λ worker. c.in-Some-with_scripts.ensures.requests worker ∙ ap (λ xs. slice_index c.args.part.served.before.requests worker + length (slice_index_or xs worker [])) c.as_slice-2.ensures.value)

pub returns-clause-rows : goal.returns-clause-rows
returns-clause-rows c = omega (arith, c.in-Some.ensures, c.len.ensures, c.args.part.input.rows.ok.0)

pub returns-clause-has : goal.returns-clause-has
returns-clause-has c =
    let ready = next_has c.args.part.served.auction c.for_next_run-auction.result c.for_next_run-auction.ensures.next c.for_next_run-auction.ensures.stands c.requires in
    record { book = _; is_of = (c.in_ok-added.ensures.adds ready.0 ready.1).start.is_of }

pub add_part-requires-clause-start : goal.add_part-requires-clause-start
add_part-requires-clause-start c = next_has c.args.part.served.auction c.for_next_run-auction.result c.for_next_run-auction.ensures.next c.for_next_run-auction.ensures.stands c.requires

pub returns-in_default-clause-cause : goal.returns-in_default-clause-cause
returns-in_default-clause-cause c = λ book begins. (None, (tt, inr (refl, inl (omega (arith, c.in_default.ensures, c.len.ensures, c.args.part.input.rows.ok.0)))))

pub returns-in_err-added-clause-cause : goal.returns-in_err-added-clause-cause
returns-in_err-added-clause-cause c =
    let options = c.args.options.now in let state = c.args.part.served.auction in
    let scripts = c.args.part.input.scripts.items in let next = c.for_next_run-auction.ensures in
    let fault = c.in_err-added.field-0.0 in
    error_is c.from_residual.result fault (λ (f : Fault). (book : Book) → BeginsAt options state scripts book → IsNotBegun options book (gone_by c.args.part.served.before) c.args.part.served.rows (asked_of c.args.part.input) f)
    c.from_residual.ensures (λ book begins. (
      None,
      (
        tt,
        not_taken options state c.for_next_run-auction.result book scripts begins next.next next.stands (gone_by c.args.part.served.before) c.args.part.served.rows (asked_of c.args.part.input) c.as_slice.result.now c.as_slice.ensures.value fault
            (c.in_err-added.ensures.refused book (start options state c.for_next_run-auction.result book scripts begins next.next next.stands)),
      ),
    ))

pub returns-in_default-with_scripts-clause-cause : goal.returns-in_default-with_scripts-clause-cause
returns-in_default-with_scripts-clause-cause c = λ book begins.
    let options = c.args.options.now in let before = c.args.part.served.before in
    let read = c.args.part.served.rows in let asked = asked_of c.args.part.input in
    let mid = c.add_part.new.auction in let added = c.in_ok-added.added.items in
    let run = c.take_past-past.new.scripts.items in let past = c.take_past-past.result in
    let next = c.for_next_run-auction.ensures in
    let has = begun options c.args.part.served.auction c.for_next_run-auction.result book c.args.part.input.scripts.items begins next.next next.stands mid c.as_slice.result.now c.args.part.input.rows.items c.as_slice.ensures.value
    added c.add_part.ensures.same c.in_ok-added.ensures.adds c.args.part.input.scripts.items past run refl c.take_past-past.ensures.none c.take_past-past.ensures.some c.take_past-past.ensures.short in (
      past,
      (
        has.are,
        inr (
          refl,
          past_with_done options book asked mid added run past has (gone_by before) read
              (requests_past options book asked mid added run past has before read (omega (arith, c.workers.ensures.count, c.workers.ensures.few)) c.as_slice-2.result.now c.as_slice-2.ensures.value c.in_default-with_scripts.ensures.none),
        ),
      ),
    )
