use Rattle.std.proofs.Common.{arith, ◌∙◌, ap, length, refl, subst, sym, vec_len}
use Rattle.live_reading.proofs.LivePartLemmas.{fresh_lines, keeps_workers, part_for}
use Rattle.live_reading.specs.LiveParts.{IsLivePart, KeepsLiveWorkers}
use Rattle.live_reading.specs.declared.live_parts.LivePart.{LivePart}
use Rattle.live_reading.proofs.live_parts.LiveInput.next_part.Goals as goal
use Rattle.record_reading.specs.Asking.{Asked}

pub invariant_of-taken-clause-few_rows : goal.invariant_of-taken-clause-few_rows
invariant_of-taken-clause-few_rows g c =
    let rows = c.in_ok-input.input.rows in
    omega (arith, rows.ok.0, ap (λ (a : Asked). length a.rows) c.in_ok-input.ensures.empty)

pub returns-clause-part : goal.returns-clause-part
returns-clause-part g c = λ all has.
    let rem = g.R.Read.remaining in let takes = c.in_ok-stop.ensures.takes in
    let (to, known, stops) = takes.takes all _ (c.in_ok-lines.ensures.left has.bytes has.known) (fresh_lines all _ _ c.in_ok-input.ensures.empty refl has.all_is) in
    subst (λ part. IsLivePart rem c.args.self.workers c.args.most all part) (sym c.part_before.ensures)
    (part_for rem all c.take_lines.new.taken c.take_lines.new.lines to known c.in_ok-stop.stop c.args.self.workers c.args.most takes.same.workers takes.same.most stops c.in_ok-stop.ensures.some)

pub returns-clause-count : goal.returns-clause-count
returns-clause-count g c = ap (λ (part : LivePart _). vec_len part.input.scripts) c.part_before.ensures ∙ c.take_lines.new.taken.has_scripts ∙ c.in_ok-stop.ensures.takes.same.workers

pub returns-clause-workers : goal.returns-clause-workers
returns-clause-workers g c =
    subst (λ (part : LivePart _). KeepsLiveWorkers c.args.self.workers part.end) (sym c.part_before.ensures)
    (keeps_workers c.in_ok-stop.stop c.take_lines.new.taken c.take_lines.new.lines c.args.self.workers c.in_ok-stop.ensures.takes.same.workers)
