use Rattle.std.proofs.Common.{◌≡◌, ◌∙◌, ap, sym}
use Rattle.live_reading.proofs.live_parts.part_before.Goals.{in-Full, in-Fault, in-End}
use Rattle.live_reading.specs.declared.line_taking.LineStop.{LineStop}
use Rattle.live_reading.specs.declared.live_parts.{LiveEnd.{LiveEnd}, LivePart.{LivePart}}
use Rattle.live_reading.specs.declared.part_records.Taken.{Taken}
use Rattle.live_reading.specs.inner.Taking.{end_at, left_after}
use Rattle.live_reading.proofs.live_parts.part_before.Goals as goal

abbrev part : {R : Type 0} → Taken → LiveEnd R → LivePart R
part taken end = record { input = taken.input; end = end }

pub returns : goal.returns
returns g c =
    let left = left_after c.args.taken c.args.lines in
    let end : c.match-stop.end ≡ end_at c.args.stop left = elim c.match-stop.branch [
      | in-Full w ↦ w.end-is ∙ ap (λ (stop : LineStop). end_at stop left) (sym w.in-Full.is)
      | in-Fault w ↦ w.end-is ∙ ap (λ (stop : LineStop). end_at stop left) (sym w.in-Fault.is)
      | in-End w ↦ w.end-is ∙ ap (λ (stop : LineStop). end_at stop left) (sym w.in-End.is)
    ] in
    ap (part c.args.taken) end
