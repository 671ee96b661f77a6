use Rattle.std.proofs.Common.{◌≡◌, ◌++◌, length, length-append, take, append_assoc, sym, ap, ◌∙◌, subst, arith}
use Rattle.std.specs.List.{flat_map, AllByRecursion}
use Rattle.application_log.proofs.LogLemmas.{count_both, lines_le, log_text-append, more_pieces}
use Rattle.application_log.specs.Logs.{lines_of, log_text, requests_of}
use Rattle.application_log.proofs.commit_log.write_lines.Goals as goal
use Rattle.phase_laws.proofs.ListLemmas.{all-append}

pub overflow_add-lines : goal.overflow_add-lines
overflow_add-lines g c =
    let line = g.A.Loggable.line in let was = c.loop-place.invariant in let d = c.in_ok-added.ensures in
    let qs = requests_of (flat_map (λ piece. piece.items) (take c.loop-place.place c.pieces-pieces.result.now)) in
    let ps = requests_of c.deref.result.now in let buffer = c.write_piece.new.buffer in
    omega (
      arith,
      was.count,
      d.count,
      lines_le (lines_of line qs),
      lines_le (lines_of line ps),
      ap length d.text,
      length-append c.loop-place.buffer.items (log_text line ps),
      ap length was.text,
      length-append c.args.buffer.now.items (log_text line qs),
      buffer.ok.0,
      buffer.ok.1,
      buffer.small,
    )

pub loop-place-preserved : goal.loop-place-preserved
loop-place-preserved g c =
    let line = g.A.Loggable.line in let fits = g.A.Loggable.is_in_range in let was = c.loop-place.invariant in let d = c.in_ok-added.ensures in
    let start = c.args.buffer.now.items in let piece = c.index-pieces-place.result in
    let qs = requests_of (flat_map (λ piece. piece.items) (take c.loop-place.place c.pieces-pieces.result.now)) in let ps = requests_of piece.items in
    let more = more_pieces (λ piece. piece.items) c.pieces-pieces.result.now c.loop-place.place piece c.loop-place-test.true c.index-pieces-place.is in
    let is : requests_of c.deref.result.now ≡ ps = ap requests_of c.deref.ensures.value in record {
      text = d.text ∙ ap (λ b. b ++ log_text line (requests_of c.deref.result.now)) was.text
          ∙ append_assoc start (log_text line qs) (log_text line (requests_of c.deref.result.now))
          ∙ ap (λ t. start ++ t) (ap (λ rs. log_text line qs ++ log_text line rs) is ∙ sym (log_text-append line qs ps) ∙ ap (log_text line) (sym more));
      in_range = subst (AllByRecursion fits) (sym more) (all-append fits qs ps was.in_range (subst (AllByRecursion fits) is d.in_range));
      count = omega (arith, was.count, d.count, ap (λ rs. length (lines_of line rs)) is, count_both line qs ps, ap (λ rs. length (lines_of line rs)) more);
    }
