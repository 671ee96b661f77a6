use Rattle.std.proofs.Common.{rules, ◌≡◌, ◌+◌, ◌≤◌, ◌++◌, ◌∷◌, [], length, take, sym, ap, ◌∙◌, subst, arith}
use Rattle.std.specs.List.{AllByRecursion}
use Rattle.split_engine.specs.declared.entry.Entry.{Entry}
use Rattle.application_log.proofs.LogLemmas.{count_logged, count_unlogged, logged_more, more_requests, unlogged_more}
use Rattle.application_log.proofs.commit_log.write_piece.Goals.{then-is_logged+in_ok-push, else-is_logged}
use Rattle.application_log.specs.{Lines.{IsWritten}, Logs.{lines_of, log_text, requests_of}}
use Rattle.application_log.proofs.commit_log.write_piece.Goals as goal
use Rattle.phase_laws.proofs.ListLemmas.{all-append}

pub loop-place-preserved : goal.loop-place-preserved
loop-place-preserved g c =
    let line = g.A.Loggable.line in let was = c.loop-place.invariant in
    let qs = requests_of (take c.loop-place.place c.args.commits.now) in let q = c.index-commits-place.result.request in
    let more = more_requests c.args.commits.now c.loop-place.place c.index-commits-place.result c.loop-place-test.true c.index-commits-place.is in
    let ensured = c.in_ok-is_logged.ensures in let here = sym c.index-commits-place.is in
    let wrote : IsWritten (line q) c.loop-place.buffer.items c.write_line.new.buffer.items c.in_ok-is_logged.is_logged =
    subst (λ (e : Entry g.row.A-Request.Denot g.row.A-Reply.Denot). IsWritten (line e.request) c.loop-place.buffer.items c.write_line.new.buffer.items c.in_ok-is_logged.is_logged) here ensured.line in
    let fits : g.A.Loggable.is_in_range q = subst (λ (e : Entry g.row.A-Request.Denot g.row.A-Reply.Denot). g.A.Loggable.is_in_range e.request) here ensured.in_range in
    let text : c.if-is_logged.buffer.items ≡ c.args.buffer.now.items ++ log_text line (qs ++ q ∷ []) = elim c.if-is_logged.branch [
      | then-is_logged+in_ok-push w ↦ ap (λ b. b.items) w.buffer-is
          ∙ logged_more line qs q c.args.buffer.now.items c.loop-place.buffer.items c.write_line.new.buffer.items w.push.new.self.items
          (subst (IsWritten (line q) c.loop-place.buffer.items c.write_line.new.buffer.items) w.if-is_logged.true wrote) (search rules) was.text
      | else-is_logged w ↦ ap (λ b. b.items) w.buffer-is
          ∙ unlogged_more line qs q c.args.buffer.now.items c.loop-place.buffer.items c.write_line.new.buffer.items
          (subst (IsWritten (line q) c.loop-place.buffer.items c.write_line.new.buffer.items) w.if-is_logged.false wrote) was.text
    ] in
    let count : c.if-is_logged.lines ≡ length (lines_of line (qs ++ q ∷ [])) = elim c.if-is_logged.branch [
      | then-is_logged+in_ok-push w ↦ w.lines-is ∙ ap (λ n. n + 1) was.count
          ∙ sym (count_logged line qs q c.loop-place.buffer.items c.write_line.new.buffer.items (subst (IsWritten (line q) c.loop-place.buffer.items c.write_line.new.buffer.items) w.if-is_logged.true wrote))
      | else-is_logged w ↦ w.lines-is ∙ was.count
          ∙ sym (count_unlogged line qs q c.loop-place.buffer.items c.write_line.new.buffer.items (subst (IsWritten (line q) c.loop-place.buffer.items c.write_line.new.buffer.items) w.if-is_logged.false wrote))
    ] in
    let few : c.if-is_logged.lines ≤ c.loop-place.place + 1 = elim c.if-is_logged.branch [ then-is_logged+in_ok-push w ↦ omega (arith, was.few, w.lines-is) | else-is_logged w ↦ omega (arith, was.few, w.lines-is) ] in record {
      text = text ∙ ap (λ rs. c.args.buffer.now.items ++ log_text line rs) (sym more);
      in_range = subst (AllByRecursion g.A.Loggable.is_in_range) (sym more) (all-append g.A.Loggable.is_in_range qs (q ∷ []) was.in_range (fits, tt));
      count = count ∙ ap (λ rs. length (lines_of line rs)) (sym more);
      few = few;
    }
