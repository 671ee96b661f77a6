use Rattle.std.proofs.Common.{◌≡◌, ◌++◌, [], ◌∷◌, Some, ◌+◌, ◌*◌, take, ap, refl, sym, ◌∙◌, subst, arith}
use Rattle.std.proofs.{Math.{Numerals.{add-one}, Seq.{take-suc}}, lemmas.List.{take_all}}
use Rattle.std.proofs.lemmas.{Bool.{false≢true}, Option.{slice_get-get_or}}
use Rattle.std.specs.List.{AllByRecursion}
use Rattle.application_check.proofs.Lines.{marks_at_first, all_had, lines_push, after_push}
use Rattle.application_check.specs.Checking.{IsRightLine, after_line, LinesReplay, after_lines}
use Rattle.split_engine.specs.{Serving.{lists, request_at}, declared.few.TheConstants.{MOST_KEYS}}
use Rattle.application_check.specs.inner.Marking.{AreMarks}
use Rattle.application_check.proofs.referee.check_history.Goals as goal

pub check_line-requires-clause-fits : goal.check_line-requires-clause-fits
check_line-requires-clause-fits g c =
    let fits = c.requires.fits in
    (fits.0 + MOST_KEYS * c.loop-place.place, omega (arith, fits.1, c.loop-place-test.true), c.loop-place.invariant.fits fits.0 fits.2)

pub loop-place-init : goal.loop-place-init
loop-place-init g c = let s = g.A.Application in record {
  replays = tt;
  marks = marks_at_first (lists c.args.scripts.now) (lists c.in_ok-marks.marks.items) c.in_ok-marks.ensures;
  table = refl;
  size = refl;
  fits = λ n h. subst (λ m. AllByRecursion (s.fits m) c.args.table.now.items) (omega arith) h;
}

pub check_line-requires-clause-marks : goal.check_line-requires-clause-marks
check_line-requires-clause-marks g c = (take c.loop-place.place c.args.lines.now, c.loop-place.invariant.marks)

pub returns-then-not-check_line-clause-fault : goal.returns-then-not-check_line-clause-fault
returns-then-not-check_line-clause-fault g c =
    let s = g.A.Application in let was = c.loop-place.invariant in let scripts = lists c.args.scripts.now in
    let line = c.index-lines-place.result in let before = take c.loop-place.place c.args.lines.now in (
      was.replays,
      line,
      slice_get-get_or c.args.lines.now c.loop-place.place line c.loop-place-test.true ∙ ap Some (sym c.index-lines-place.is),
      λ right. false≢true ((c.if-not-check_line.ensures.right before was.marks).1 (subst (λ t. IsRightLine s.rules scripts before t line) (sym was.table) right)),
    )

pub loop-place-preserved : goal.loop-place-preserved
loop-place-preserved g c =
    let s = g.A.Application in let was = c.loop-place.invariant in let scripts = lists c.args.scripts.now in
    let place = c.loop-place.place in let line = c.index-lines-place.result in let lines = c.args.lines.now in
    let e = c.if-not-check_line.ensures in
    let taken : take (place + 1) lines ≡ take place lines ++ line ∷ [] =
    ap (λ n. take n lines) (add-one place) ∙ take-suc lines place line c.loop-place-test.true
    ∙ ap (λ x. take place lines ++ x ∷ []) (sym c.index-lines-place.is) in record {
      replays = subst (LinesReplay s.rules scripts [] c.args.table.now.items) (sym taken)
          (lines_push s.rules scripts [] c.args.table.now.items (take place lines) line was.replays
          (subst (λ t. IsRightLine s.rules scripts (take place lines) t line) was.table ((e.right (take place lines) was.marks).0 refl)));
      marks = subst (λ ls. AreMarks scripts ls (lists c.check_line.new.marks.items)) (sym taken) (e.marks (take place lines) was.marks);
      table = e.table ∙ ap (λ t. after_line s.rules scripts t line) was.table ∙ sym (after_push s.rules scripts c.args.table.now.items (take place lines) line)
          ∙ ap (after_lines s.rules scripts c.args.table.now.items) (sym taken);
      size = e.size ∙ was.size;
      fits = λ n h.
          let more : n + MOST_KEYS * place + MOST_KEYS ≡ n + MOST_KEYS * (place + 1) = omega arith in
          subst (λ m. AllByRecursion (s.fits m) c.check_line.new.table.items) more (e.fits (n + MOST_KEYS * place) (was.fits n h));
    }

-- all lines are right, and no request is not marked
pub returns-clause-history : goal.returns-clause-history
returns-clause-history g c =
    let s = g.A.Application in let was = c.loop-place.invariant in let scripts = lists c.args.scripts.now in let lines = c.args.lines.now in
    let whole : take c.loop-place.place lines ≡ lines = take_all c.loop-place.place lines (omega (arith, c.loop-place-test.false)) in record {
      replays = subst (LinesReplay s.rules scripts [] c.args.table.now.items) whole was.replays;
      none_lacks = all_had scripts lines (lists c.loop-place.marks.items) (subst (λ ls. AreMarks scripts ls (lists c.loop-place.marks.items)) whole was.marks)
          (λ w i at. c.in-None.ensures w i (ap (λ rows. request_at (lists rows) w i) c.deref.ensures.value ∙ at));
    }
