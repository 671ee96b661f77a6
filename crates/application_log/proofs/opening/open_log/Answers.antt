use Rattle.std.proofs.Common.{◌≡◌, ◌+◌, ◌*◌, ◌++◌, ◌∷◌, [], drop, length, length-append, IfSome, inr, refl, sym, ap, ◌∙◌, subst, arith}
use Rattle.std.{proofs.lemmas.{Bool.{false≢true}, List.{drop_at}}, specs.List.{AllByRecursion}}
use Rattle.split_engine.specs.declared.few.TheConstants.{MOST_KEYS}
use Rattle.application_log.{proofs.LogLemmas.{text_behind}, specs.Faults.{IsOpenFault}}
use Rattle.application_log.specs.{Lines.{HasNoEnd, IsTail}, Logs.{log_text}}
use Rattle.application_log.specs.declared.opening.OpenFault.{OpenFault}
use Rattle.application_log.proofs.opening.open_log.Goals as goal
use Rattle.part_log.proofs.TellingLemmas.{error_is, of_known}

pub loop-number-init : goal.loop-number-init
loop-number-init g c = record {
  requests = [];
  has = record { in_range = tt; read_back = tt; leaves = refl; lines_are = refl; kept_are = refl };
  count = refl;
  left = λ all is. (all, is, refl);
  fits = λ n h. subst (λ m. AllByRecursion (g.A.Application.fits m) c.args.table.items) (omega arith) h;
  len = refl;
}

pub add_line-requires-clause-fits : goal.add_line-requires-clause-fits
add_line-requires-clause-fits g c =
    let fits = c.requires.fits in
    (fits.0 + MOST_KEYS * c.loop-number.opened.lines, omega (arith, fits.1, c.loop-number.invariant.count, c.loop-number-test.true), c.loop-number.invariant.fits fits.0 fits.2)

pub loop-number-preserved : goal.loop-number-preserved
loop-number-preserved g c =
    let s = g.A.Application in let line = g.A.Loggable.line in let was = c.loop-number.invariant in
    let d = c.in_ok-add_line.ensures in
    let next = d.opened c.args.table.items was.requests was.has in record {
      requests = was.requests ++ next.0 ∷ [];
      has = next.2;
      count = d.lines ∙ ap (λ n. n + 1) was.count;
      left = λ all known.
          let before = was.left all known in
          let here = c.in_ok-is_whole.ensures.read c.if-not-is_whole.false before.0 before.1 in
          (here.0, here.1, before.2 ∙ ap (λ t. log_text line was.requests ++ t) (here.2 ∙ ap (λ l. l ++ 10 ∷ here.0) (sym c.deref-in-loop-number.ensures.value)) ∙ text_behind line was.requests next.0 _ here.0 next.1);
      fits = λ n h.
          let more : n + MOST_KEYS * c.loop-number.opened.lines + MOST_KEYS ≡ n + MOST_KEYS * (c.loop-number.opened.lines + 1) = omega arith in
          subst (λ m. AllByRecursion (s.fits m) c.add_line.new.self.table.items) (more ∙ ap (λ k. n + MOST_KEYS * k) (sym d.lines)) (d.fits (n + MOST_KEYS * c.loop-number.opened.lines) (was.fits n h));
      len = d.len ∙ was.len;
    }

pub returns-then-not-is_whole-clause-opens : goal.returns-then-not-is_whole-clause-opens
returns-then-not-is_whole-clause-opens g c =
    let was = c.loop-number.invariant in
    of_known (g.R.Read.remaining c.args.reader.now) _ (λ all known.
    let before = was.left all known in record {
      requests = was.requests;
      behind = before.0;
      opened = was.has;
      text = before.2;
      cut = (subst (λ o. IfSome o (λ left. HasNoEnd left × (c.read_whole_line.new.line.items ≡ left))) before.1 (c.in_ok-is_whole.ensures.cut c.if-not-is_whole.true)).0;
    })

pub returns-then-not-is_whole-clause-kept : goal.returns-then-not-is_whole-clause-kept
returns-then-not-is_whole-clause-kept g c =
    let was = c.loop-number.invariant in
    of_known (g.R.Read.remaining c.args.reader.now) _ (λ all known.
    let before = was.left all known in
    omega (arith, was.has.kept_are, ap length before.2, length-append (log_text g.A.Loggable.line was.requests) before.0))

pub returns-then-not-is_whole-clause-goes_on : goal.returns-then-not-is_whole-clause-goes_on
returns-then-not-is_whole-clause-goes_on g c =
    let fits = c.requires.fits in
    (fits.0 + MOST_KEYS * c.loop-number.opened.lines, omega (arith, fits.1, c.loop-number.invariant.count, c.loop-number-test.true), c.loop-number.invariant.fits fits.0 fits.2)

pub returns-clause-fault : goal.returns-clause-fault
returns-clause-fault g c =
    let was = c.loop-number.invariant in
    of_known (g.R.Read.remaining c.args.reader.now) _ (λ all known.
    let before = was.left all known in
    inr (
      was.requests,
      before.0,
      record { in_range = was.has.in_range; read_back = was.has.read_back; split = before.2 },
      omega (arith, was.has.lines_are, was.count, c.loop-number-test.false),
    ))

pub returns-in_err-is_whole-clause-fault : goal.returns-in_err-is_whole-clause-fault
returns-in_err-is_whole-clause-fault g c =
    let known = g.R.Read.remaining c.args.reader.now in
    let IsFault = IsOpenFault g.A.Application.rules g.A.Loggable.line g.A.Loggable.is_in_range g.A.Loggable.is_cut (length c.args.table.items) in
    error_is c.from_residual.result c.in_err-is_whole.field-0.0 (λ (fault : OpenFault). IfSome known (IsFault fault)) c.from_residual.ensures
    (of_known known _ (λ all is. subst (λ (fault : OpenFault). IsFault fault all) (sym c.in_err-is_whole.ensures.fault.1) tt))

pub returns-in_err-add_line-clause-fault : goal.returns-in_err-add_line-clause-fault
returns-in_err-add_line-clause-fault g c =
    let known = g.R.Read.remaining c.args.reader.now in
    let line = g.A.Loggable.line in let was = c.loop-number.invariant in let why = c.in_err-add_line.field-0.0 in
    let IsFault = IsOpenFault g.A.Application.rules line g.A.Loggable.is_in_range g.A.Loggable.is_cut in
    error_is c.from_residual-in_err-add_line.result why (λ (fault : OpenFault). IfSome known (IsFault (length c.args.table.items) fault)) c.from_residual-in_err-add_line.ensures
    (of_known known _ (λ all is.
    let before = was.left all is in
    let here = c.in_ok-is_whole.ensures.read c.if-not-is_whole.false before.0 before.1 in
    let text = before.2 ∙ ap (λ t. log_text line was.requests ++ t) (here.2 ∙ ap (λ l. l ++ 10 ∷ here.0) (sym c.deref-in-loop-number.ensures.value)) in
    subst (IsFault (length c.args.table.items) why) (sym text)
    (subst (λ size. IsFault size why (log_text line was.requests ++ (c.deref-in-loop-number.result.now ++ 10 ∷ here.0))) was.len
    (c.in_err-add_line.ensures.fault c.args.table.items was.requests here.0 was.has))))

pub returns-then-not-is_whole-clause-tail : goal.returns-then-not-is_whole-clause-tail
returns-then-not-is_whole-clause-tail g c =
    let was = c.loop-number.invariant in
    of_known (g.R.Read.remaining c.args.reader.now) _ (λ all known.
    let before = was.left all known in
    let rest = subst (λ o. IfSome o (λ left. HasNoEnd left × (c.read_whole_line.new.line.items ≡ left))) before.1 (c.in_ok-is_whole.ensures.cut c.if-not-is_whole.true) in
    rest.1 ∙ sym (ap (drop c.loop-number.opened.kept) before.2 ∙ drop_at (log_text g.A.Loggable.line was.requests) before.0 c.loop-number.opened.kept (sym was.has.kept_are)))

pub returns-then-not-is_tail-clause-fault : goal.returns-then-not-is_tail-clause-fault
returns-then-not-is_tail-clause-fault g c =
    let was = c.loop-number.invariant in
    of_known (g.R.Read.remaining c.args.reader.now) _ (λ all known.
    let before = was.left all known in
    let rest = subst (λ o. IfSome o (λ left. HasNoEnd left × (c.read_whole_line.new.line.items ≡ left))) before.1 (c.in_ok-is_whole.ensures.cut c.if-not-is_whole.true) in (
      before.0,
      record {
        before = was.requests;
        read = record { in_range = was.has.in_range; read_back = was.has.read_back; split = before.2 };
        no_end = rest.0;
        number_is = ap (λ n. n + 1) was.has.lines_are;
      },
      λ is. false≢true (sym c.if-not-is_tail.true ∙ c.is_tail.ensures.1 (subst (IsTail g.A.Loggable.is_cut) (sym (c.deref.ensures.value ∙ rest.1)) is)),
    ))
