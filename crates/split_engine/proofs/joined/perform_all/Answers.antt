use Rattle.std.proofs.Common.{◌≡◌, ◌++◌, ◌∷◌, [], ◌+◌, ◌*◌, length, take, ap, sym, ◌∙◌, refl, subst, arith, append_assoc}
use Rattle.std.proofs.{Math.{Numerals.{add-one}, Seq.{take-suc}}, lemmas.List.{append-nil}}
use Rattle.std.specs.List.{AllByRecursion}
use Rattle.split_engine.proofs.Splits.{length-acts}
use Rattle.split_engine.proofs.Works.{all_at, performed_both, performed_none, performed_one}
use Rattle.split_engine.specs.Serial.{acts_at, reply, IsWithin}
use Rattle.split_engine.specs.{declared.few.TheConstants.{MOST_KEYS}, inner.Commits.{commit}}
use Rattle.split_engine.specs.inner.Phases.{HasPerformed}
use Rattle.split_engine.proofs.joined.perform_all.Goals as goal

pub perform_call-requires-clause-within : goal.perform_call-requires-clause-within
perform_call-requires-clause-within g c =
    let at = all_at (λ call. IsWithin g.A.Application.rules (length c.args.so_far.now.table.items) call.1) c.args.calls.now c.loop-call.call-index c.call-item.result c.loop-call-test.true c.requires.within in
    let here = subst (λ call. IsWithin g.A.Application.rules (length c.args.so_far.now.table.items) call.1) (sym c.call-item.is) at in
    subst (λ len. IsWithin g.A.Application.rules len c.call-item.result.1) (sym c.loop-call.invariant.same) here

pub perform_call-requires-clause-fits : goal.perform_call-requires-clause-fits
perform_call-requires-clause-fits g c =
    let fits = c.requires.fits in
    (fits.0 + MOST_KEYS * c.loop-call.call-index, omega (arith, fits.1, c.loop-call-test.true), c.loop-call.invariant.fits fits.0 fits.2)

pub loop-call-init : goal.loop-call-init
loop-call-init g c = record {
  more = [];
  history_is = sym (append-nil c.args.so_far.now.history);
  performed = performed_none g.A.Application.rules c.args.worker c.args.so_far.now.table.items;
  same = refl;
  fits = λ n h. subst (λ m. AllByRecursion (g.A.Application.fits m) c.args.so_far.now.table.items) (omega arith) h;
}

pub loop-call-preserved : goal.loop-call-preserved
loop-call-preserved g c =
    let was = c.loop-call.invariant in let d = c.in_ok-perform_call.ensures in
    let calls = c.args.calls.now in let place = c.loop-call.call-index in let call = c.call-item.result in
    let e = commit c.args.worker call (reply g.A.Application.rules c.loop-call.so_far.table.items call.1) in
    let taken : take (place + 1) calls ≡ take place calls ++ call ∷ [] =
    ap (λ n. take n calls) (add-one place) ∙ take-suc calls place call c.loop-call-test.true
    ∙ ap (λ x. take place calls ++ x ∷ []) (sym c.call-item.is) in
    let done = performed_both g.A.Application.rules c.args.worker (take place calls) (call ∷ []) c.args.so_far.now.table.items c.loop-call.so_far.table.items c.perform_call.new.so_far.table.items was.more (e ∷ [])
    was.performed (performed_one g.A.Application.rules c.args.worker c.loop-call.so_far.table.items c.perform_call.new.so_far.table.items call d.table) in record {
      more = was.more ++ e ∷ [];
      history_is = d.history ∙ ap (λ h. h ++ e ∷ []) was.history_is ∙ append_assoc c.args.so_far.now.history was.more (e ∷ []);
      performed = subst (λ all. HasPerformed g.A.Application.rules c.args.worker all c.args.so_far.now.table.items c.perform_call.new.so_far.table.items (was.more ++ e ∷ [])) (sym taken) done;
      same = ap length d.table ∙ length-acts g.A.Application.rules c.loop-call.so_far.table.items (acts_at g.A.Application.rules c.loop-call.so_far.table.items call.1) ∙ was.same;
      fits = λ n h.
          let more : n + MOST_KEYS * place + MOST_KEYS ≡ n + MOST_KEYS * (place + 1) = omega arith in
          subst (λ m. AllByRecursion (g.A.Application.fits m) c.perform_call.new.so_far.table.items) more (d.fits (n + MOST_KEYS * place) (was.fits n h));
    }

pub returns-in_err-perform_call-clause-same : goal.returns-in_err-perform_call-clause-same
returns-in_err-perform_call-clause-same g c =
    let rules = g.A.Application.rules in let table = c.loop-call.so_far.table.items in
    ap length c.perform_call.ensures.table ∙ length-acts rules table (acts_at rules table c.call-item.result.1) ∙ c.loop-call.invariant.same

pub returns-clause-fits : goal.returns-clause-fits
returns-clause-fits g c n h =
    let all : n + MOST_KEYS * c.loop-call.call-index ≡ n + MOST_KEYS * length c.args.calls.now = omega (arith, c.loop-call-test.false, c.loop-call.auto.call-index-end) in
    subst (λ m. AllByRecursion (g.A.Application.fits m) c.loop-call.so_far.table.items) all (c.loop-call.invariant.fits n h)
