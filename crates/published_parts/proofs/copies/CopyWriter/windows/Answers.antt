use Rattle.std.proofs.Common.{◌≡◌, ◌+◌, true, false, length, refl, sym, ap, ◌∙◌, arith}
use Rattle.std.proofs.lemmas.{Bool.{false≢true}, List.{length_push}}
use Rattle.std.specs.{Prelude.{Result, Ok, Err}, Result.{is_err, is_ok}}
use Rattle.published_parts.{proofs.Growing.{one_more}, specs.Views.{IsMadeBy}}
use Rattle.published_parts.proofs.copies.CopyWriter.windows.Goals as goal

ok_of : {T E : Type 0} (result : Result T E) → is_err result ≡ false → is_ok result ≡ true
ok_of (Ok x) fine = refl
ok_of (Err e) fine = absurd (false≢true (sym fine))

pub loop-window-preserved : goal.loop-window-preserved
loop-window-preserved g c =
    let made = c.loop-window.made.items in let was = c.loop-window.invariant in
    let pushed = rw (ok_of c.push.result (sym c.is_err.ensures.value ∙ c.if-is_err.false)) at c.push.ensures.items in (
      ap length pushed ∙ length_push made c.call.result ∙ ap (λ n. n + 1) was.0,
      one_more (IsMadeBy g.F.Fn c.args.make) c.call.result made _ pushed (_, c.call.ensures) was.1,
    )

pub returns : goal.returns
returns g c = record {
  count = omega (arith, c.loop-window.invariant.0, c.loop-window-test.false, c.loop-window.auto._window-end);
  made = c.loop-window.invariant.1;
}
