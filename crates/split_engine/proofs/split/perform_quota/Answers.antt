use Rattle.std.proofs.Common.{ℕ, ◌≡◌, ◌++◌, [], ◌∷◌, ◌*◌, length, map, ap, sym, ◌∙◌, subst, arith, append_assoc}
use Rattle.std.{proofs.lemmas.List.{append-nil}, specs.List.{AllByRecursion}}
use Rattle.split_engine.proofs.{Splits.{slices_fit, length-slices}, Works.{calls_more}}
use Rattle.split_engine.specs.{Serving.{call_of, calls_before}, Splitting.{IsSplitEntry, slices_of}}
use Rattle.split_engine.specs.declared.few.TheConstants.{MOST_KEYS}
use Rattle.split_engine.proofs.split.perform_quota.Goals as goal

pub perform_or_put_off-requires-clause-len : goal.perform_or_put_off-requires-clause-len
perform_or_put_off-requires-clause-len g c =
    ap length c.loop-index.invariant.done.slices_are
    ∙ length-slices g.A.Application.rules g.A.Application.fits g.A.Application.slice_fits g.A.Application.is_small g.met.A.Application.laws c.args.phase.now.table.now c.loop-index.own.journal.items

pub perform_or_put_off-requires-clause-fits : goal.perform_or_put_off-requires-clause-fits
perform_or_put_off-requires-clause-fits g c =
    let was = c.loop-index.invariant in
    let n = length c.loop-index.own.journal.items in (
      MOST_KEYS * n,
      omega (arith, was.few, c.loop-index-test.true, c.requires.few, c.min-end.ensures, c.saturating_add.ensures),
      subst (λ ss. AllByRecursion (g.A.Application.slice_fits (MOST_KEYS * n)) ss) (sym was.done.slices_are)
          (slices_fit g.A.Application.rules g.A.Application.fits g.A.Application.slice_fits g.A.Application.is_small g.met.A.Application.laws c.args.phase.now.table.now c.loop-index.own.journal.items was.done.split),
    )

pub loop-index-preserved : goal.loop-index-preserved
loop-index-preserved g c =
    let was = c.loop-index.invariant in
    let call : ℕ × g.row.A-Request.Denot = (c.loop-index.index, c.index-script-index.result) in record {
      from = omega (arith, was.from);
      few = omega (arith, was.few, c.in_ok-perform_or_put_off.ensures.few);
      all = was.all ++ call ∷ [];
      follows = calls_more c.args.script.now c.loop-index.index c.index-script-index.result (omega (arith, c.loop-index-test.true, c.min-end.ensures)) c.index-script-index.is
          ∙ ap (λ cs. cs ++ call ∷ []) was.follows
          ∙ append_assoc (calls_before c.args.script.now c.args.start.cursor.next) was.all (call ∷ []);
      done = c.in_ok-perform_or_put_off.ensures.done c.args.start.cursor.stash.items was.all was.done;
    }

pub loop-index-init : goal.loop-index-init
loop-index-init g c =
    let start = c.requires.start in record {
      from = omega arith;
      few = omega (arith, ap length start.no_entry);
      all = [];
      follows = sym (append-nil (calls_before c.args.script.now c.args.start.cursor.next));
      done = record {
        split = subst (AllByRecursion (IsSplitEntry g.A.Application.rules g.A.Application.is_small c.args.phase.now.table.now)) (sym start.no_entry) tt;
        own = subst (AllByRecursion (λ e. e.worker ≡ c.args.worker)) (sym start.no_entry) tt;
        performed = ap (map call_of) start.no_entry;
        stash_is = sym (append-nil c.args.start.cursor.stash.items);
        slices_are = start.unused ∙ ap (slices_of g.A.Application.rules c.args.phase.now.table.now) (sym start.no_entry);
      };
    }
