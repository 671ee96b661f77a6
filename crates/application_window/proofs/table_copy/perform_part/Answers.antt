use Rattle.std.proofs.Common.{◌≡◌, ◌+◌, ◌*◌, length, take, ap, sym, ◌∙◌, refl, subst, arith}
use Rattle.std.{proofs.lemmas.List.{take_all}, specs.List.{AllByRecursion}}
use Rattle.split_engine.{proofs.Works.{all_at}, specs.Serial.{table_after, IsWithin}}
use Rattle.split_engine.specs.declared.few.TheConstants.{MOST_KEYS}
use Rattle.application_window.proofs.Growing.{after_more, length-after}
use Rattle.application_window.proofs.table_copy.perform_part.Goals as goal

pub perform-requires-clause-within : goal.perform-requires-clause-within
perform-requires-clause-within g c =
    let rules = g.A.Application.rules in let opened = c.args.table.now.items in
    let at = all_at (λ e. IsWithin rules (length opened) e.request) c.args.commits.now c.loop-commit.commit-index c.commit-item.result c.loop-commit-test.true c.requires.within in
    let same = ap length c.loop-commit.invariant.table_is ∙ length-after rules opened (take c.loop-commit.commit-index c.args.commits.now) in
    subst (λ len. IsWithin rules len c.commit-item.result.request) (sym same) (subst (λ e. IsWithin rules (length opened) e.request) (sym c.commit-item.is) at)

pub perform-requires-clause-fits : goal.perform-requires-clause-fits
perform-requires-clause-fits g c =
    let fits = c.requires.fits in
    (fits.0 + MOST_KEYS * c.loop-commit.commit-index, omega (arith, fits.1, c.loop-commit-test.true), c.loop-commit.invariant.fits fits.0 fits.2)

pub loop-commit-init : goal.loop-commit-init
loop-commit-init g c = record {
  table_is = refl;
  fits = λ n h. subst (λ m. AllByRecursion (g.A.Application.fits m) c.args.table.now.items) (omega arith) h;
}

pub loop-commit-preserved : goal.loop-commit-preserved
loop-commit-preserved g c =
    let was = c.loop-commit.invariant in let place = c.loop-commit.commit-index in record {
      table_is = after_more g.A.Application.rules c.args.table.now.items c.loop-commit.table.items c.perform.new.table.items c.args.commits.now place c.commit-item.result
          c.loop-commit-test.true c.commit-item.is was.table_is
          c.perform.ensures.table;
      fits = λ n h.
          let more : n + MOST_KEYS * place + MOST_KEYS ≡ n + MOST_KEYS * (place + 1) = omega arith in
          subst (λ m. AllByRecursion (g.A.Application.fits m) c.perform.new.table.items) more (c.perform.ensures.fits (n + MOST_KEYS * place) (was.fits n h));
    }

pub returns-clause-table : goal.returns-clause-table
returns-clause-table g c =
    c.loop-commit.invariant.table_is
    ∙ ap (table_after g.A.Application.rules c.args.table.now.items) (take_all c.loop-commit.commit-index c.args.commits.now c.loop-commit-test.false)

pub returns-clause-fits : goal.returns-clause-fits
returns-clause-fits g c n h =
    let all : n + MOST_KEYS * c.loop-commit.commit-index ≡ n + MOST_KEYS * length c.args.commits.now = omega (arith, c.loop-commit-test.false, c.loop-commit.auto.commit-index-end) in
    subst (λ m. AllByRecursion (g.A.Application.fits m) c.loop-commit.table.items) all (c.loop-commit.invariant.fits n h)
