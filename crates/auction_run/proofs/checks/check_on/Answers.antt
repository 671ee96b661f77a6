use Rattle.std.proofs.{Common.{◌∙◌, sym}, lemmas.Bool.{false≢true}}
use Rattle.auction_run.proofs.checks.check_on.Goals as goal

pub returns-then-not-has_quotas-clause-checked : goal.returns-then-not-has_quotas-clause-checked
returns-then-not-has_quotas-clause-checked g c = (
  c.has_scripts.ensures.are.0 c.if-not-has_scripts.false,
  (c.if-policy-shards.false ∙ c.shards.ensures, λ quotas. false≢true (sym c.if-not-has_quotas.true ∙ c.has_quotas.ensures.1 quotas)),
)

pub returns-then-not-are_short_on-clause-checked : goal.returns-then-not-are_short_on-clause-checked
returns-then-not-are_short_on-clause-checked g c = (
  c.has_scripts.ensures.are.0 c.if-not-has_scripts.false,
  (
    c.if-policy-shards.false ∙ c.shards.ensures,
    (
      c.has_quotas.ensures.0 c.if-not-has_quotas.false,
      λ short. false≢true (sym c.if-not-are_short_on.true ∙ c.are_short_on.ensures.1 short),
    ),
  ),
)

pub returns-clause-checked : goal.returns-clause-checked
returns-clause-checked g c = (
  c.has_scripts.ensures.are.0 c.if-not-has_scripts.false,
  (c.if-policy-shards.false ∙ c.shards.ensures, (c.has_quotas.ensures.0 c.if-not-has_quotas.false, c.are_short_on.ensures.0 c.if-not-are_short_on.false)),
)
