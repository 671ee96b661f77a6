use Rattle.std.proofs.{Common.{arith}, lemmas.Bool.{le-leb, leb-true}}
use Rattle.auction_rows.specs.declared.limits.TheConstants.{MOST_OF_A_WORKER}
use Rattle.auction_run.proofs.checks.is_short_on.Goals as goal

pub returns-then-asked-le-MOST_OF_A_WORKER : goal.returns-then-asked-le-MOST_OF_A_WORKER
returns-then-asked-le-MOST_OF_A_WORKER g c =
    let asked = c.requests_of-asked.ensures in let few = c.if-asked-le-MOST_OF_A_WORKER.true in let own = c.stored_by.ensures in let limit = c.limit.ensures.limit in (
      λ yes. let fits = leb-true _ _ yes in (omega (arith, asked, few), omega (arith, asked, own.stored, c.from-stored.ensures, limit, fits)),
      λ short. le-leb _ _ (omega (arith, asked, own.stored, c.from-stored.ensures, limit, short.1)),
    )

pub returns-else-asked-le-MOST_OF_A_WORKER : goal.returns-else-asked-le-MOST_OF_A_WORKER
returns-else-asked-le-MOST_OF_A_WORKER g c =
    let many = c.if-asked-le-MOST_OF_A_WORKER.false in (
      λ yes. absurd (omega (arith, many, leb-true c.requests_of-asked.result MOST_OF_A_WORKER yes)),
      λ short. absurd (omega (arith, c.requests_of-asked.ensures, many, short.0)),
    )
