use Rattle.std.proofs.Common.{◌≡◌, length, replicate, ap, ◌∙◌, arith}
use Rattle.std.proofs.lemmas.List.{length-replicate}
use Rattle.auction_rows.specs.declared.limits.TheConstants.{MOST_OF_A_WORKER}
use Rattle.phase_transactions.specs.Workers.{no_counters}
use Rattle.phase_floor.proofs.Blank.{blank_stands, blank_kept}
use Rattle.phase_floor.proofs.joined.Joined.new.Goals as goal

pub invariant_of-result : goal.invariant_of-result
invariant_of-result c =
    let shards = c.in_ok-shards.shards in let counters = c.in_ok-counters.counters in
    let many : length (replicate c.args.workers no_counters) ≡ c.args.workers = simp length-replicate in
    blank_kept c.args.opening MOST_OF_A_WORKER shards counters.items c.args.shards c.args.workers c.in_ok-shards.ensures.blank c.in_ok-shards.ensures.count c.in_ok-counters.ensures
    (omega arith) c.requires.shards c.requires.workers (ap length c.in_ok-counters.ensures ∙ many)

pub returns-clause-stands : goal.returns-clause-stands
returns-clause-stands c =
    let shards = c.in_ok-shards.shards in let counters = c.in_ok-counters.counters in
    blank_stands c.args.opening MOST_OF_A_WORKER shards counters.items c.args.shards c.args.workers c.in_ok-shards.ensures.blank c.in_ok-shards.ensures.count c.in_ok-counters.ensures
