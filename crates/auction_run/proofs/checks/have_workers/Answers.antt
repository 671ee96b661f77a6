use Rattle.std.proofs.{Common.{◌≤◌, arith, length}, lemmas.Grind.{common_steps}}
use Rattle.auction_run.proofs.checks.have_workers.Goals as goal

pub returns : goal.returns
returns g c =
    let few : length (g.S.Scripts.asked c.args.scripts.now) ≤ 16 = omega (arith, c.if-workers-gt-MOST_WORKERS.false) in
    grind (few, arith, common_steps)
