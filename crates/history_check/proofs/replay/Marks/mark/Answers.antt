use Rattle.std.proofs.Common.{arith}
use Rattle.history_check.proofs.ScriptLemmas.{mark_made, wide_at}
use Rattle.history_check.proofs.replay.Marks.mark.Goals as goal

pub returns-clause-marked : goal.returns-clause-marked
returns-clause-marked c = λ w i below.
    let sixteen = wide_at c.args.self.now.rows.items c.args.index c.index.result.now c.args.self.now.wide c.requires.index c.index.ensures in
    mark_made c.args.self.now.rows.items c.args.worker c.args.index c.index.result.now c.index.ensures c.requires.index (omega (arith, sixteen, c.requires.worker)) w i
