use Rattle.item_shards.proofs.CanActLemmas.{each_can, turn_can}
use Rattle.item_shards.proofs.laws.acts_can_be_done.Goals as goal

pub returns-clause-each : goal.returns-clause-each
returns-clause-each c opening number shards rooms contents book hot saw entry stands right limits room act member done =
    each_can opening number shards rooms contents book hot stands saw entry right limits room act member done

pub returns-clause-turn : goal.returns-clause-turn
returns-clause-turn c opening number shards rooms contents book hot saw entry stands right limits room =
    turn_can opening number shards rooms contents book hot stands saw entry right limits room
