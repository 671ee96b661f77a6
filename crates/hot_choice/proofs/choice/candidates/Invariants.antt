use Rattle.std.proofs.Common.{◌≡◌, ◌++◌}
use Rattle.hot_choice.specs.inner.Ranking.{hot_ones}
use Rattle.hot_choice.proofs.choice.candidates.Given as goal

-- the candidates so far and those of the rows that are left are those of the table
abbrev pub invariant-loop-object : goal.invariant-loop-object
invariant-loop-object l = l.candidates.items ++ hot_ones l.threshold l.object-iterator ≡ hot_ones l.threshold l.heats.entries
