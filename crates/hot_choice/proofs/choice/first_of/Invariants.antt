use Rattle.std.proofs.Common.{◌≡◌, map, take}
use Rattle.hot_choice.proofs.choice.first_of.Given as goal

-- the objects of the candidates so far
abbrev pub invariant-loop-candidate : goal.invariant-loop-candidate
invariant-loop-candidate l = l.hot.keys ≡ map (λ c. c.object) (take l.candidate-index l.candidates)
