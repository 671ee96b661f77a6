use Rattle.std.{proofs.Common.{◌≡◌, ◌<◌, length}, specs.List.{list_all, AllByRecursion}}
use Rattle.split_engine.specs.inner.Phases.{is_hot}
use Rattle.split_engine.proofs.split.are_hot.Given as goal

-- the keys are all hot just if those are that are left
abbrev pub invariant-loop-key : goal.invariant-loop-key
invariant-loop-key l = record {
  same : list_all (is_hot l.hot) l.key-iterator ≡ list_all (is_hot l.hot) l.keys;
  within : AllByRecursion (λ key. key < length l.hot) l.key-iterator;
}
