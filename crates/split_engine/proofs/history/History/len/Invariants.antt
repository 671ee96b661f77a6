use Rattle.std.{proofs.Common.{◌≡◌, ◌≤◌, length, take}, specs.List.{flat_map}}
use Rattle.split_engine.specs.declared.state.TheConstants.{MOST_COMMITS}
use Rattle.split_engine.proofs.history.History.len.Given as goal

abbrev pub invariant-loop-piece : goal.invariant-loop-piece
invariant-loop-piece g l = record {
  counted : length l.self ≤ MOST_COMMITS → l.len ≡ length (flat_map (λ piece. piece.items) (take l.piece-index l.piece-items));
}
