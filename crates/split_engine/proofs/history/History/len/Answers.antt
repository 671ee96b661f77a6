use Rattle.std.proofs.Common.{◌≡◌, ◌+◌, length, ap, arith}
use Rattle.split_engine.proofs.Pieces.{flat-take, flat-part}
use Rattle.split_engine.proofs.history.History.len.Goals as goal

pub loop-piece-preserved : goal.loop-piece-preserved
loop-piece-preserved g c =
    let pieces = c.pieces-piece-items.result.now in let place = c.loop-piece.piece-index in let piece = c.piece-item.result in record {
      counted = λ few.
          let was = c.loop-piece.invariant.counted few in
          let grown = flat-take (λ piece. piece.items) pieces place piece c.loop-piece-test.true c.piece-item.is in
          let part = flat-part (λ piece. piece.items) pieces (place + 1) in
          let whole = ap length c.pieces-piece-items.ensures in
          omega (arith, few, was, grown, part, whole, piece.ok.0, c.len.ensures, c.saturating_add-len.ensures);
    }
