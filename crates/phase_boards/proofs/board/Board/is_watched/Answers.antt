use Rattle.std.proofs.lemmas.Bool.{true≢false}
use Rattle.phase_boards.proofs.board.Board.is_watched.Goals as goal

pub returns : goal.returns
returns g c unwatched = absurd (true≢false unwatched)
