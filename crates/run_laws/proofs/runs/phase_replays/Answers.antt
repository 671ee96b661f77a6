use Rattle.run_laws.proofs.BookLemmas.{phase_replayed, left_is_book}
use Rattle.run_laws.proofs.runs.phase_replays.Goals as goal

pub returns : goal.returns
returns g c = record {
  replayed = λ opening start history segment. phase_replayed opening start history segment g.P.PhaseBooks.Before g.P.PhaseBooks.After;
  book = left_is_book;
}
