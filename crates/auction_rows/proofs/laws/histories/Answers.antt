use Rattle.auction_rows.proofs.HistoryLemmas.{book_after-replays, rows_go_on, replays_parts}
use Rattle.auction_rows.specs.History.{IsRight, after_entry}
use Rattle.auction_rows.proofs.laws.histories.Goals as goal
use Rattle.phase_laws.proofs.ReplayLemmas.{replays_append}

pub returns : goal.returns
returns c = record {
  left = book_after-replays;
  rows = rows_go_on;
  parts = λ opening book first second.
      (replays_parts opening book first second, λ both. replays_append (IsRight opening) (after_entry opening) book first second both.0 both.1);
}
