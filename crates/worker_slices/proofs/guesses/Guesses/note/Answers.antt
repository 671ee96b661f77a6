use Rattle.std.proofs.Common.{arith}
use Rattle.auction_rows.specs.Requests.{shard_of}
use Rattle.worker_slices.proofs.GuessLemmas.{written_elsewhere, written_there}
use Rattle.worker_slices.proofs.guesses.Guesses.note.Goals as goal

pub returns-clause-noted : goal.returns-clause-noted
returns-clause-noted c = written_there c.args.self.now.places c.guess_for.result _ _ c.guess_for.ensures.place (omega arith)

pub returns-clause-kept : goal.returns-clause-kept
returns-clause-kept c other may = written_elsewhere c.args.self.now.places c.guess_for.result (shard_of other 64) _ (omega arith) may
