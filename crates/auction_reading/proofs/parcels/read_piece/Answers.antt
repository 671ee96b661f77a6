use Rattle.std.proofs.Common.{arith, ◌<◌, ◌≤◌, drop}
use Rattle.auction_reading.proofs.PieceLemmas.{ends_piece, piece_length, piece_read}
use Rattle.auction_reading.{proofs.SaidLemmas.{has_read_none}, specs.inner.Said.{read_by}}
use Rattle.auction_reading.proofs.parcels.read_piece.Goals as goal

pub returns-then-end-from-clause-reads : goal.returns-then-end-from-clause-reads
returns-then-end-from-clause-reads c = has_read_none (read_by c.args.progress.now) (drop c.args.from c.args.text.now) c.requires.room

pub read_plain-requires-clause-ends : goal.read_plain-requires-clause-ends
read_plain-requires-clause-ends c =
    let some : c.args.from < c.args.end = omega (arith, c.if-end-from.false) in
    ends_piece c.args.text.now c.args.from c.args.end (omega (arith, some)) c.requires.end some (c.requires.ends some)

pub returns-in-Ok-clause-reads : goal.returns-in-Ok-clause-reads
returns-in-Ok-clause-reads c =
    let before : c.args.from ≤ c.args.end = omega (arith, c.if-end-from.false) in
    piece_read c.args.text.now c.args.from c.args.end before c.requires.end (read_by c.args.progress.now) (read_by c.read_plain.new.progress) c.in-Ok.at c.in-Ok.ensures.within c.in-Ok.ensures.reads

pub returns-in-Ok-clause-within : goal.returns-in-Ok-clause-within
returns-in-Ok-clause-within c =
    let before : c.args.from ≤ c.args.end = omega (arith, c.if-end-from.false) in
    omega (arith, c.in-Ok.ensures.within, piece_length c.args.text.now c.args.from c.args.end before c.requires.end, c.requires.end, before)
