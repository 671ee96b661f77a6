use Rattle.std.proofs.{Common.{arith, ◌≤◌, ◌+◌, ◌-◌, take, drop}, lemmas.Grind.{common_steps}}
use Rattle.record_reading.proofs.BufferLemmas.{ends_later, held, moved}
use Rattle.auction_reading.proofs.SaidLemmas.{has_read_before, has_read_none}
use Rattle.auction_reading.specs.inner.Said.{read_by}
use Rattle.auction_reading.proofs.buffered_lines.take_lines.Goals as goal

pub read_front-requires-clause-ends : goal.read_front-requires-clause-ends
read_front-requires-clause-ends g c =
    let result = c.lines_end.result in
    let within : result ≤ c.args.filled - c.args.from = grind (arith, common_steps) in
    ends_later c.args.buffer.now c.args.from (c.args.filled - c.args.from) result within (omega arith) (c.lines_end.ensures.ends (omega arith))

pub returns-then-end-from-clause-reads : goal.returns-then-end-from-clause-reads
returns-then-end-from-clause-reads g c = has_read_none (read_by c.args.progress.now) (take c.args.filled c.args.buffer.now) c.requires.room

pub returns-clause-reads : goal.returns-clause-reads
returns-clause-reads g c =
    let buffer = c.args.buffer.now in let filled = c.args.filled in
    let end = c.args.from + c.lines_end.result in let at = c.in_ok-at.at in
    let within : end ≤ filled = grind (arith, common_steps) in
    let before : at ≤ end = grind (arith, common_steps) in
    let tail = take (filled - end) (drop end buffer) in
    rw (held buffer filled end within, c.copy_within.ensures.after, ← moved buffer at end filled before within c.requires.filled)
    (has_read_before (read_by c.args.progress.now) (read_by c.read_front.new.progress) (take end buffer) (drop at (take end buffer)) tail c.in_ok-at.ensures.reads)

pub returns-clause-some : goal.returns-clause-some
returns-clause-some g c =
    let end = c.args.from + c.lines_end.result in let at = c.in_ok-at.at in
    let within : end ≤ c.args.filled = grind (arith, common_steps) in
    let before : at ≤ end = grind (arith, common_steps) in
    λ goes_no_further. grind arith
