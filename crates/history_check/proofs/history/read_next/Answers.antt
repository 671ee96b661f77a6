use Rattle.std.proofs.Common.{true, false, arith}
use Rattle.history_check.proofs.LineLemmas.{kept_line, next_read, none_read}
use Rattle.history_check.proofs.history.read_next.Goals as goal

pub take_held-requires : goal.take_held-requires
take_held-requires g c = c.clear.ensures.items

pub returns-then-branch-clause-line : goal.returns-then-branch-clause-line
returns-then-branch-clause-line g c = rw c.if-branch.true at c.in_ok-take_held.ensures.line

pub returns-in-Ok-eq0-clause-line : goal.returns-in-Ok-eq0-clause-line
returns-in-Ok-eq0-clause-line g c =
    let none = rw c.if-branch.false at c.in_ok-take_held.ensures.none in
    kept_line (g.R.Read.remaining c.args.reader.now) (g.R.Read.remaining c.take_held.new.reader) (g.R.Read.remaining c.read_until.new.self) false c.read_until.new.buf.items none.0
    (none_read (g.R.Read.remaining c.take_held.new.reader) (g.R.Read.remaining c.read_until.new.self) c.read_until.new.buf.items (c.in-Ok-eq0.ensures.end c.in-Ok-eq0.field-0-test))

pub returns-in-Ok-clause-line : goal.returns-in-Ok-clause-line
returns-in-Ok-clause-line g c =
    let none = rw c.if-branch.false at c.in_ok-take_held.ensures.none in
    let now = g.R.Read.remaining c.take_held.new.reader in
    let new = g.R.Read.remaining c.read_until.new.self in
    kept_line (g.R.Read.remaining c.args.reader.now) now new true c.read_until.new.buf.items none.0
    (next_read now new c.take_held.new.line.items c.read_until.new.buf.items none.1 c.in-Ok.ensures.bytes c.in-Ok.ensures.rest (omega (arith, c.in-Ok.ensures.ok, c.in-Ok.field-0-test)))
