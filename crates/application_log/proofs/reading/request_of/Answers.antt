use Rattle.std.proofs.Common.{subst}
use Rattle.application_log.{proofs.LineLemmas.{unwritten}, specs.Lines.{IsWritten}}
use Rattle.application_log.proofs.reading.request_of.Goals as goal

pub returns-then-not-is_logged-clause-only : goal.returns-then-not-is_logged-clause-only
returns-then-not-is_logged-clause-only g c q fits is =
    let line = g.A.Loggable.line in let one = c.in-Some.ensures q fits is in
    let none = (unwritten (line c.in-Some.request) c.clear.new.self.items c.write_line.new.buffer.items
    (subst (IsWritten (line c.in-Some.request) c.clear.new.self.items c.write_line.new.buffer.items) c.if-not-is_logged.true c.in_ok-is_logged.ensures.line)).0 in
    cc (one, none, is)

pub returns-clause-only : goal.returns-clause-only
returns-clause-only g c q fits is = c.in-Some.ensures q fits is
