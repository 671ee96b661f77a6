use Rattle.std.proofs.{Common.{rules, ◌≡◌, ◌+◌, take}, lemmas.List.{length-take-le}}
use Rattle.log_file.proofs.FileLemmas.{ends_at, read_from}
use Rattle.log_file.proofs.reading.FromStartRead.read.Goals as goal

pub returns-clause-bytes : goal.returns-clause-bytes
returns-clause-bytes g c =
    let held = g.F.AppendFile.held c.args.self.now.file.now in let at = c.args.self.now.at in
    let given = c.in_ok-given.given in
    let next : c.in-Some.at ≡ at + given = search rules in (
      read_from held at given c.in-Some.at (take given c.read_at.new.buffer) next (length-take-le given c.read_at.new.buffer c.in_ok-given.ensures.bound) c.in_ok-given.ensures.read,
      λ none room. ends_at held at given c.in-Some.at next none (c.in_ok-given.ensures.end none room),
    )
