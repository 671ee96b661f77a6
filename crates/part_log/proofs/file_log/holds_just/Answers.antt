use Rattle.std.{proofs.Common.{rules, ◌≤◌, ◌-◌, arith, length}, specs.Prelude.{IfSome}}
use Rattle.part_log.proofs.KeptLemmas.{all_there, given_there, holds_all, holds_less, no_bytes_there}
use Rattle.part_log.proofs.file_log.holds_just.Goals.{else-count-gt0-via-then-count-gt0+in_ok-read_at+else-branch-eq0, else-count-gt0-via-else-count-gt0}
use Rattle.part_log.proofs.file_log.holds_just.Goals as goal

pub returns-then-branch-eq0 : goal.returns-then-branch-eq0
returns-then-branch-eq0 g c = record {
  just = holds_less (g.F.AppendFile.held c.args.file.now) c.args.count _ (omega (arith, c.if-count-gt0.true)) (c.in_ok-read_at.ensures.end c.if-branch-eq0.true (search rules));
}

pub returns : goal.returns
returns g c =
    let held = g.F.AppendFile.held c.args.file.now in
    let there : IfSome held (λ bytes. c.args.count ≤ length bytes) = elim c.else-count-gt0.branch [
      | else-count-gt0-via-then-count-gt0+in_ok-read_at+else-branch-eq0 w ↦ all_there held c.args.count (c.args.count - 1) (omega arith)
          (given_there held (c.args.count - 1) w.in_ok-read_at.field-0 w.read_at.new.buffer w.in_ok-read_at.ensures.bound (omega (arith, w.if-branch-eq0.false)) w.in_ok-read_at.ensures.read)
      | else-count-gt0-via-else-count-gt0 w ↦ no_bytes_there held c.args.count (omega (arith, w.if-count-gt0.false))
    ] in record {
      just = holds_all held c.args.count c.in_ok-read_at-2.field-0 there (λ none. c.in_ok-read_at-2.ensures.end none (search rules))
          (λ some. given_there held c.args.count c.in_ok-read_at-2.field-0 c.read_at-2.new.buffer c.in_ok-read_at-2.ensures.bound some c.in_ok-read_at-2.ensures.read);
    }
