use Rattle.history_check.proofs.ReadingLemmas.{right_line, wrong_line}
use Rattle.history_check.proofs.replay.Replay.perform.Goals as goal

pub returns-in-Some-clause-right : goal.returns-in-Some-clause-right
returns-in-Some-clause-right c =
    right_line c.args.scripts.now c.args.self.now c.perform_at.new.self c.args.line.now c.in-Some.text.now c.in-Some.commit_id c.in-Some.ensures.read c.perform_at.result c.perform_at.ensures.right

pub returns-in-Some-clause-wrong : goal.returns-in-Some-clause-wrong
returns-in-Some-clause-wrong c =
    wrong_line c.args.scripts.now c.args.self.now c.perform_at.new.self c.args.line.now c.in-Some.text.now c.in-Some.commit_id c.in-Some.ensures.read c.perform_at.result c.perform_at.ensures.wrong

pub returns-in-None-clause-right : goal.returns-in-None-clause-right
returns-in-None-clause-right c = rw c.refuse.ensures.refused tt

pub returns-in-None-clause-wrong : goal.returns-in-None-clause-wrong
returns-in-None-clause-wrong c = rw (c.refuse.ensures.refused, c.refuse.ensures.kept) (λ opening start order history taken. c.in-None.ensures.none)
