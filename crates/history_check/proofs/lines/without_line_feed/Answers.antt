use Rattle.history_check.proofs.lines.without_line_feed.Goals as goal

pub returns-in_default-clause-read : goal.returns-in_default-clause-read
returns-in_default-clause-read c = tt
