use Rattle.phase_permits.proofs.Keeping.{commit_keeps}
use Rattle.closing_laws.proofs.commits.commits_keep_work.Goals as goal

pub returns : goal.returns
returns c = commit_keeps
