use Rattle.phase_permits.proofs.PermitLemmas.{commit_explained}
use Rattle.closing_laws.proofs.commits.commits_stay_explained.Goals as goal

pub returns : goal.returns
returns c = commit_explained
