use Rattle.phase_permits.proofs.UntouchedLemmas.{commit_leaves, failure_leaves}
use Rattle.closing_laws.proofs.commits.empty_footprints_leave_keys.Goals as goal

pub returns-clause-commits : goal.returns-clause-commits
returns-clause-commits c = commit_leaves

pub returns-clause-failures : goal.returns-clause-failures
returns-clause-failures c = failure_leaves
