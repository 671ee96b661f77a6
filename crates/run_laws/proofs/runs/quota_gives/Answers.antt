use Rattle.run_laws.proofs.QuotaLemmas.{given_reaches}
use Rattle.run_laws.proofs.runs.quota_gives.Goals as goal

pub returns : goal.returns
returns c = λ policy phase script some. given_reaches policy.joined_quota policy.split_quota some phase script
