use Rattle.phase_transactions.proofs.KeyLemmas.{lines_put, idle_put}
use Rattle.closing_laws.proofs.commits.one_shard_put.Goals as goal

pub returns-clause-lines : goal.returns-clause-lines
returns-clause-lines c key s seen line t known = lines_put key s seen line known t

pub returns-clause-idle : goal.returns-clause-idle
returns-clause-idle c key s seen line known = idle_put key s seen line known
