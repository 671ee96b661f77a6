use Rattle.closing_laws.proofs.ListLemmas.{follow_what_they_share}
use Rattle.closing_laws.proofs.numbers_follow_what_entries_share.Goals as goal

pub returns : goal.returns
returns c = follow_what_they_share
