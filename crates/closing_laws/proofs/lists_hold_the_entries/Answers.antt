use Rattle.closing_laws.proofs.ListLemmas.{hold_the_entries}
use Rattle.closing_laws.proofs.lists_hold_the_entries.Goals as goal

pub returns : goal.returns
returns c = hold_the_entries
