use Rattle.std.proofs.Common.{ap, ◌∙◌}
use Rattle.phase_laws.{proofs.NumberLemmas.{last-push}, specs.Numbers.{last_by}}
use Rattle.worker_journals.specs.Journals.{JournalView, entry_number}
use Rattle.state_tests.proofs.journal_tests.commit.Goals as goal

pub push-requires-clause-after : goal.push-requires-clause-after
push-requires-clause-after g c = c.numbers_come_after.ensures _ _ c.requires.after

pub returns-clause-last : goal.returns-clause-last
returns-clause-last g c = ap (λ (j : JournalView). last_by entry_number 0 j.entries) c.push.ensures.pushed ∙ last-push entry_number 0 c.args.journal.now.entries _
