use Rattle.std.proofs.Common.{arith, subst}
use Rattle.worker_journals.proofs.RisingLemmas.{entries_from, none_rise}
use Rattle.worker_journals.specs.{Journals.{JournalView}, Rising.{EntriesRiseTo}}
use Rattle.worker_journals.proofs.journal.Journal.rising_from.Goals as goal

pub returns-in-None : goal.returns-in-None
returns-in-None c =
    let j = c.self.inside in
    subst (λ (journal : JournalView). EntriesRiseTo c.args.from journal.entries c.args.from) c.self.view_is
    (none_rise j.phase j.worker j.sides c.args.from j.heads.heads c.in-None.ensures)

pub returns-in-Some : goal.returns-in-Some
returns-in-Some c =
    let j = c.self.inside in
    subst (λ (journal : JournalView). EntriesRiseTo c.args.from journal.entries j.next) c.self.view_is
    (entries_from j.phase j.worker j.sides c.args.from j.next j.heads.heads c.in-Some.first c.in-Some.ensures (c.self.invariant.1 c.if-self.true) (omega (arith, c.if-from.true, c.from.ensures)))
