use Rattle.std.proofs.Common.{◌<◌, length, arith, subst}
use Rattle.worker_journals.proofs.HistoryLemmas.{holds_yet, one_closed, others_open}
use Rattle.worker_journals.specs.Journals.{IsJournalOf}
use Rattle.worker_journals.proofs.history.close_all.Goals as goal

pub close_one-requires : goal.close_one-requires
close_one-requires c = record {
  asked = λ scripts is.
      let now = c.loop-journal.journals in let i = c.loop-journal.journal-index in
      let within : i < length now = omega (arith, c.loop-journal-test.true, c.loop-journal.auto.journals) in
      subst (IsJournalOf scripts.now) c.journal-item.is
      (holds_yet c.args.journals.now now i c.journal-item.result within c.journal-item.is c.loop-journal.invariant.open_yet (IsJournalOf scripts.now) (c.requires.asked scripts is));
}

pub loop-journal-preserved : goal.loop-journal-preserved
loop-journal-preserved c =
    let inv = c.loop-journal.invariant in let now = c.loop-journal.journals in
    let i = c.loop-journal.journal-index in
    let within : i < length now = omega (arith, c.loop-journal-test.true, c.loop-journal.auto.journals) in
    let journal = c.journal-item.result in record {
      closed = one_closed c.args.journals.now now i journal within c.journal-item.is inv.open_yet c.close_one.new.journal c.in_ok-close_one.ensures inv.closed;
      open_yet = others_open c.args.journals.now now i journal within c.journal-item.is inv.open_yet c.close_one.new.journal c.in_ok-close_one.ensures;
    }
