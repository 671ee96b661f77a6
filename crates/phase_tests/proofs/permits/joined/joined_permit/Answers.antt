use Rattle.std.proofs.{Common.{refl, ap, ◌∙◌, arith}, lemmas.Bool.{false≢true}}
use Rattle.worker_journals.specs.Journals.{JournalView}
use Rattle.phase_tests.proofs.permits.joined.joined_permit.Goals as goal

pub new-requires : goal.new-requires
new-requires g c =
    let journal = c.in_ok-journal.ensures in let zero = c.default-counters.ensures in
    let none = zero.1.1.1.1 in record {
      key = c.requires.unused;
      worker = ap (λ (j : JournalView). j.worker) journal ∙ c.worker.ensures.value;
      empty = ap (λ (j : JournalView). j.entries) journal;
      identities = refl;
      room = omega (arith, c.requires.few, ap (λ (j : JournalView). j.room) journal);
      stash_room = tt;
      limit = omega (arith, c.requires.few, none);
      counted = record { items = omega (arith, zero.0, none); bids = omega (arith, zero.1.0, none); comments = omega (arith, zero.1.1.0, none); buys = omega (arith, zero.1.1.1.0, none) };
      stored = λ item hot own. absurd (false≢true hot);
    }
