-- A worker that can start a phase is lawful.
use Rattle.std.proofs.Common.{◌≡◌, ◌≤◌, List, [], length, sym, ap, subst, arith}
use Rattle.phase_laws.specs.Numbers.{last_by}
use Rattle.auction_rows.specs.declared.rows.Entry.{Entry}
use Rattle.worker_journals.specs.Journals.{entry_number}
use Rattle.worker_slices.proofs.{FewLemmas.{few_more}, RowSlices.{few_rows}}
use Rattle.worker_slices.specs.Slicing.{stocks_of, HaveAtMost}
use Rattle.phase_transactions.specs.Workers.{WorkerState, CanStart, IsLawfulWorker}

pub start_lawful : (w : WorkerState) → CanStart w → IsLawfulWorker w
start_lawful w can =
    let none : length w.journal.entries ≡ 0 = ap length can.empty in let limit = can.limit in
    let room = can.room in record {
      room = record {
        counted = can.counted;
        limit = limit;
        room = omega (arith, none, room);
        latest = subst (λ (entries : List Entry). last_by entry_number 0 entries ≤ w.clock) (sym can.empty) (omega arith);
      };
      few = few_more 0 w.counters.commits w.slices (omega arith) (subst (HaveAtMost 0) (sym can.identities) (few_rows (stocks_of w.slices) []));
      stash_room = can.stash_room;
      stored = can.stored;
    }
