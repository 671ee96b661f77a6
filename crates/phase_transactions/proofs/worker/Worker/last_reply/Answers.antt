use Rattle.std.proofs.Common.{◌≡◌, ◌-◌, ◌∙◌, Some, length, sym, ap}
use Rattle.std.specs.Prelude.{option_map, slice_get}
use Rattle.auction_rows.specs.declared.rows.Entry.{Entry}
use Rattle.phase_transactions.specs.Workers.{WorkerState, last_reply}
use Rattle.phase_transactions.proofs.worker.Worker.last_reply.Goals as goal

pub returns : goal.returns
returns g c =
    let its : length c.self.inside.journal.entries ≡ c.len.result = sym c.len.ensures.len in
    ap (λ (w : WorkerState). last_reply w.journal.entries) (sym c.self.view_is)
    ∙ ap (λ n. option_map (λ (entry : Entry). entry.reply) (slice_get c.self.inside.journal.entries (n - 1))) its
    ∙ ap (option_map (λ (entry : Entry). entry.reply)) c.entry-last.ensures.entry
    ∙ ap Some (sym c.reply.ensures)
