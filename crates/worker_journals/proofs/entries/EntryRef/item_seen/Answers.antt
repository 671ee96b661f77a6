use Rattle.std.proofs.Common.{◌∙◌, ap}
use Rattle.worker_journals.specs.Shown.{shown_in}
use Rattle.worker_journals.proofs.entries.EntryRef.item_seen.Goals as goal

pub item_seen-requires : goal.item_seen-requires
item_seen-requires c = c.head-head.ensures.reply.within

pub returns : goal.returns
returns c = c.item_seen.ensures ∙ ap (λ reply. (shown_in reply).items) c.head-head.ensures.reply.is
