use Rattle.std.proofs.Common.{◌∙◌}
use Rattle.worker_journals.proofs.entries.EntryRef.reply.Goals as goal

pub reply-requires : goal.reply-requires
reply-requires c = c.head-head.ensures.reply.within

pub returns : goal.returns
returns c = c.reply.ensures ∙ c.head-head.ensures.reply.is
