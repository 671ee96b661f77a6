use Rattle.published_parts.proofs.CopyLemmas.{of_some_copy}
use Rattle.published_parts.proofs.copies.read.Goals as goal

pub returns-in-Ok : goal.returns-in-Ok
returns-in-Ok g c = of_some_copy g.F.FnOnce c.args.view c.get.result c.view.result _ c.ok_or-seen.result c.view.ensures c.ok_or-seen.ensures.value
