use Rattle.std.proofs.Common.{sym, ◌∙◌, arith}
use Rattle.published_parts.proofs.Prefixes.{prefix_whole}
use Rattle.application_window.proofs.table_copy.TableCopy.parts_after.Goals as goal

pub returns-clause-parts : goal.returns-clause-parts
returns-clause-parts g c =
    sym (prefix_whole c.self.inside.parts c.longer-parts.result c.longer-parts.ensures.this (omega arith)) ∙ c.self.view_is
