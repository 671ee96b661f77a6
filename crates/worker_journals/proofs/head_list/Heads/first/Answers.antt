use Rattle.std.proofs.{Common.{◌∙◌, sym}, lemmas.Bool.{eqb-true}}
use Rattle.worker_journals.proofs.HeadListLemmas.{no_first}
use Rattle.worker_journals.proofs.head_list.Heads.first.Goals as goal

pub returns-then-is_empty : goal.returns-then-is_empty
returns-then-is_empty c = no_first c.args.self.now.heads (eqb-true _ _ (sym c.is_empty.ensures ∙ c.if-is_empty.true))

pub returns : goal.returns
returns c = sym c.head.ensures
