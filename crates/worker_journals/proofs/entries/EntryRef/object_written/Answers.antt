use Rattle.std.proofs.Common.{◌≡◌, ◌∙◌, false, rules, sym}
use Rattle.auction_rows.specs.{Choosing.{written_by}, History.{commit}}
use Rattle.worker_journals.proofs.entries.EntryRef.object_written.Goals as goal

pub returns-then-not-answers_splittable : goal.returns-then-not-answers_splittable
returns-then-not-answers_splittable c =
    let e = c.args.self.now in let no : c.answers_splittable.result ≡ false = search rules in
    sym (c.answers_splittable.ensures no c.head.result.1.now.lists e.worker e.request)
    ∙ (λ i. written_by (commit e.worker e.request (c.head.ensures.reply.is i)))

pub returns : goal.returns
returns c =
    c.object_written.ensures c.head.result.1.now.lists
    ∙ (λ i. written_by (commit (c.worker.ensures i) (c.request.ensures i) (c.head.ensures.reply.is i)))
