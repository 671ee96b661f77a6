use Rattle.std.proofs.Common.{sym, ◌∙◌}
use Rattle.phase_floor.proofs.adding.answer_to_store.Goals as goal

pub returns-then-is_view : goal.returns-then-is_view
returns-then-is_view c = λ book counts. sym c.is_view.ensures ∙ c.if-is_view.true

pub returns : goal.returns
returns c = λ book counts. (
  sym c.is_view.ensures ∙ c.if-is_view.false,
  c.next_reply.ensures book (λ i. record { items = counts.items i; bids = counts.bids i; comments = counts.comments i; buys = counts.buys i }),
)

pub next_reply-requires : goal.next_reply-requires
next_reply-requires c = sym c.is_view.ensures ∙ c.if-is_view.false
