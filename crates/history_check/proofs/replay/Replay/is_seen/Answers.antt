use Rattle.std.proofs.{Common.{◌∙◌, sym, ap, subst, refl}, lemmas.Bool.{false≢true}}
use Rattle.auction_rows.specs.declared.replies.Reply.{Reply}
use Rattle.auction_text.specs.Replies.{reply_text}
use Rattle.history_check.specs.inner.Replaying.{HasCompared}
use Rattle.history_check.proofs.replay.Replay.is_seen.Goals as goal

pub returns-then-is_of-clause-compared : goal.returns-then-is_of-clause-compared
returns-then-is_of-clause-compared c = λ book holds. c.is_of.ensures.0 c.if-is_of.true ∙ ap reply_text (c.reply_to-reply.ensures book holds)

pub returns-clause-compared : goal.returns-clause-compared
returns-clause-compared c = λ book holds.
    let compared : HasCompared c.refuse.result c.reply_to-reply.result c.args.text.now c.refuse.new.self =
    rw (c.refuse.ensures.refused, c.refuse.ensures.kept) (refl, λ same. false≢true (sym c.if-is_of.false ∙ c.is_of.ensures.1 same)) in
    subst (λ (due : Reply). HasCompared c.refuse.result due c.args.text.now c.refuse.new.self) (c.reply_to-reply.ensures book holds) compared

pub returns-clause-others : goal.returns-clause-others
returns-clause-others c = rw c.refuse.ensures.kept
