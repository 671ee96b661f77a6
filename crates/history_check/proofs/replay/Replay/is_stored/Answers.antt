use Rattle.std.{proofs.{Common.{◌∙◌, sym, ap}, lemmas.Bool.{false≢true}}, specs.Prelude.{Some}}
use Rattle.auction_rows.specs.{StoreReplies.{reply_of}, declared.replies.Reply.{Reply}}
use Rattle.history_check.specs.declared.lines.Wrong.TheVariants.{Due}
use Rattle.history_check.specs.inner.Replaying.{HasCompared}
use Rattle.history_check.proofs.replay.Replay.is_stored.Goals as goal

pub returns-then-is_of_store-clause-compared : goal.returns-then-is_of_store-clause-compared
returns-then-is_of_store-clause-compared c = c.is_of_store.ensures.0 c.if-is_of_store.true

pub returns-clause-compared : goal.returns-clause-compared
returns-clause-compared c =
    let compared : HasCompared c.refuse.result (reply_of c.args.reply) c.args.text.now c.refuse.new.self =
    rw (c.refuse.ensures.refused, c.refuse.ensures.kept)
    (ap (λ (reply : Reply). Some (Due reply)) c.reply_of.ensures, λ same. false≢true (sym c.if-is_of_store.false ∙ c.is_of_store.ensures.1 same)) in
    compared

pub returns-clause-others : goal.returns-clause-others
returns-clause-others c = rw c.refuse.ensures.kept
