use Rattle.std.proofs.{Common.{arith, Ok}, lemmas.Result.{IfOk-weaker}}
use Rattle.auction_text.{proofs.EachLemmas.{made_at}, specs.inner.Workers.{AreEach, replies_of}}
use Rattle.auction_text.proofs.writing.reply_order.worker_texts.Goals as goal

pub returns-clause-each : goal.returns-clause-each
returns-clause-each g c = IfOk-weaker c.all_made.result _ (λ texts. AreEach (replies_of c.args.history.now.entries) texts.items) (λ texts same place text is.
    let there = made_at c.in_ok-made.made.items texts.items place text same is in
    let len = c.in_ok-made.ensures.len in
    let call = (c.in_ok-made.ensures.each place (Ok text) (omega (arith, there.0, len))).1 in
    rw there.1 at call.met) c.all_made.ensures
