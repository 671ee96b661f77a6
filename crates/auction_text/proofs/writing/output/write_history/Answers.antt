use Rattle.std.proofs.Common.{ap, subst}
use Rattle.auction_text.{proofs.MovedLemmas.{none_moved}, specs.Moved.{gone_by}}
use Rattle.auction_text.specs.Replies.{history_text}
use Rattle.auction_text.proofs.writing.output.write_history.Goals as goal
use Rattle.byte_texts.specs.Writing.{WritesText}

pub returns : goal.returns
returns g c =
    subst (λ text. WritesText g.W.Write.contents c.args.writer.now c.write_history_on.new.writer text c.write_history_on.result)
    (ap history_text (none_moved (gone_by c.none.result) c.args.history.now.entries c.none.ensures.phases c.none.ensures.requests)) c.write_history_on.ensures
