use Rattle.std.proofs.Common.{◌-◌, length}
use Rattle.auction_text.proofs.{PutLemmas.{IsTold}, WorkerReplies.{replies_from}}
use Rattle.auction_text.specs.{Moved.{all_moved, gone_by}, Replies.{replies_text}}
use Rattle.auction_text.proofs.writing.reply_order.put_all_replies.Given as goal

-- the replies of the workers so far, and those of the workers that are left
abbrev pub invariant-loop-worker : goal.invariant-loop-worker
invariant-loop-worker g l = IsTold (g.W.Write.contents l.initial.writer) l.initial.block (g.W.Write.contents l.writer) l.block
    (replies_from (all_moved (gone_by l.before) l.history.entries) l.worker (length l.delayed - l.worker)) (replies_text (all_moved (gone_by l.before) l.history.entries))
