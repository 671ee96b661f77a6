use Rattle.auction_text.{proofs.PutLemmas.{IsTold}, specs.Moved.{all_moved, gone_by}}
use Rattle.auction_text.specs.Replies.{history_text}
use Rattle.auction_text.proofs.writing.output.put_entries.Given as goal

-- the lines so far, and those of the entries that are left
abbrev pub invariant-loop-entry : goal.invariant-loop-entry
invariant-loop-entry g l = IsTold (g.W.Write.contents l.initial.writer) l.initial.block (g.W.Write.contents l.writer) l.block
    (history_text (all_moved (gone_by l.before) l.entry-iterator)) (history_text (all_moved (gone_by l.before) l.history.entries))
