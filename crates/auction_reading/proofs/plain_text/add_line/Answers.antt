use Rattle.std.proofs.{Common.{◌≡◌, ◌&&◌, arith, false}, lemmas.Bool.{and_left, and_right}}
use Rattle.auction_reading.proofs.SaidLemmas.{reads_line, reads_no_line}
use Rattle.auction_reading.proofs.plain_text.add_line.Goals.{else-said-via-then-said+else-progress, else-said-via-else-said}
use Rattle.auction_reading.proofs.plain_text.add_line.Goals as goal

pub returns : goal.returns
returns c =
    let said = c.args.said.now in let old = c.args.progress.now in
    let early : (said.is_row && old.begun) ≡ false = elim c.else-said.branch [
      | else-said-via-then-said+else-progress w ↦ and_right said.is_row old.begun w.if-progress.false
      | else-said-via-else-said w ↦ and_left said.is_row old.begun w.if-said.false
    ] in record {
      reads = λ text line. reads_line old c.add.new.progress text c.args.at said c.args.next line c.in_ok-add.ensures.adds c.requires.room (omega (arith, c.if-said-len.false, c.len.ensures)) early;
      fails = tt;
    }

pub returns-then-said-len-clause-reads : goal.returns-then-said-len-clause-reads
returns-then-said-len-clause-reads c text line = reads_no_line c.args.progress.now text c.args.at (omega (arith, line.after, line.within)) c.requires.room

pub returns-then-progress-clause-reads : goal.returns-then-progress-clause-reads
returns-then-progress-clause-reads c text line = reads_no_line c.args.progress.now text c.args.at (omega (arith, line.after, line.within)) c.requires.room
