use Rattle.std.proofs.Common.{◌≡◌, ◌++◌, ◌∙◌, ℕ, List, ap, ap₂}
use Rattle.auction_text.proofs.PutLemmas.{line_put, none_put, part_of_line, put_failed}
use Rattle.auction_text.specs.{Moved.{gone_by, moved}, Replies.{history_line}}
use Rattle.auction_text.proofs.writing.text_blocks.put_entry.Goals as goal

pub returns-in_default : goal.returns-in_default
returns-in_default g c = none_put g.W.Write.contents c.args.writer.now c.args.block.now c.args.block.now (history_line (moved (gone_by c.args.before.now) c.args.entry.now))

pub returns-in_err-make_room : goal.returns-in_err-make_room
returns-in_err-make_room g c =
    let part = c.in_err-make_room.ensures.puts.part in
    put_failed g.W.Write.contents _ _ _ _ _ c.from_residual.result c.in_err-make_room.field-0.0 c.from_residual.ensures.1 part.0
    (part_of_line _ _ c.args.block.now (history_line (moved (gone_by c.args.before.now) c.args.entry.now)) part.1)

pub returns : goal.returns
returns g c =
    let e = c.args.entry.now in
    let place : history_line (record e { phase = c.in-Some.phase; index = c.in-Some.index }) ≡ history_line (moved (gone_by c.args.before.now) e) =
    ap₂ (λ (p i : ℕ). history_line (record e { phase = p; index = i })) c.in-Some.ensures.phase c.in-Some.ensures.index in
    record {
      whole = line_put _ _ _ _ _ (history_line (moved (gone_by c.args.before.now) e)) c.in_ok-make_room.ensures.puts.whole
          (c.put_history_line.ensures ∙ ap (λ (l : List ℕ). c.make_room.new.block ++ l) place);
      part = tt;
    }
