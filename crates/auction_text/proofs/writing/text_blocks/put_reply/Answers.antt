use Rattle.std.proofs.Common.{arith, ◌≡◌, ◌+◌, ◌++◌, ◌∙◌, ℕ, ap}
use Rattle.auction_text.proofs.PutLemmas.{line_put, none_put, part_of_line, put_failed}
use Rattle.auction_text.specs.{Replies.{reply_line}, inner.Putting.{line_after}}
use Rattle.auction_text.proofs.writing.text_blocks.put_reply.Goals as goal

pub returns-in_default : goal.returns-in_default
returns-in_default g c = none_put g.W.Write.contents c.args.writer.now c.args.block.now c.args.block.now (line_after c.args.gone c.args.entry.now)

pub returns-in_err-make_room : goal.returns-in_err-make_room
returns-in_err-make_room g c =
    let part = c.in_err-make_room.ensures.puts.part in
    put_failed g.W.Write.contents _ _ _ _ _ c.from_residual.result c.in_err-make_room.field-0.0 c.from_residual.ensures.1 part.0
    (part_of_line _ _ c.args.block.now (line_after c.args.gone c.args.entry.now) part.1)

pub returns : goal.returns
returns g c =
    let index : c.in-Some.index ≡ c.args.gone + c.args.entry.now.index = omega arith in record {
      whole = line_put _ _ _ _ _ (line_after c.args.gone c.args.entry.now) c.in_ok-make_room.ensures.puts.whole
          (c.put_reply_line.ensures ∙ ap (λ (n : ℕ). c.make_room.new.block ++ reply_line (record c.args.entry.now { index = n })) index);
      part = tt;
    }
