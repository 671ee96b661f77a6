use Rattle.std.proofs.{Common.{arith, ◌≤◌, length}, lemmas.List.{length-take-le}}
use Rattle.auction_reading.proofs.PieceLemmas.{ends_in}
use Rattle.auction_reading.proofs.parcels.cut.Goals as goal

pub returns : goal.returns
returns c =
    let text = c.args.text.now in let part = c.min-part.result in
    let fits : part ≤ length text = omega (arith, c.min-part.ensures) in
    let within = c.lines_end.ensures.within in record {
      within = omega (arith, within, length-take-le part text fits, fits);
      ends = λ some. ends_in text part c.lines_end.result fits within (c.lines_end.ensures.ends some);
    }
