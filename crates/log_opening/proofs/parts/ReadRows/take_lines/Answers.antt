use Rattle.std.proofs.Common.{arith, ◌≡◌, ◌-◌, ◌∙◌, ◌++◌, ℕ, List, length, take, sym, ap}
use Rattle.auction_rows.specs.Book.{Book}
use Rattle.log_opening.proofs.ReadingLemmas.{lines_of, moved_up, none_ends, refused_front, split_at, tells_front, tells_none, tells_some}
use Rattle.log_opening.proofs.WholeLines.{whole_lines_are}
use Rattle.log_opening.specs.declared.opening.OpenFault.{OpenFault}
use Rattle.log_opening.specs.inner.Reading.{HasRead, IsRefusedBehind, TellsSome}
use Rattle.log_opening.proofs.parts.ReadRows.take_lines.Goals as goal
use Rattle.part_log.proofs.TellingLemmas.{error_is}

pub add_lines-requires-clause-lines : goal.add_lines-requires-clause-lines
add_lines-requires-clause-lines g c =
    let buffer = c.args.buffer.now in let held = take c.args.filled buffer in
    let whole = c.lines_end-whole.result in
    let split = split_at buffer c.args.filled whole c.lines_end-whole.ensures.within c.requires.filled in
    let are = whole_lines_are held whole c.lines_end-whole.ensures.within c.lines_end-whole.ensures.ends c.lines_end-whole.ensures.rest in
    lines_of held (take whole buffer) split.rest whole are split.is split.long

pub returns-in_err-add_lines-clause-refused : goal.returns-in_err-add_lines-clause-refused
returns-in_err-add_lines-clause-refused g c =
    let auction = c.args.self.now.auction in let buffer = c.args.buffer.now in
    let filled = c.args.filled in let whole = c.lines_end-whole.result in
    let fault = c.in_err-add_lines.field-0.0 in
    let split = split_at buffer filled whole c.lines_end-whole.ensures.within c.requires.filled in
    error_is c.from_residual.result fault (λ (told : OpenFault). (book : Book) → HasRead c.args.self.now book → (behind : List ℕ)
    → IsRefusedBehind told auction book (take filled buffer ++ behind)) c.from_residual.ensures
    (λ book has behind. refused_front fault auction.limit (length auction.counters) auction.opening book (take filled buffer) (take whole buffer) split.rest behind split.is
    (omega (arith, split.long, split.low, c.requires.filled, c.requires.part)) (c.in_err-add_lines.ensures.refused book has))

pub returns-in_err-add_lines-clause-told : goal.returns-in_err-add_lines-clause-told
returns-in_err-add_lines-clause-told g c =
    let held = take c.args.filled c.args.buffer.now in
    let told = g.W.Write.contents c.args.told.now in
    error_is c.from_residual.result c.in_err-add_lines.field-0.0 (λ (fault : OpenFault). TellsSome held told told) c.from_residual.ensures (tells_none held told)

pub returns-in-Err-clause-told : goal.returns-in-Err-clause-told
returns-in-Err-clause-told g c =
    let buffer = c.args.buffer.now in let filled = c.args.filled in
    let whole = c.lines_end-whole.result in
    let split = split_at buffer filled whole c.lines_end-whole.ensures.within c.requires.filled in
    let reads = c.in_ok-add_lines.ensures.reads c.requires.can.book c.requires.can.has in
    tells_some c.add_lines.new.self c.requires.can.book (take filled buffer) (take whole buffer) split.rest (g.W.Write.contents c.args.told.now) (g.W.Write.contents c.write_last.new.writer) split.is reads c.in-Err.ensures.part.1

pub returns-clause-reads : goal.returns-clause-reads
returns-clause-reads g c = λ book has.
    let buffer = c.args.buffer.now in let filled = c.args.filled in
    let whole = c.lines_end-whole.result in
    let split = split_at buffer filled whole c.lines_end-whole.ensures.within c.requires.filled in
    let moved : take filled buffer ≡ take whole buffer ++ take (filled - whole) c.copy_within.new.self =
    moved_up buffer whole filled split.low c.requires.filled ∙ ap (λ (b : List ℕ). take whole buffer ++ take (filled - whole) b) (sym c.copy_within.ensures.after) in
    tells_front c.add_lines.new.self book (take filled buffer) (take whole buffer) (take (filled - whole) c.copy_within.new.self) (g.W.Write.contents c.args.told.now) (g.W.Write.contents c.write_last.new.writer) moved
    (c.in_ok-add_lines.ensures.reads book has) c.in-Ok.ensures.whole

pub returns-clause-leaves : goal.returns-clause-leaves
returns-clause-leaves g c =
    let buffer = c.args.buffer.now in let filled = c.args.filled in
    let whole = c.lines_end-whole.result in
    let split = split_at buffer filled whole c.lines_end-whole.ensures.within c.requires.filled in
    let moved : take filled buffer ≡ take whole buffer ++ take (filled - whole) c.copy_within.new.self =
    moved_up buffer whole filled split.low c.requires.filled ∙ ap (λ (b : List ℕ). take whole buffer ++ take (filled - whole) b) (sym c.copy_within.ensures.after) in
    let are = whole_lines_are (take filled buffer) whole c.lines_end-whole.ensures.within c.lines_end-whole.ensures.ends c.lines_end-whole.ensures.rest in
    record {
      within = omega arith;
      no_end = none_ends (take filled buffer) (take whole buffer) (take (filled - whole) c.copy_within.new.self) whole are moved split.long;
      kept = omega (arith, c.in_ok-add_lines.ensures.kept, split.long, split.low);
      same = c.add_lines.ensures.same;
    }
