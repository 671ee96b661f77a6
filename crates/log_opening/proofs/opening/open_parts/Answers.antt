use Rattle.std.proofs.Common.{arith, ◌≡◌, ◌++◌, [], ℕ, List, length, drop, take, sym, ap, subst}
use Rattle.log_opening.proofs.ReadingLemmas.{any_error, begins, end_opens, end_refused, end_same, no_memory, none_read, refilled, refused_after, same_again, told_first}
use Rattle.log_opening.specs.{Opening.{TellsFirst}, Parts.{HasNoEnd}}
use Rattle.log_opening.specs.{declared.parts.ReadRows.{ReadRows}, inner.Reading.{IsReadTo}}
use Rattle.log_opening.specs.declared.opening.OpenFault.TheVariants as fault
use Rattle.log_opening.proofs.opening.open_parts.Goals as goal

pub returns-in_default-clause-refused : goal.returns-in_default-clause-refused
returns-in_default-clause-refused g c =
    let auction = c.args.auction in let text = g.R.Read.remaining c.args.reader.now in
    let told = g.W.Write.contents c.args.told.now in
    let reading : ReadRows = record { auction = auction; rows = 0; kept = 0 } in
    let was = none_read text told reading (begins auction c.requires) in
    refused_after text text told told reading [] fault.Memory auction (same_again auction) was (λ left known. no_memory auction.limit (length auction.counters) auction.opening was.book left)

pub read_parts-requires-clause-start : goal.read_parts-requires-clause-start
read_parts-requires-clause-start g c = begins c.args.auction c.requires

pub end-requires-clause-no_end : goal.end-requires-clause-no_end
end-requires-clause-no_end g c =
    let buffer = c.in-Ok.buffer in let new = c.read_parts.new.buffer in
    let same : length new ≡ length buffer.items = omega (arith, c.read_parts.ensures.len, ap length c.deref_mut.ensures.value) in
    subst (λ (b : List ℕ). HasNoEnd (take c.in_ok-filled.filled b)) (sym (refilled buffer.len new buffer.items same (sym buffer.ok.0))) c.in_ok-filled.ensures.all.no_end

pub end-requires-clause-can : goal.end-requires-clause-can
end-requires-clause-can g c = c.in_ok-filled.ensures.all.can

pub returns : goal.returns
returns g c =
    let text = g.R.Read.remaining c.args.reader.now in
    let left = g.R.Read.remaining c.read_parts.new.reader in
    let told = g.W.Write.contents c.args.told.now in
    let next = g.W.Write.contents c.read_parts.new.told in let buffer = c.in-Ok.buffer in
    let new = c.read_parts.new.buffer in let filled = c.in_ok-filled.filled in
    let reading = c.read_parts.new.self in
    let same : length new ≡ length buffer.items = omega (arith, c.read_parts.ensures.len, ap length c.deref_mut.ensures.value) in
    let is = sym (refilled buffer.len new buffer.items same (sym buffer.ok.0)) in
    let held = take filled (take buffer.len (new ++ drop (length new) buffer.items)) in
    let was : IsReadTo text left told next reading held = subst (λ (b : List ℕ). IsReadTo text left told next reading (take filled b)) is c.in_ok-filled.ensures.read in
    record {
      opens = end_opens text left told next reading held was c.in_ok-filled.ensures.all.end c.end.result (subst (λ (b : List ℕ). HasNoEnd (take filled b)) is c.in_ok-filled.ensures.all.no_end)
          c.end.ensures.opens c.end.ensures.tail c.end.ensures.cut;
      same = end_same c.args.auction reading c.end.result c.in_ok-filled.ensures.all.same c.end.ensures.opens;
      refused = end_refused text left told next reading held was c.in_ok-filled.ensures.all.end c.args.auction c.end.result c.in_ok-filled.ensures.all.same c.end.ensures.refused;
      told = any_error c.end.result (TellsFirst text told next) (told_first text left told next reading (take filled new) c.in_ok-filled.ensures.read);
    }
