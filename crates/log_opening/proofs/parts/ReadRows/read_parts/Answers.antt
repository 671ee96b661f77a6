use Rattle.std.proofs.Common.{arith, ◌≡◌, ◌≤◌, ◌+◌, ◌++◌, ◌∙◌, ℕ, IfSome, length, take, sym, ap, subst}
use Rattle.std.proofs.lemmas.List.{length-take-le}
use Rattle.auction_text.specs.ReadFault.TheVariants as read
use Rattle.log_opening.proofs.PartLemmas.{same_then}
use Rattle.log_opening.proofs.ReadingLemmas.{held_more, not_read, read_more, refused_after, rows_within, told_first, told_some, too_long}
use Rattle.log_opening.specs.{Opening.{IsRefusedBy, TellsFirst}, Parts.{HasNoEnd}}
use Rattle.log_opening.specs.{declared.opening.OpenFault.{OpenFault}, inner.Reading.{IsReadTo}}
use Rattle.log_opening.specs.declared.opening.OpenFault.TheVariants as fault
use Rattle.log_opening.proofs.parts.ReadRows.read_parts.Goals as goal
use Rattle.part_log.proofs.TellingLemmas.{error_is}

pub returns-in_default-clause-refused : goal.returns-in_default-clause-refused
returns-in_default-clause-refused g c =
    let first = c.args.self.now.auction in let at = c.loop.self.auction in
    let held = take c.loop.filled c.loop.buffer in let was = c.loop.invariant.read in
    refused_after (g.R.Read.remaining c.args.reader.now) (g.R.Read.remaining c.loop.reader) (g.W.Write.contents c.args.told.now) (g.W.Write.contents c.loop.told) c.loop.self held (fault.Record read.Read) first
    c.loop.invariant.same was (λ left known. not_read at.limit (length at.counters) at.opening was.book (held ++ left))

pub returns-in_default-clause-told : goal.returns-in_default-clause-told
returns-in_default-clause-told g c =
    told_first (g.R.Read.remaining c.args.reader.now) (g.R.Read.remaining c.loop.reader) (g.W.Write.contents c.args.told.now) (g.W.Write.contents c.loop.told) c.loop.self (take c.loop.filled c.loop.buffer) c.loop.invariant.read

pub returns-then-now-filled-clause-all : goal.returns-then-now-filled-clause-all
returns-then-now-filled-clause-all g c =
    let was = c.loop.invariant.read in record {
      no_end = subst HasNoEnd (sym c.in-Ok.ensures.keeps) c.loop.invariant.no_end;
      can = record { book = was.book; has = was.has; room = omega (arith, c.loop.invariant.few, c.loop-test.true) };
      end = c.in-Ok.ensures.end c.if-now-filled.true (omega (arith, c.loop.invariant.filled, c.loop.invariant.len));
      same = c.loop.invariant.same;
    }

pub returns-then-now-filled-clause-read : goal.returns-then-now-filled-clause-read
returns-then-now-filled-clause-read g c =
    let text = g.R.Read.remaining c.args.reader.now in
    let left = g.R.Read.remaining c.read_more.new.reader in
    let first = g.W.Write.contents c.args.told.now in let told = g.W.Write.contents c.loop.told in
    let more = held_more text (g.R.Read.remaining c.loop.reader) left first told c.loop.self (take c.loop.filled c.loop.buffer) (take c.in-Ok.now c.read_more.new.buffer) c.loop.invariant.read c.in-Ok.ensures.reads in
    subst (λ (n : ℕ). IsReadTo text left first told c.loop.self (take n c.read_more.new.buffer)) c.if-now-filled.true more

pub returns-in_err-filled-clause-refused : goal.returns-in_err-filled-clause-refused
returns-in_err-filled-clause-refused g c =
    let first = c.args.self.now.auction in let text = g.R.Read.remaining c.args.reader.now in
    let left = g.R.Read.remaining c.read_more.new.reader in
    let start = g.W.Write.contents c.args.told.now in let told = g.W.Write.contents c.loop.told in
    let held = take c.in-Ok.now c.read_more.new.buffer in let why = c.in_err-filled.field-0.0 in
    let was = held_more text (g.R.Read.remaining c.loop.reader) left start told c.loop.self (take c.loop.filled c.loop.buffer) held c.loop.invariant.read c.in-Ok.ensures.reads in
    error_is c.from_residual.result why (λ (f : OpenFault). IfSome text (IsRefusedBy f first)) c.from_residual.ensures
    (refused_after text left start told c.loop.self held why first c.loop.invariant.same was (λ rest known. c.in_err-filled.ensures.refused was.book was.has rest))

pub returns-in_err-filled-clause-told : goal.returns-in_err-filled-clause-told
returns-in_err-filled-clause-told g c =
    let text = g.R.Read.remaining c.args.reader.now in
    let left = g.R.Read.remaining c.read_more.new.reader in
    let start = g.W.Write.contents c.args.told.now in let told = g.W.Write.contents c.loop.told in
    let next = g.W.Write.contents c.take_lines.new.told in
    let held = take c.in-Ok.now c.read_more.new.buffer in
    let was = held_more text (g.R.Read.remaining c.loop.reader) left start told c.loop.self (take c.loop.filled c.loop.buffer) held c.loop.invariant.read c.in-Ok.ensures.reads in
    error_is c.from_residual.result c.in_err-filled.field-0.0 (λ (f : OpenFault). TellsFirst text start next) c.from_residual.ensures
    (told_some text left start told next c.loop.self held was c.in_err-filled.ensures.told)

pub overflow_add-result : goal.overflow_add-result
overflow_add-result g c =
    let was = c.loop.invariant.read in let tells = c.in_ok-filled.ensures.reads was.book was.has in
    omega (arith, rows_within c.take_lines.new.self (was.book ++ tells.more) tells.has, c.in_ok-filled.ensures.leaves.kept, c.loop.invariant.few, c.loop-test.true, c.in-Ok.ensures.within, c.read_more.ensures.len, c.loop.invariant.len)

pub returns-then-filled-gt-LONGEST_ROW-clause-refused : goal.returns-then-filled-gt-LONGEST_ROW-clause-refused
returns-then-filled-gt-LONGEST_ROW-clause-refused g c =
    let first = c.args.self.now.auction in let text = g.R.Read.remaining c.args.reader.now in
    let left = g.R.Read.remaining c.read_more.new.reader in
    let start = g.W.Write.contents c.args.told.now in let told = g.W.Write.contents c.loop.told in
    let next = g.W.Write.contents c.take_lines.new.told in let new = c.take_lines.new.self in
    let longer = take c.in-Ok.now c.read_more.new.buffer in let filled = c.in_ok-filled.filled in
    let behind = take filled c.take_lines.new.buffer in
    let was = read_more text (g.R.Read.remaining c.loop.reader) left start told next c.loop.self new (take c.loop.filled c.loop.buffer) longer behind c.loop.invariant.read c.in-Ok.ensures.reads c.in_ok-filled.ensures.reads in
    let fits : filled ≤ length c.take_lines.new.buffer = omega (arith, c.in_ok-filled.ensures.leaves.within, c.in-Ok.ensures.within, c.read_more.ensures.len, c.take_lines.ensures.len) in
    let long : length behind ≡ filled = length-take-le filled c.take_lines.new.buffer fits in
    refused_after text left start next new behind (fault.Long (new.rows + 1)) first (same_then first c.loop.self.auction new.auction c.loop.invariant.same c.in_ok-filled.ensures.leaves.same) was
    (λ rest known. too_long new.auction.limit (length new.auction.counters) new.auction.opening was.book behind rest (new.rows + 1) c.in_ok-filled.ensures.leaves.no_end
    (omega (arith, long, c.if-filled-gt-LONGEST_ROW.true)) (omega (arith, long, fits, c.take_lines.ensures.len, c.read_more.ensures.len, c.loop.invariant.len)) (ap (λ (n : ℕ). n + 1) was.has.rows))

pub returns-then-filled-gt-LONGEST_ROW-clause-told : goal.returns-then-filled-gt-LONGEST_ROW-clause-told
returns-then-filled-gt-LONGEST_ROW-clause-told g c =
    let text = g.R.Read.remaining c.args.reader.now in
    let left = g.R.Read.remaining c.read_more.new.reader in
    let start = g.W.Write.contents c.args.told.now in let told = g.W.Write.contents c.loop.told in
    let next = g.W.Write.contents c.take_lines.new.told in
    let longer = take c.in-Ok.now c.read_more.new.buffer in
    let behind = take c.in_ok-filled.filled c.take_lines.new.buffer in
    told_first text left start next c.take_lines.new.self behind
    (read_more text (g.R.Read.remaining c.loop.reader) left start told next c.loop.self c.take_lines.new.self (take c.loop.filled c.loop.buffer) longer behind c.loop.invariant.read c.in-Ok.ensures.reads c.in_ok-filled.ensures.reads)

pub loop-preserved : goal.loop-preserved
loop-preserved g c =
    let text = g.R.Read.remaining c.args.reader.now in
    let left = g.R.Read.remaining c.read_more.new.reader in
    let start = g.W.Write.contents c.args.told.now in let told = g.W.Write.contents c.loop.told in
    let next = g.W.Write.contents c.take_lines.new.told in
    let longer = take c.in-Ok.now c.read_more.new.buffer in
    let behind = take c.in_ok-filled.filled c.take_lines.new.buffer in record {
      len = c.take_lines.ensures.len ∙ c.read_more.ensures.len ∙ c.loop.invariant.len;
      filled = omega (arith, c.if-filled-gt-LONGEST_ROW.false);
      few = omega (arith, c.in_ok-filled.ensures.leaves.kept, c.loop.invariant.few, c.in-Ok.ensures.within, c.read_more.ensures.len, c.loop.invariant.len);
      same = same_then c.args.self.now.auction c.loop.self.auction c.take_lines.new.self.auction c.loop.invariant.same c.in_ok-filled.ensures.leaves.same;
      no_end = c.in_ok-filled.ensures.leaves.no_end;
      read = read_more text (g.R.Read.remaining c.loop.reader) left start told next c.loop.self c.take_lines.new.self (take c.loop.filled c.loop.buffer) longer behind c.loop.invariant.read c.in-Ok.ensures.reads c.in_ok-filled.ensures.reads;
    }

pub returns-clause-refused : goal.returns-clause-refused
returns-clause-refused g c =
    let first = c.args.self.now.auction in let at = c.loop.self.auction in
    let held = take c.loop.filled c.loop.buffer in let was = c.loop.invariant.read in
    refused_after (g.R.Read.remaining c.args.reader.now) (g.R.Read.remaining c.loop.reader) (g.W.Write.contents c.args.told.now) (g.W.Write.contents c.loop.told) c.loop.self held (fault.Record read.Read) first
    c.loop.invariant.same was (λ left known. not_read at.limit (length at.counters) at.opening was.book (held ++ left))

pub returns-clause-told : goal.returns-clause-told
returns-clause-told g c =
    told_first (g.R.Read.remaining c.args.reader.now) (g.R.Read.remaining c.loop.reader) (g.W.Write.contents c.args.told.now) (g.W.Write.contents c.loop.told) c.loop.self (take c.loop.filled c.loop.buffer) c.loop.invariant.read
