use Rattle.std.proofs.BufReadLemmas.{Consumes_shown}
use Rattle.std.proofs.Common.{◌≡◌, ◌+◌, ◌++◌, ◌∙◌, true, List, ℕ, ap, arith, subst, sym, take}
use Rattle.std.specs.Io.BufRead.{FillKeeps}
use Rattle.history_check.{proofs.LineLemmas.{held_line}, specs.inner.Reading.{ReadsLine}}
use Rattle.history_check.proofs.history.take_held.Goals as goal

pub returns-clause-line : goal.returns-clause-line
returns-clause-line g c =
    let old = g.R.Read.remaining c.args.reader.now in
    let new = g.R.Read.remaining c.consume.new.self in let held = c.in-Ok.held.now in
    let place = c.in-Some.place in let (none, here) = c.in-Some.ensures in
    let rested = c.fill_buf.follows.lender-at-none in
    let filled = subst (FillKeeps old (g.R.Read.remaining rested) (g.R.BufRead.consumable_len rested)) c.in-Ok.is c.fill_buf.follows.holds-at-none in
    let taken = Consumes_shown old (g.R.Read.remaining rested) new (g.R.BufRead.consumable_len rested) held (place + 1) (omega (arith, none.high)) c.in-Ok.ensures.front c.in-Ok.ensures.end
    filled.0 filled.1 c.consume.ensures.bytes in
    let line : c.extend_from_slice.new.self.items ≡ take (place + 1) held = c.in_ok-extend_from_slice.ensures.items ∙ ap (λ (xs : List ℕ). xs ++ take (place + 1) held) c.requires in
    subst (ReadsLine old new true) (sym line) (held_line old new held place none.high here (λ k less. none.before k (omega arith) less) taken.0)
