use Rattle.std.proofs.Common.{◌∙◌, [], true, false, arith, subst}
use Rattle.item_shards.specs.OpeningBooks.{opening_of, rows_of_book}
use Rattle.history_check.proofs.ReadingLemmas.{all_found, begins, fault_is, finds, goes_on, lack_found, many_read, one_too_many, some_and, some_there, wrong_found}
use Rattle.history_check.specs.{Checking.{IsWrong}, declared.lines.CheckFault.TheVariants.{TooLong}}
use Rattle.history_check.specs.inner.Reading.{ReadsLine}
use Rattle.history_check.proofs.history.check_history.Goals as goal

pub loop-number-init : goal.loop-number-init
loop-number-init g c =
    begins (opening_of c.args.book.now) (rows_of_book c.args.book.now) c.args.scripts.now c.args.order (g.R.Read.remaining c.args.reader.now) c.in_ok-replay.replay c.in_ok-replay.ensures

pub lacks-requires-clause-taken : goal.lacks-requires-clause-taken
lacks-requires-clause-taken g c = record {
  opening = opening_of c.args.book.now;
  start = rows_of_book c.args.book.now;
  order = c.args.order;
  history = c.loop-number.invariant.history;
  taken = c.loop-number.invariant.taken;
}

pub perform-requires-clause-taken : goal.perform-requires-clause-taken
perform-requires-clause-taken g c = record {
  opening = opening_of c.args.book.now;
  start = rows_of_book c.args.book.now;
  order = c.args.order;
  history = c.loop-number.invariant.history;
  taken = c.loop-number.invariant.taken;
}

pub returns-in-Some : goal.returns-in-Some
returns-in-Some g c =
    let opening = opening_of c.args.book.now in let start = rows_of_book c.args.book.now in
    let first = g.R.Read.remaining c.args.reader.now in
    let old = g.R.Read.remaining c.loop-number.reader in
    let new = g.R.Read.remaining c.read_next.new.reader in let line = c.read_next.new.line.items in
    let next : ReadsLine old new false line = subst (λ b. ReadsLine old new b line) c.if-not-branch.true c.in_ok-read_next.ensures.line in
    let found = lack_found opening start c.args.scripts.now c.args.order first old new c.loop-number.replay c.loop-number.number line c.loop-number.invariant c.in-Some.worker c.in-Some.index next c.in-Some.ensures.some in
    record {
      verdict = found;
      accepted = finds opening start c.args.scripts.now c.args.order first line _ found;
      too_long = λ is. absurd cc;
    }

pub returns-then-not-branch : goal.returns-then-not-branch
returns-then-not-branch g c =
    let opening = opening_of c.args.book.now in let start = rows_of_book c.args.book.now in
    let first = g.R.Read.remaining c.args.reader.now in
    let old = g.R.Read.remaining c.loop-number.reader in
    let new = g.R.Read.remaining c.read_next.new.reader in let line = c.read_next.new.line.items in
    let next : ReadsLine old new false line = subst (λ b. ReadsLine old new b line) c.if-not-branch.true c.in_ok-read_next.ensures.line in
    let found = all_found opening start c.args.scripts.now c.args.order first old new c.loop-number.replay c.loop-number.number line c.loop-number.invariant c.requires.workers next c.in_default.ensures.none in
    record {
      verdict = found;
      accepted = finds opening start c.args.scripts.now c.args.order first line _ found;
      too_long = λ is. absurd cc;
    }

pub wrong-requires : goal.wrong-requires
wrong-requires g c =
    let opening = opening_of c.args.book.now in let start = rows_of_book c.args.book.now in
    let reading = c.loop-number.invariant in
    let wrong = rw c.if-not-branch-2.true at c.in_ok-perform.ensures.wrong in
    some_there c.perform.new.self.wrong (IsWrong opening start c.args.scripts.now c.args.order reading.history c.deref.result.now) (wrong opening start c.args.order reading.history reading.taken)

pub returns-then-not-branch-2 : goal.returns-then-not-branch-2
returns-then-not-branch-2 g c =
    let opening = opening_of c.args.book.now in let start = rows_of_book c.args.book.now in
    let first = g.R.Read.remaining c.args.reader.now in
    let old = g.R.Read.remaining c.loop-number.reader in
    let new = g.R.Read.remaining c.read_next.new.reader in let line = c.read_next.new.line.items in
    let reading = c.loop-number.invariant in
    let next : ReadsLine old new true line = subst (λ b. ReadsLine old new b line) c.if-not-branch.false c.in_ok-read_next.ensures.line in
    let wrong = rw c.if-not-branch-2.true at c.in_ok-perform.ensures.wrong in
    let why : IsWrong opening start c.args.scripts.now c.args.order reading.history line c.wrong.result =
    subst (λ seen. IsWrong opening start c.args.scripts.now c.args.order reading.history seen c.wrong.result) c.deref.ensures.value
    (some_and c.perform.new.self.wrong c.wrong.result (IsWrong opening start c.args.scripts.now c.args.order reading.history c.deref.result.now) c.wrong.ensures
    (wrong opening start c.args.order reading.history reading.taken)) in
    let found = wrong_found opening start c.args.scripts.now c.args.order first old new c.loop-number.replay c.loop-number.number line reading c.wrong.result next why in
    record {
      verdict = found;
      accepted = finds opening start c.args.scripts.now c.args.order first line _ found;
      too_long = λ is. absurd cc;
    }

pub loop-number-preserved : goal.loop-number-preserved
loop-number-preserved g c =
    let opening = opening_of c.args.book.now in let start = rows_of_book c.args.book.now in
    let first = g.R.Read.remaining c.args.reader.now in
    let old = g.R.Read.remaining c.loop-number.reader in
    let new = g.R.Read.remaining c.read_next.new.reader in let line = c.read_next.new.line.items in
    let reading = c.loop-number.invariant in
    let next : ReadsLine old new true line = subst (λ b. ReadsLine old new b line) c.if-not-branch.false c.in_ok-read_next.ensures.line in
    let right = rw c.if-not-branch-2.false at c.in_ok-perform.ensures.right in
    let told = right opening start c.args.order reading.history reading.taken in
    goes_on opening start c.args.scripts.now c.args.order first old new c.loop-number.replay c.loop-number.number line reading c.perform.new.self told.0 next (told.1 ∙ c.deref.ensures.value) told.2

pub returns-in_err-perform-clause-too_long : goal.returns-in_err-perform-clause-too_long
returns-in_err-perform-clause-too_long g c = λ is.
    let old = g.R.Read.remaining c.loop-number.reader in
    let new = g.R.Read.remaining c.read_next.new.reader in let line = c.read_next.new.line.items in
    let next : ReadsLine old new true line = subst (λ b. ReadsLine old new b line) c.if-not-branch.false c.in_ok-read_next.ensures.line in
    one_too_many (opening_of c.args.book.now) (rows_of_book c.args.book.now) c.args.scripts.now c.args.order (g.R.Read.remaining c.args.reader.now) old new c.loop-number.replay c.loop-number.number line
    c.loop-number.invariant next
    (c.in_err-perform.ensures.too_long (fault_is c.from_residual-in_err-perform.result c.in_err-perform.field-0.0 TooLong c.from_residual-in_err-perform.ensures.1 is))

pub returns-clause-too_long : goal.returns-clause-too_long
returns-clause-too_long g c = λ is.
    many_read (opening_of c.args.book.now) (rows_of_book c.args.book.now) c.args.scripts.now c.args.order (g.R.Read.remaining c.args.reader.now) (g.R.Read.remaining c.loop-number.reader)
    (g.R.Read.remaining c.loop-number.reader) c.loop-number.replay c.loop-number.number [] c.loop-number.invariant (omega (arith, c.loop-number-test.false))
