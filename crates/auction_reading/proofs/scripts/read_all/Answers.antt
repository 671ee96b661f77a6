use Rattle.std.proofs.Common.{ap, arith, sym, ◌∙◌, ◌≡◌, true, false, Err}
use Rattle.std.proofs.lemmas.Result.{IfOk-from_err, err_from_is_err_and}
use Rattle.csv.specs.Records.{fields_of}
use Rattle.record_reading.specs.{Asking.{asked_of}, declared.inputs.TheConstants.{MOST_RECORDS}}
use Rattle.auction_reading.proofs.ProgressLemmas.{reading_up_to}
use Rattle.auction_reading.proofs.SoFar.{reading_end, reading_fault, reading_long, reading_more}
use Rattle.auction_reading.proofs.scripts.read_all.Goals as goal

pub loop-progress-init : goal.loop-progress-init
loop-progress-init g c = record {
  plain = c.requires.plain;
  counts = c.requires.count;
  room = c.requires.room;
  reads = λ bytes left at is up_to. reading_up_to g.R.Read.remaining c.args.workers bytes left c.args.progress.now c.args.records.now at is up_to;
}

pub returns-then-not-branch-clause-input : goal.returns-then-not-branch-clause-input
returns-then-not-branch-clause-input g c = λ bytes left at is up_to.
    let inv = c.loop-progress.invariant in
    let found : c.in_ok-read_next.field-0 ≡ false = c.if-not-branch.true in
    reading_end g.R.Read.remaining c.args.workers bytes c.loop-progress.progress.count c.loop-progress.progress.begun c.loop-progress.records c.read_next.new.records _ (fields_of c.read_next.new.fields)
    (inv.reads bytes left at is up_to) inv.plain.0 ((rw found at c.in_ok-read_next.ensures.reads) inv.plain)

pub returns-in_err-said-clause-fault : goal.returns-in_err-said-clause-fault
returns-in_err-said-clause-fault g c =
    let inv = c.loop-progress.invariant in
    let found : c.in_ok-read_next.field-0 ≡ true = c.if-not-branch.false in
    let failed = err_from_is_err_and c.from_residual-in_err-said.result c.from_residual-in_err-said.ensures.1 in
    let fault : c.from_residual-in_err-said.result ≡ Err c.in_err-said.field-0.0 = failed.1 ∙ ap Err failed.2 in
    rw fault (λ input bytes left at is up_to.
    reading_fault g.R.Read.remaining c.args.workers bytes c.loop-progress.progress.count c.loop-progress.progress.begun c.loop-progress.records c.read_next.new.records _ (fields_of c.read_next.new.fields) _
    (inv.reads bytes left at is up_to) inv.plain.0 ((rw found at c.in_ok-read_next.ensures.reads) inv.plain) c.loop-progress-test.true (sym c.in_err-said.ensures.value))

pub loop-progress-preserved : goal.loop-progress-preserved
loop-progress-preserved g c =
    let inv = c.loop-progress.invariant in
    let found : c.in_ok-read_next.field-0 ≡ true = c.if-not-branch.false in record {
      plain = c.in_ok-read_next.ensures.plain inv.plain found;
      counts = c.in_ok-add.ensures.adds.workers ∙ inv.counts;
      room = rw c.in_ok-add.ensures.adds.count (omega arith);
      reads = λ bytes left at is up_to.
          let added = c.in_ok-add.ensures.adds in
          rw (added.count, added.begun, added.asked) (reading_more g.R.Read.remaining c.args.workers bytes c.loop-progress.progress.count c.loop-progress.progress.begun c.loop-progress.records
          c.read_next.new.records (asked_of c.loop-progress.progress.input) (fields_of c.read_next.new.fields) c.in_ok-said.said
          (inv.reads bytes left at is up_to) inv.plain.0 ((rw found at c.in_ok-read_next.ensures.reads) inv.plain) c.loop-progress-test.true (sym c.in_ok-said.ensures.value) c.in_ok-said.ensures.worker);
    }

pub returns-then-branch-clause-fault : goal.returns-then-branch-clause-fault
returns-then-branch-clause-fault g c = λ input bytes left at is up_to.
    let inv = c.loop-progress.invariant in let reads = inv.reads bytes left at is up_to in
    let found : c.in_ok-read_next-2.field-0 ≡ true = c.if-branch.true in
    let all : c.loop-progress.progress.count ≡ MOST_RECORDS = omega arith in
    reading_long g.R.Read.remaining c.args.workers bytes c.loop-progress.progress.begun c.loop-progress.records c.read_next-2.new.records _ (fields_of c.read_next-2.new.fields)
    (rw all at reads) inv.plain.0 ((rw found at c.in_ok-read_next-2.ensures.reads) inv.plain)

pub returns-clause-input : goal.returns-clause-input
returns-clause-input g c = λ bytes left at is up_to.
    let inv = c.loop-progress.invariant in
    let found : c.in_ok-read_next-2.field-0 ≡ false = c.if-branch.false in
    reading_end g.R.Read.remaining c.args.workers bytes c.loop-progress.progress.count c.loop-progress.progress.begun c.loop-progress.records c.read_next-2.new.records _ (fields_of c.read_next-2.new.fields)
    (inv.reads bytes left at is up_to) inv.plain.0 ((rw found at c.in_ok-read_next-2.ensures.reads) inv.plain)

pub returns-in_err-read_next-clause-input : goal.returns-in_err-read_next-clause-input
returns-in_err-read_next-clause-input g c = IfOk-from_err c.from_residual.result _ c.from_residual.ensures.0

pub returns-in_err-read_next-clause-count : goal.returns-in_err-read_next-clause-count
returns-in_err-read_next-clause-count g c = IfOk-from_err c.from_residual.result _ c.from_residual.ensures.0

pub returns-in_err-said-clause-input : goal.returns-in_err-said-clause-input
returns-in_err-said-clause-input g c = IfOk-from_err c.from_residual-in_err-said.result _ c.from_residual-in_err-said.ensures.0

pub returns-in_err-said-clause-count : goal.returns-in_err-said-clause-count
returns-in_err-said-clause-count g c = IfOk-from_err c.from_residual-in_err-said.result _ c.from_residual-in_err-said.ensures.0

pub returns-in_err-add-clause-input : goal.returns-in_err-add-clause-input
returns-in_err-add-clause-input g c = IfOk-from_err c.from_residual-in_err-add.result _ c.from_residual-in_err-add.ensures.0

pub returns-in_err-add-clause-count : goal.returns-in_err-add-clause-count
returns-in_err-add-clause-count g c = IfOk-from_err c.from_residual-in_err-add.result _ c.from_residual-in_err-add.ensures.0

pub returns-in_err-read_next-2-clause-input : goal.returns-in_err-read_next-2-clause-input
returns-in_err-read_next-2-clause-input g c = IfOk-from_err c.from_residual-in_err-read_next-2.result _ c.from_residual-in_err-read_next-2.ensures.0

pub returns-in_err-read_next-2-clause-count : goal.returns-in_err-read_next-2-clause-count
returns-in_err-read_next-2-clause-count g c = IfOk-from_err c.from_residual-in_err-read_next-2.result _ c.from_residual-in_err-read_next-2.ensures.0
