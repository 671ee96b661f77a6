use Rattle.std.proofs.Common.{◌≡◌, ◌∙◌, [], Some, ap, false, subst, sym, true}
use Rattle.csv.specs.Records.{fields_of}
use Rattle.live_reading.proofs.LiveLineLemmas.{has_none, many_read, one_of, one_read}
use Rattle.live_reading.specs.{LiveLines.{records_say}, declared.live_lines.Said.{Said}}
use Rattle.live_reading.specs.inner.Lines.{IsOneOf}
use Rattle.live_reading.proofs.live_lines.said_in.Goals as goal

pub returns-then-not-branch-clause-value : goal.returns-then-not-branch-clause-value
returns-then-not-branch-clause-value g c = λ rows has.
    let found : c.in_ok-read_next.field-0 ≡ false = c.if-not-branch.true in
    let none : rows ≡ [] = has_none g.R.Read.remaining c.args.records.now c.read_next.new.records (fields_of c.read_next.new.fields) rows has ((rw found at c.in_ok-read_next.ensures.reads) has.plain) in
    sym (ap (records_say c.args.workers c.args.place c.args.begun) none)

pub returns-then-branch-clause-value : goal.returns-then-branch-clause-value
returns-then-branch-clause-value g c = λ rows has.
    let found : c.in_ok-read_next.field-0 ≡ true = c.if-not-branch.false in
    let again : c.in_ok-read_next-2.field-0 ≡ true = c.if-branch.true in
    ap Some c.said_by.ensures
    ∙ many_read g.R.Read.remaining c.args.records.now c.read_next.new.records c.read_next-2.new.records (fields_of c.read_next.new.fields) (fields_of c.read_next-2.new.fields) rows has
    (rw found at c.in_ok-read_next.ensures.reads) (λ plain. c.in_ok-read_next.ensures.plain plain found) c.args.workers c.args.place c.args.begun c.worker_of-worker.result c.worker_of-worker.ensures
    (rw again at c.in_ok-read_next-2.ensures.reads) (λ plain. c.in_ok-read_next-2.ensures.plain plain again)

pub returns-then-branch-clause-worker : goal.returns-then-branch-clause-worker
returns-then-branch-clause-worker g c = subst (λ (one : Said). IsOneOf c.args.workers (Some one)) (sym c.said_by.ensures) tt

pub returns-clause-value : goal.returns-clause-value
returns-clause-value g c = λ rows has.
    let found : c.in_ok-read_next.field-0 ≡ true = c.if-not-branch.false in
    let again : c.in_ok-read_next-2.field-0 ≡ false = c.if-branch.false in
    one_read g.R.Read.remaining c.args.records.now c.read_next.new.records c.read_next-2.new.records (fields_of c.read_next.new.fields) (fields_of c.read_next-2.new.fields) rows has
    (rw found at c.in_ok-read_next.ensures.reads) (λ plain. c.in_ok-read_next.ensures.plain plain found) c.args.workers c.args.place c.args.begun c.worker_of-worker.result c.worker_of-worker.ensures
    (rw again at c.in_ok-read_next-2.ensures.reads) c.read_record-said.result c.said_by-2.result c.read_record-said.ensures.value c.said_by-2.ensures

pub returns-clause-worker : goal.returns-clause-worker
returns-clause-worker g c =
    subst (λ (one : Said). IsOneOf c.args.workers (Some one)) (sym c.said_by-2.ensures) (one_of c.args.workers c.worker_of-worker.result c.read_record-said.result c.read_record-said.ensures.worker)
