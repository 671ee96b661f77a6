use Rattle.std.proofs.Common.{◌≡◌, ◌∙◌, [], ap, false, sym, true}
use Rattle.csv.specs.Records.{fields_of}
use Rattle.live_reading.{proofs.LiveLineLemmas.{has_more, has_none}, specs.LiveLines.{first_worker}}
use Rattle.live_reading.proofs.live_lines.worker_in.Goals as goal

pub returns-then-not-branch-clause-value : goal.returns-then-not-branch-clause-value
returns-then-not-branch-clause-value g c = λ rows has.
    let found : c.in_ok-read_next.field-0 ≡ false = c.if-not-branch.true in
    let none : rows ≡ [] = has_none g.R.Read.remaining c.args.records.now c.read_next.new.records (fields_of c.read_next.new.fields) rows has ((rw found at c.in_ok-read_next.ensures.reads) has.plain) in
    sym (ap (first_worker c.args.workers) none)

pub returns-clause-value : goal.returns-clause-value
returns-clause-value g c = λ rows has.
    let found : c.in_ok-read_next.field-0 ≡ true = c.if-not-branch.false in
    let next = c.read_next.new.records in
    let (more, is, left) = has_more g.R.Read.remaining c.args.records.now next (fields_of c.read_next.new.fields) rows has
    ((rw found at c.in_ok-read_next.ensures.reads) has.plain) (c.in_ok-read_next.ensures.plain has.plain found) in
    c.worker_of.ensures ∙ sym (ap (first_worker c.args.workers) is)
