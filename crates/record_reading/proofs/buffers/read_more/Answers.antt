use Rattle.std.proofs.Common.{◌∙◌, ◌-◌, ◌++◌, List, ℕ, take, length, sym, ap, append_assoc}
use Rattle.record_reading.proofs.BufferLemmas.{consumed, put_after}
use Rattle.record_reading.proofs.buffers.read_more.Goals as goal

pub returns-in-Ok-clause-reads : goal.returns-in-Ok-clause-reads
returns-in-Ok-clause-reads g c = λ all e.
    let buffer = c.args.buffer.now in let filled = c.args.filled in let given = c.in-Ok.given in
    let part = c.read.new.buf in
    let took = consumed (g.R.Read.remaining c.args.reader.now) (g.R.Read.remaining c.read.new.self) (take given part) all e c.in-Ok.ensures.bytes.0 in
    let put = put_after filled (length buffer - filled) given buffer part c.requires.filled c.in-Ok.ensures.bound.0 in
    (took.0, took.1, ap (λ (x : List ℕ). take filled buffer ++ x) took.2 ∙ sym (append_assoc (take filled buffer) (take given part) took.0) ∙ ap (λ (f : List ℕ). f ++ took.0) (sym put))
