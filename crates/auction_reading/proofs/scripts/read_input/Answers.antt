use Rattle.std.proofs.Common.{arith, ◌≡◌, ◌<◌, ◌∙◌, [], Err, ap, length}
use Rattle.std.proofs.lemmas.Result.{IfOk-from_err, err_from_is_err_and}
use Rattle.record_reading.proofs.BufferLemmas.{known_all}
use Rattle.auction_reading.proofs.{ProgressLemmas.{read_to_end}, SaidLemmas.{read_from_start}}
use Rattle.auction_reading.proofs.scripts.read_input.Goals as goal

pub returns-then-held-eq0-clause-input : goal.returns-then-held-eq0-clause-input
returns-then-held-eq0-clause-input g c =
    known_all (g.R.Read.remaining c.args.reader) (λ bytes e.
    let rest = c.in_ok-held.ensures.reads bytes e in
    let room : c.in_ok-held.held < length c.read_lines.new.buffer = omega (arith, c.if-held-eq0.true, c.requires, c.read_lines.auto.buffer) in
    let ended : rest.0 ≡ [] = (rw rest.1 at c.in_ok-held.ensures.end) c.if-held-eq0.true room in
    read_to_end c.args.workers bytes c.read_lines.new.progress
    (rw (c.if-held-eq0.true, ended) at (read_from_start c.args.workers bytes c.in_ok-input.input c.read_lines.new.progress _ c.in_ok-input.ensures.empty rest.2)))

pub returns-then-held-eq0-clause-count : goal.returns-then-held-eq0-clause-count
returns-then-held-eq0-clause-count g c = c.in_ok-held.ensures.workers ∙ c.in_ok-input.ensures.count

pub returns-clause-input : goal.returns-clause-input
returns-clause-input g c =
    known_all (g.R.Read.remaining c.args.reader) (λ bytes e.
    let rest = c.in_ok-held.ensures.reads bytes e in
    (rw rest.1 at c.in_ok-hand_over.ensures.input) bytes
    (read_from_start c.args.workers bytes c.in_ok-input.input c.read_lines.new.progress _ c.in_ok-input.ensures.empty rest.2))

pub returns-clause-count : goal.returns-clause-count
returns-clause-count g c = c.in_ok-hand_over.ensures.count

pub returns-in_err-held-clause-input : goal.returns-in_err-held-clause-input
returns-in_err-held-clause-input g c = IfOk-from_err c.from_residual-in_err-held.result _ c.from_residual-in_err-held.ensures.0

pub returns-in_err-held-clause-count : goal.returns-in_err-held-clause-count
returns-in_err-held-clause-count g c = IfOk-from_err c.from_residual-in_err-held.result _ c.from_residual-in_err-held.ensures.0

pub returns-in_err-held-clause-fault : goal.returns-in_err-held-clause-fault
returns-in_err-held-clause-fault g c =
    let failed = err_from_is_err_and c.from_residual-in_err-held.result c.from_residual-in_err-held.ensures.1 in
    let fault : c.from_residual-in_err-held.result ≡ Err c.in_err-held.field-0.0 = failed.1 ∙ ap Err failed.2 in
    rw fault (λ input. absurd (c.in_err-held.ensures.fails input))

pub returns-in_err-hand_over-clause-input : goal.returns-in_err-hand_over-clause-input
returns-in_err-hand_over-clause-input g c = IfOk-from_err c.from_residual-in_err-hand_over.result _ c.from_residual-in_err-hand_over.ensures.0

pub returns-in_err-hand_over-clause-count : goal.returns-in_err-hand_over-clause-count
returns-in_err-hand_over-clause-count g c = IfOk-from_err c.from_residual-in_err-hand_over.result _ c.from_residual-in_err-hand_over.ensures.0

pub returns-in_err-hand_over-clause-fault : goal.returns-in_err-hand_over-clause-fault
returns-in_err-hand_over-clause-fault g c =
    let failed = err_from_is_err_and c.from_residual-in_err-hand_over.result c.from_residual-in_err-hand_over.ensures.1 in
    let fault : c.from_residual-in_err-hand_over.result ≡ Err c.in_err-hand_over.field-0.0 = failed.1 ∙ ap Err failed.2 in
    rw fault (λ input. known_all (g.R.Read.remaining c.args.reader) (λ bytes e.
    let rest = c.in_ok-held.ensures.reads bytes e in
    (rw rest.1 at (c.in_err-hand_over.ensures.fault input)) bytes
    (read_from_start c.args.workers bytes c.in_ok-input.input c.read_lines.new.progress _ c.in_ok-input.ensures.empty rest.2)))
