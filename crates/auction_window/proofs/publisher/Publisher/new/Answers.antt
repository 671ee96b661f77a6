use Rattle.std.proofs.{Common.{rules, ◌∙◌, sym}, lemmas.Result.{IfOk-from_err}}
use Rattle.auction_window.proofs.publisher.Publisher.new.Goals as goal

pub returns-in_err-first : goal.returns-in_err-first
returns-in_err-first g c =
    let result = c.from_residual.result in let err = c.from_residual.ensures.0 in
    record { publisher = IfOk-from_err result _ err; windows = IfOk-from_err result _ err; nothing = IfOk-from_err result _ err }

pub returns-in_err-second : goal.returns-in_err-second
returns-in_err-second g c =
    let result = c.from_residual-in_err-second.result in let err = c.from_residual-in_err-second.ensures.0 in
    record { publisher = IfOk-from_err result _ err; windows = IfOk-from_err result _ err; nothing = IfOk-from_err result _ err }

pub returns-in_err-copies : goal.returns-in_err-copies
returns-in_err-copies g c =
    let result = c.from_residual-in_err-copies.result in let err = c.from_residual-in_err-copies.ensures.0 in
    record { publisher = IfOk-from_err result _ err; windows = IfOk-from_err result _ err; nothing = IfOk-from_err result _ err }

pub new-requires : goal.new-requires
new-requires g c = record { opening = c.requires.opening; rows = c.requires.rows; phases = c.again.ensures ∙ c.named-count.ensures }

pub new-requires-2 : goal.new-requires-2
new-requires-2 g c = record { opening = c.requires.opening; rows = c.requires.rows; phases = c.again-2.ensures ∙ c.named-count.ensures }

pub new-requires-3 : goal.new-requires-3
new-requires-3 g c = record { readers = c.requires.count.0; alike = c.in_ok-first.ensures ∙ sym c.in_ok-second.ensures }

pub returns-in-Ok-clause-nothing : goal.returns-in-Ok-clause-nothing
returns-in-Ok-clause-nothing g c = λ k d within. let one = c.in-Ok.ensures.made k d within in search rules
