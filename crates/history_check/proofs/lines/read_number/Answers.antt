use Rattle.std.proofs.{Common.{◌++◌, ◌∷◌, ◌+◌, take, drop, sym, ap, ◌∙◌}, lemmas.List.{take_rest}}
use Rattle.std.specs.Prelude.{decimal}
use Rattle.auction_text.specs.Fields.{number}
use Rattle.history_check.proofs.NumberLemmas.{no_space, no_number, number_is, front_is, rest_is, space_is, split_here, number_text}
use Rattle.history_check.proofs.lines.read_number.Goals as goal

pub returns-in_err-space-clause-all : goal.returns-in_err-space-clause-all
returns-in_err-space-clause-all c = λ n rest fits is. absurd (no_space c.args.bytes.now n rest fits is c.in_err-space.ensures.place)

pub returns-in_err-number-clause-all : goal.returns-in_err-number-clause-all
returns-in_err-number-clause-all c = λ n rest fits is.
    let bytes = c.args.bytes.now in let space = c.in_ok-space.space in
    let here = space_is bytes n rest space fits is c.in_ok-space.ensures.place in
    absurd (no_number n fits (c.in_err-number.ensures ∙ ap (number 64) (front_is bytes n rest space is here)))

pub returns-clause-read : goal.returns-clause-read
returns-clause-read c =
    let bytes = c.args.bytes.now in let space = c.in_ok-space.space in
    split_here bytes space c.in_ok-space.ensures.place
    ∙ ap (λ front. front ++ 32 ∷ drop (space + 1) bytes) (number_text (take space bytes) c.in_ok-number.number (sym c.in_ok-number.ensures))
    ∙ ap (λ rest. decimal c.in_ok-number.number ++ 32 ∷ rest) (sym (take_rest bytes (space + 1)))

pub returns-clause-all : goal.returns-clause-all
returns-clause-all c = λ n rest fits is.
    let bytes = c.args.bytes.now in let space = c.in_ok-space.space in
    let here = space_is bytes n rest space fits is c.in_ok-space.ensures.place in
    (number_is n c.in_ok-number.number fits (c.in_ok-number.ensures ∙ ap (number 64) (front_is bytes n rest space is here)), take_rest bytes (space + 1) ∙ rest_is bytes n rest space is here)
