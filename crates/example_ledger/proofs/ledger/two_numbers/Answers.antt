use Rattle.std.proofs.Common.{◌≡◌, None, Some}
use Rattle.example_ledger.proofs.WordLemmas.{numbers_at, numbers_there}
use Rattle.example_ledger.proofs.ledger.two_numbers.Goals as goal

pub returns-in_err-first : goal.returns-in_err-first
returns-in_err-first c account amount few small is =
    absurd (numbers_there c.args.text.now c.split_once.result account amount c.split_once.ensures.cases few is c.in_err-first.was)

pub returns-in_err-account : goal.returns-in_err-account
returns-in_err-account c account amount few small is =
    let at = numbers_at c.args.text.now c.split_once.result account amount c.split_once.ensures.cases few is _ c.in_ok-first.was in
    let some : c.number.result ≡ Some account = c.number.ensures account few at.0 in
    let none : c.number.result ≡ None = c.in_err-account.was in
    cc (none, some)

pub returns-in_err-amount : goal.returns-in_err-amount
returns-in_err-amount c account amount few small is =
    let at = numbers_at c.args.text.now c.split_once.result account amount c.split_once.ensures.cases few is _ c.in_ok-first.was in
    let some : c.number-2.result ≡ Some amount = c.number-2.ensures amount small at.1 in
    let none : c.number-2.result ≡ None = c.in_err-amount.was in
    cc (none, some)

pub returns : goal.returns
returns c account amount few small is =
    let at = numbers_at c.args.text.now c.split_once.result account amount c.split_once.ensures.cases few is _ c.in_ok-first.was in
    let first : c.number.result ≡ Some account = c.number.ensures account few at.0 in
    let second : c.number-2.result ≡ Some amount = c.number-2.ensures amount small at.1 in
    let found : c.number.result ≡ Some c.in_ok-account.account = c.in_ok-account.was in
    let other : c.number-2.result ≡ Some c.in_ok-amount.amount = c.in_ok-amount.was in
    cc (first, second, found, other)
