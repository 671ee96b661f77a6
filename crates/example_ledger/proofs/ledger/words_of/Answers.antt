use Rattle.std.proofs.Common.{◌≡◌, None, Some}
use Rattle.example_ledger.proofs.WordLemmas.{same_pair, word_at, word_there}
use Rattle.example_ledger.proofs.ledger.words_of.Goals as goal

pub returns-in_err-word : goal.returns-in_err-word
returns-in_err-word c word account amount few small no_blank is =
    absurd (word_there c.args.text.now c.split_once.result word account amount c.split_once.ensures.cases no_blank is c.in_err-word.was)

pub returns-in_err-account : goal.returns-in_err-account
returns-in_err-account c word account amount few small no_blank is =
    let at = word_at c.args.text.now c.split_once.result word account amount c.split_once.ensures.cases no_blank is _ c.in_ok-word.was in
    let some : c.two_numbers.result ≡ Some (account, amount) = c.two_numbers.ensures account amount few small at.1 in
    let none : c.two_numbers.result ≡ None = c.in_err-account.was in
    absurd (cc (none, some))

pub returns : goal.returns
returns c word account amount few small no_blank is =
    let at = word_at c.args.text.now c.split_once.result word account amount c.split_once.ensures.cases no_blank is _ c.in_ok-word.was in
    let some : c.two_numbers.result ≡ Some (account, amount) = c.two_numbers.ensures account amount few small at.1 in
    let found : c.two_numbers.result ≡ Some (c.in_ok-account.account, c.in_ok-account.amount) = c.in_ok-account.was in
    let same = same_pair c.two_numbers.result (account, amount) (c.in_ok-account.account, c.in_ok-account.amount) some found in
    (at.0, same.0, same.1)
