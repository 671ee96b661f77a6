use Rattle.closing_laws.proofs.ClockLemmas.{numbers_suffice, seen_by_few}
use Rattle.closing_laws.proofs.numbers_suffice.Goals as goal

pub returns-clause-few : goal.returns-clause-few
returns-clause-few c = λ p closed opened w known request. seen_by_few p closed opened w known request

pub returns-clause-suffice : goal.returns-clause-suffice
returns-clause-suffice c = λ p closed opened workers each w known request. numbers_suffice p closed opened workers each w known request
