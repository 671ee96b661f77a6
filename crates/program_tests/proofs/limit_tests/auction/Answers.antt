use Rattle.std.proofs.{Common.{[], arith}, lemmas.Result.{IfOk-at_ok}}
use Rattle.program_tests.proofs.limit_tests.auction.Goals as goal

pub returns : goal.returns
returns g c = record {
  book = [];
  is_of = record {
    is_book = tt;
    own = λ k row low. absurd (omega (arith, low));
    stands = IfOk-at_ok _ c.expect.ensures c.new.ensures.stands;
  };
}
