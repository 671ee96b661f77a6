use Rattle.std.proofs.{Common.{[]}, lemmas.Result.{IfOk-at_ok}}
use Rattle.state_tests.proofs.AddedLemmas.{has_book, nothing_stored}
use Rattle.state_tests.proofs.adding_tests.added_rows_are_shown.Goals as goal

pub add-added-requires : goal.add-added-requires
add-added-requires g c = has_book (c.in-Ok.ensures.book [] (nothing_stored (IfOk-at_ok _ c.expect-state.ensures c.new.ensures.stands)))
