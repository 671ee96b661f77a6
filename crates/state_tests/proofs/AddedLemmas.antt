-- There is a book of a state to which rows are added.
use Rattle.std.proofs.Common.{[], arith}
use Rattle.auction_rows.specs.Book.{Book}
use Rattle.phase_floor.specs.{Adding.{HasBook}, States.{IsBookOf, JoinedState, StandsFor}}

-- of a new one
pub nothing_stored : {state : JoinedState} → StandsFor state [] → IsBookOf state []
nothing_stored stands = record { is_book = tt; own = λ k d low. absurd (omega (arith, low)); stands = stands }

pub has_book : {state : JoinedState} {book : Book} → IsBookOf state book → HasBook state
has_book {state} {book} is = record { book = book; is_of = is }
