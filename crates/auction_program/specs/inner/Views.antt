-- The views that a report shows, and the end of a run at which they are taken.
use Rattle.std.specs.Prelude.{ℕ, ◌≡◌, List, length}
use mathlib.Core.List.{IsPrefix}
use Rattle.auction_rows.specs.Book.{Book}
use Rattle.auction_rows.specs.declared.requests.Request.TheVariants.{ViewCategory, ViewUser}
use Rattle.auction_rows.specs.declared.{values.Opening.Opening, requests.Request.Request, replies.Reply.Reply, rows.Row.Row}
use Rattle.phase_boards.specs.Boards.{book_of}
use Rattle.phase_floor.specs.States.{JoinedState, StandsFor}
use Rattle.auction_program.specs.Report.{category_views, user_views}
use Rattle.auction_program.specs.declared.texts.Viewed.{TheVariants.{Categories, Users}, Viewed}

-- the view of a number
abbrev pub view_of : Viewed → ℕ → Request
view_of Categories = λ number. ViewCategory number
view_of Users = λ number. ViewUser number

-- These are the replies of a book to the views of all categories and users.
pub record AreViews (opening : Opening) (book : Book) (categories users : List Reply) : Type 0 where
  pub categories_are : categories ≡ category_views opening book
  pub users_are : users ≡ user_views opening book

-- The end of a run from these rows, as a window and the state know it.
pub record IsEnd (opening : Opening) (rows : Book) (window all : List (List Row))
    (state : JoinedState) (book : Book) : Type 0 where
  -- the window has shown all phases, or was told of them
  pub known : IsPrefix all window
  -- there are as many as the state has behind it
  pub counted : length all ≡ state.phase
  -- they leave the book, which the state stands for
  pub book_is : book_of rows all ≡ book
  pub opening_is : state.opening ≡ opening
  pub stands : StandsFor state book
