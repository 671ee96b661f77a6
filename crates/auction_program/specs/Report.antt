-- The report of a run, by the book at its end.
use Rattle.std.specs.{List.{range_with_len}, Prelude.{ℕ, List, map}}
use Rattle.auction_rows.specs.{Book.{Book}, Replies.{reply}}
use Rattle.auction_rows.specs.declared.requests.Request.TheVariants.{ViewCategory, ViewUser}
use Rattle.auction_rows.specs.declared.{values.Opening.Opening, requests.Object.Object, requests.Request.Request, replies.Reply.Reply, rows.Entry.Entry}
use Rattle.auction_text.specs.Report.{report_text}

-- the replies that a book gives to the views of so many numbers from 0
abbrev pub views : Opening → Book → (ℕ → Request) → ℕ → List Reply
views opening book view count =
    map (λ number. reply opening book 0 (view number)) (range_with_len 0 count)

abbrev pub category_views : Opening → Book → List Reply
category_views opening book = views opening book ViewCategory opening.categories

abbrev pub user_views : Opening → Book → List Reply
user_views opening book = views opening book ViewUser opening.users

-- the report of a history and its hot sets, with the views of all categories and users
abbrev pub report_of : Opening → Book → List Entry → List (List Object) → List ℕ
report_of opening book history hot =
    report_text history hot (category_views opening book) (user_views opening book)
