-- That a history replays, or that rows are a book, has one proof at most: so a ghost field of a crate above may hold it.
use Rattle.std.{proofs.Props.{props}, specs.Prelude.{List, [], map}}
use Rattle.phase_laws.specs.OneProof.{Replays-prop}
use Rattle.auction_rows.specs.Book.{Book}
use Rattle.auction_rows.specs.History.{IsRight, after_entry, ReplaysFrom, commit_of, GoOn, IsBook}
use Rattle.auction_rows.specs.declared.{values.Opening.Opening, replies.Reply.Reply, rows.Row.Row, rows.Entry.Entry}

pub Reply-set : IsSet Reply
Reply-set = hlevel props

pub ReplaysFrom-prop : (opening : Opening) (book : Book) (entries : List Entry) → IsProp (ReplaysFrom opening book entries)
ReplaysFrom-prop opening = Replays-prop (IsRight opening) (after_entry opening) (λ book entry. Reply-set _ _)

pub GoOn-prop : (opening : Opening) (book : Book) (rows : List Row) → IsProp (GoOn opening book rows)
GoOn-prop opening book rows = ReplaysFrom-prop opening book (map commit_of rows)

pub IsBook-prop : (opening : Opening) (rows : List Row) → IsProp (IsBook opening rows)
IsBook-prop opening = GoOn-prop opening []
