-- What a run may answer.
use Rattle.std.specs.Prelude.{List}
use Rattle.auction_rows.specs.{Book.{Book}, History.{ReplaysFrom}}
use Rattle.auction_rows.specs.declared.{limits.Policy.Policy, values.Opening.Opening, requests.Object.Object, requests.Request.Request, rows.Entry.Entry}
use Rattle.run_laws.specs.{Run.{AreChosen}, Serving.{Serves}}

-- the hot sets and the history answer the scripts, from a book
pub record IsAnswer (opening : Opening) (start : Book) (policy : Policy)
    (scripts : List (List Request)) (hot : List (List Object))
    (history : List Entry) : Type 0 where
  -- the history serves the scripts
  pub serves : Serves opening policy scripts hot history
  -- the hot sets are chosen from the history
  pub chosen : AreChosen policy hot history
  -- the history replays from the book
  pub replays : ReplaysFrom opening start history
