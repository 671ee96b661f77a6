-- What is found of the text of a history.
use Rattle.std.specs.List.{AllByRecursion}
use Rattle.std.specs.Prelude.{ℕ, ◌+◌, ◌≡◌, ◌<◌, ◌≤◌, nat_lt, if◌then◌else◌, List, ◌∷◌, ◌++◌, length, count_by, Some, None}
use Rattle.phase_laws.specs.Order.{IsOrderedBy}
use Rattle.auction_rows.specs.{Book.{Book}, History.{ReplaysFrom, book_after}, Replies.{reply}}
use Rattle.auction_rows.specs.declared.{values.Opening.Opening, requests.Request.Request, replies.Reply.Reply, rows.Entry.Entry}
use Rattle.auction_text.specs.Replies.{reply_text}
use Rattle.run_laws.specs.Serving.{script_of}
use Rattle.history_check.specs.CommitIds.{Fits, IsLineOf, entry_with_id, commit_id_of}
use Rattle.history_check.specs.{Orders.{MayPrecede}, Scripts.{request_at, is_of}}
use Rattle.history_check.specs.{Texts.{history_lines, lines_of}, declared.lines.CommitId.{CommitId}}
use Rattle.history_check.specs.declared.lines.{Order.{Order}, Verdict.{Verdict}}
use Rattle.history_check.specs.declared.lines.Verdict.TheVariants.{Replays, WrongAt, Lacks}
use Rattle.history_check.specs.declared.lines.Wrong.{Wrong}
use Rattle.history_check.specs.declared.lines.Wrong.TheVariants.{Unreadable, NoRequest, Again, Late, Due}

-- Nothing is wrong with the entries of a history, but that requests may be lacking.
pub record GoWell (opening : Opening) (start : Book) (scripts : List (List Request))
    (order : Order) (history : List Entry) : Type 0 where
  -- each has the request of its script
  pub requests : AllByRecursion (λ e. request_at scripts e.worker e.index ≡ Some e.request) history
  -- and a place that can be written
  pub fits : AllByRecursion (λ e. Fits (commit_id_of e)) history
  -- none stands twice
  pub at_most_once : (worker index : ℕ) → count_by (is_of worker index) history ≤ 1
  -- they stand in the order that is asked for
  pub in_order : IsOrderedBy (MayPrecede order) history
  -- each reply is the one that is due
  pub replays : ReplaysFrom opening start history

-- The text is that of a history that replays from a book and has each request of each script once,
-- in the order that is asked for.
pub record IsAccepted (opening : Opening) (start : Book) (scripts : List (List Request))
    (order : Order) (text : List ℕ) : Type 0 where
  -- the entries whose lines these are
  pub history : List Entry
  pub lines_are : history_lines history ≡ lines_of text
  pub go_well : GoWell opening start scripts order history
  -- each index of each script occurs exactly once, and no other
  pub once : (worker index : ℕ) → count_by (is_of worker index) history
      ≡ (if nat_lt index (length (script_of scripts worker)) then 1 else 0)

-- a line is of a place and a text of which this holds
abbrev pub OfLine : List ℕ → (CommitId → List ℕ → Type 0) → Type 0
OfLine line Holds =
    (commit_id : CommitId) × (text : List ℕ) × IsLineOf line commit_id text × Holds commit_id text

-- the scripts have the request of a place, and this holds of it
abbrev pub OfRequest : List (List Request) → CommitId → (Request → Type 0) → Type 0
OfRequest scripts commit_id Holds = (request : Request)
    × (request_at scripts commit_id.worker commit_id.index ≡ Some request) × Holds request

-- why a line is wrong after the entries before it
abbrev pub IsWrong : Opening → Book → List (List Request) → Order → List Entry → List ℕ → Wrong →
    Type 0
IsWrong opening start scripts order before line Unreadable =
    (commit_id : CommitId) (text : List ℕ) → ¬ IsLineOf line commit_id text
IsWrong opening start scripts order before line NoRequest = OfLine line (λ commit_id text.
    request_at scripts commit_id.worker commit_id.index ≡ None)
IsWrong opening start scripts order before line Again = OfLine line (λ commit_id text.
    count_by (is_of commit_id.worker commit_id.index) before ≡ 1)
IsWrong opening start scripts order before line Late = OfLine line (λ commit_id text.
    OfRequest scripts commit_id (λ request. (reply : Reply) →
    ¬ AllByRecursion (λ d. MayPrecede order d (entry_with_id commit_id request reply)) before))
IsWrong opening start scripts order before line (Due due) = OfLine line (λ commit_id text.
    OfRequest scripts commit_id (λ request.
    (due ≡ reply opening (book_after opening start before) commit_id.worker request)
    × ¬ (text ≡ reply_text due)))

-- This line, with this number from 1, is the first that is wrong.
pub record IsFirstWrong (opening : Opening) (start : Book) (scripts : List (List Request))
    (order : Order) (text line : List ℕ) (number : ℕ) (why : Wrong) : Type 0 where
  -- the entries whose lines stand before it
  pub before : List Entry
  -- the lines after it
  pub rest : List (List ℕ)
  pub split : lines_of text ≡ history_lines before ++ line ∷ rest
  -- counted from 1
  pub number_is : number ≡ length before + 1
  -- nothing is wrong before it
  pub go_well : GoWell opening start scripts order before
  -- why it is wrong
  pub wrong : IsWrong opening start scripts order before line why

-- No line is wrong, and none is of this request.
pub record IsLacking (opening : Opening) (start : Book) (scripts : List (List Request))
    (order : Order) (text : List ℕ) (worker index : ℕ) : Type 0 where
  -- the entries whose lines these are
  pub history : List Entry
  pub lines_are : history_lines history ≡ lines_of text
  pub go_well : GoWell opening start scripts order history
  -- there is the request
  pub has_request : index < length (script_of scripts worker)
  -- and no entry is of it
  pub in_no_line : count_by (is_of worker index) history ≡ 0

-- what is found of a text, with this line as its first wrong one if a line is wrong
abbrev pub IsVerdict : Opening → Book → List (List Request) → Order → List ℕ → List ℕ → Verdict →
    Type 0
IsVerdict opening start scripts order text line Replays =
    IsAccepted opening start scripts order text
IsVerdict opening start scripts order text line (WrongAt number why) =
    IsFirstWrong opening start scripts order text line number why
IsVerdict opening start scripts order text line (Lacks worker index) =
    IsLacking opening start scripts order text worker index
