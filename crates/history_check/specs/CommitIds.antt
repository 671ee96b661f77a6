-- What a line of a history begins with.
use Rattle.std.specs.Prelude.{ℕ, ◌<◌, ◌^◌, ◌≡◌, List, [], ◌∷◌, ◌++◌, decimal}
use Rattle.auction_rows.specs.declared.{requests.Request.Request, replies.Reply.Reply, rows.Entry.Entry}
use Rattle.history_check.specs.declared.lines.CommitId.{CommitId}

-- the text of a commit's id, a space and what follows
abbrev pub with_commit_id : CommitId → List ℕ → List ℕ
with_commit_id commit_id rest =
    decimal commit_id.phase ++ 32 ∷ (decimal commit_id.number
    ++ 32 ∷ (decimal commit_id.worker ++ 32 ∷ (decimal commit_id.index ++ 32 ∷ rest)))

-- the line of a commit's id and a text, with its line feed
abbrev pub line_at : CommitId → List ℕ → List ℕ
line_at commit_id text = with_commit_id commit_id (text ++ 10 ∷ [])

-- each number is one that its type has
pub record Fits (commit_id : CommitId) : Type 0 where
  pub phase : commit_id.phase < 2 ^ 64
  pub number : commit_id.number < 2 ^ 64
  pub worker : commit_id.worker < 2 ^ 32
  pub index : commit_id.index < 2 ^ 32

-- a line is that of a commit's id and a text
pub record IsLineOf (line : List ℕ) (commit_id : CommitId) (text : List ℕ) : Type 0 where
  pub line_is : line ≡ line_at commit_id text
  pub fits : Fits commit_id

-- the entry with an id
abbrev pub entry_with_id : CommitId → Request → Reply → Entry
entry_with_id commit_id request reply = record {
  phase = commit_id.phase;
  number = commit_id.number;
  worker = commit_id.worker;
  index = commit_id.index;
  request = request;
  reply = reply;
}

-- the id of an entry's commit
abbrev pub commit_id_of : Entry → CommitId
commit_id_of e = record { phase = e.phase; number = e.number; worker = e.worker; index = e.index }
