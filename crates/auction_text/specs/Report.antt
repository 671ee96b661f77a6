-- The text of a report.
use Rattle.std.specs.List.{flat_map}
use Rattle.std.specs.Prelude.{ℕ, ◌+◌, ◌==◌, if◌then◌else◌, List, [], ◌∷◌, ◌++◌, codes, count_by, length}
use Rattle.auction_rows.specs.StoreReplies.{is_refusal}
use Rattle.auction_rows.specs.declared.requests.Object.TheVariants.{Item, User, Category}
use Rattle.auction_rows.specs.declared.{requests.Object.Object, replies.Reply.Reply, rows.Entry.Entry}
use Rattle.auction_rows.specs.declared.replies.Reply.TheVariants as reply
use Rattle.byte_texts.specs.Labels.{labelled, labelled_id}
use Rattle.auction_text.specs.Replies.{reply_text, score_text}

-- a line for each of a list that has one, by its number from a first one on
abbrev pub numbered_lines : {X : Type 0} → (ℕ → X → List ℕ) → ℕ → List X → List ℕ
numbered_lines line number [] = []
numbered_lines line number (x ∷ xs) = line number x ++ numbered_lines line (number + 1) xs

-- a count after its label
abbrev pub count_line : List ℕ → ℕ → List ℕ
count_line label count = labelled label count ++ codes "\n"

-- how many entries of a history are refused
abbrev pub refused_count : List Entry → ℕ
refused_count history = count_by (λ entry. is_refusal entry.reply) history

-- how many phases there were, how many requests, and how many of these were refused
abbrev pub counts_text : ℕ → List Entry → List ℕ
counts_text phases history =
    count_line (codes "phases ") phases
    ++ count_line (codes "requests ") (length history)
    ++ count_line (codes "refused ") (refused_count history)

-- an object of a hot set
abbrev pub object_text : Object → List ℕ
object_text (Item id) = labelled_id (codes " i") id.worker id.serial
object_text (User user) = labelled (codes " u") user
object_text (Category category) = labelled (codes " c") category

-- the hot set of a phase: an empty one has no line
abbrev pub hot_line : ℕ → List Object → List ℕ
hot_line phase [] = []
hot_line phase (first ∷ others) =
    labelled (codes "hot ") phase ++ flat_map object_text (first ∷ others) ++ codes "\n"

-- a category, and the reply to its view
abbrev pub category_line : ℕ → Reply → List ℕ
category_line category seen =
    labelled (codes "category ") category ++ codes " " ++ reply_text seen ++ codes "\n"

-- a user with comments: one without has no line, nor has one that is not seen
abbrev pub user_line : ℕ → Reply → List ℕ
user_line user (reply.UserSeen rating comments) =
    if comments == 0 then []
    else labelled (codes "user ") user ++ score_text rating comments ++ codes "\n"
user_line user _ = []

-- the counts, the hot set of each phase, and the replies to the views of the categories and of the
-- users
unfoldable pub report_text : List Entry → List (List Object) → List Reply → List Reply → List ℕ
report_text history hot categories users =
    counts_text (length hot) history
    ++ numbered_lines hot_line 0 hot
    ++ numbered_lines category_line 0 categories
    ++ numbered_lines user_line 0 users
