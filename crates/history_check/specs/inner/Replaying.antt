-- What a replay keeps of the reply that it compares.
use Rattle.std.specs.Prelude.{ℕ, Bool, ◌≡◌, true, false, List, Some}
use Rattle.auction_rows.specs.declared.replies.Reply.{Reply}
use Rattle.auction_text.specs.Replies.{reply_text}
use Rattle.history_check.specs.declared.{lines.Wrong.TheVariants.{Due}, replay.Replay.{Replay}}

-- a text is that of the reply that was due; or it is not, and the replay keeps which one was due
abbrev pub HasCompared : Bool → Reply → List ℕ → Replay → Type 0
HasCompared true due text replay = text ≡ reply_text due
HasCompared false due text replay = (replay.wrong ≡ Some (Due due)) × ¬ (text ≡ reply_text due)
