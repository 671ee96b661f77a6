-- What is made for each worker, to put the replies in order.
use Rattle.std.specs.{Global.{Vec}, Prelude.{◌≡◌, ℕ, List, Some, None, slice_get}}
use Rattle.phase_laws.specs.Order.{part}
use Rattle.auction_rows.specs.declared.rows.Entry.{Entry}
use Rattle.worker_journals.specs.Journals.{entry_worker}
use Rattle.auction_text.specs.{Order.{comes_before, in_order}, Replies.{lines, reply_line}}
use Rattle.auction_text.specs.inner.Turns.{late}

-- a worker's entries that are late, in order
abbrev pub late_of : List Entry → ℕ → List Entry
late_of entries worker = in_order (late comes_before None (part entry_worker worker entries))

-- a worker's replies
abbrev pub replies_of : List Entry → ℕ → List ℕ
replies_of entries worker = lines reply_line (in_order (part entry_worker worker entries))

-- each list is that of its place
abbrev pub AreEach : {X : Type 0} → (ℕ → List X) → List (Vec X) → Type 0
AreEach of lists =
    (place : ℕ) (list : Vec _) → slice_get lists place ≡ Some list → list.items ≡ of place
