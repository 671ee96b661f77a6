-- The heads of a journal, with their requests.
use Rattle.std.specs.Prelude.{◌≡◌, ℕ, Bool, true, List, [], ◌∷◌, Some, map, slice_get}
use Rattle.auction_rows.specs.declared.requests.Request.{Request}
use Rattle.worker_journals.specs.{Rising.{RisesTo}, declared.heads.Head.{Head}}
use Rattle.worker_journals.specs.declared.heads.ShortReply.{ShortReply}

-- a head by its parts
abbrev pub head_by : ℕ → ℕ → ShortReply → Head
head_by number index reply = record { number = number; index = index; reply = reply }

-- a head with its request
pub record AskedHead : Type 0 where
  pub head : Head
  pub request : Request

abbrev pub asked_head : Head → Request → AskedHead
asked_head head request = record { head = head; request = request }

abbrev pub head_in : AskedHead → Head
head_in asked = asked.head

abbrev pub request_in : AskedHead → Request
request_in asked = asked.request

-- the heads of a journal
pub record HeadList : Type 0 where
  -- the heads
  pub heads : List AskedHead
  -- for how many heads in all there is room
  pub room : ℕ

-- heads with these requests, in their order
abbrev pub heads_of : List Request → List Head → List AskedHead
heads_of [] heads = []
heads_of (request ∷ requests) [] = []
heads_of (request ∷ requests) (head ∷ heads) = asked_head head request ∷ heads_of requests heads

-- a head's request is that of a script at its index
abbrev pub IsHeadOf : List Request → AskedHead → Type 0
IsHeadOf script asked = slice_get script asked.head.index ≡ Some asked.request

-- a head's index
abbrev pub head_index : AskedHead → ℕ
head_index asked = asked.head.index

-- if it is said, the indexes of heads rise up to the next one
abbrev pub IsRising : Bool → List AskedHead → ℕ → Type 0
IsRising said heads next = said ≡ true → RisesTo 0 (map head_index heads) next
