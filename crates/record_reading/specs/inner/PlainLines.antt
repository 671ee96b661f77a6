-- Plain fields and lines of a text, and what `csv` reads of them.
use Rattle.std.specs.{Char.{is_ascii_digit}, List.{list_all}}
use Rattle.std.specs.Prelude.{ℕ, Bool, true, false, not, ◌==◌, ◌&&◌, ◌≡◌, ◌≤◌, ◌<◌, ◌-◌, ◌+◌, ◌⊎◌, Ok, List, [], ◌∷◌, ◌++◌, Some, drop, get_or, length}
use Rattle.csv.specs.{Machine.{next_record}, Reading.{default_config}}
use Rattle.csv.specs.declared.parser.State.TheVariants as st
use Rattle.auction_rows.specs.declared.requests.{ItemId.ItemId, Request.Request}
use Rattle.record_reading.specs.{Fields.{item_id, number, quantity}, Kinds.{has_count, kind_of}}
use Rattle.record_reading.specs.Lines.{ReadsFirst, has_no_feed, line_feed, quote}
use Rattle.record_reading.specs.{Records.{request_of}, declared.fields.RequestKind.{RequestKind}}

-- the bytes of a comma and a carriage return
abbrev pub comma : ℕ
comma = 44

abbrev pub carriage_return : ℕ
carriage_return = 13

-- a byte that only joins the field at hand
abbrev pub joins : ℕ → Bool
joins byte = not (byte == comma) && (not (byte == carriage_return) && not (byte == line_feed))

-- whether a field begins with a quote
abbrev pub is_quoted : List ℕ → Bool
is_quoted [] = false
is_quoted (first ∷ rest) = first == quote

-- a plain field: no quote in front, and no comma or end of a line in it
abbrev pub is_plain : List ℕ → Bool
is_plain field = not (is_quoted field) && list_all joins field

-- how a line ends
abbrev pub IsLineEnd : List ℕ → Type 0
IsLineEnd bytes = (bytes ≡ line_feed ∷ []) ⊎ (bytes ≡ carriage_return ∷ line_feed ∷ [])

-- From a place on, a text has this word, and more after it.
pub record HasWordAt (text : List ℕ) (at : ℕ) (word : List ℕ) : Type 0 where
  pub text_is : drop at text ≡ word ++ drop (at + length word) text
  pub more : at + length word < length text

-- From a place on, a text has this field, then the byte `stop`, and then what is from `next` on.
pub record IsFieldTo (text : List ℕ) (from : ℕ) (stop : ℕ) (next : ℕ)
    (field : List ℕ) : Type 0 where
  pub text_is : drop from text ≡ field ++ (stop ∷ drop next text)
  pub after : from < next
  pub within : next ≤ length text
  pub stop_is : get_or text (next - 1) 0 ≡ stop

-- From a place on, a text has the rest of a line and its feed, and then what is from `next` on.
pub record HasLineTo (text : List ℕ) (from : ℕ) (next : ℕ) : Type 0 where
  pub content : List ℕ
  pub no_feed : has_no_feed content ≡ true
  pub text_is : drop from text ≡ content ++ (line_feed ∷ drop next text)

-- From a place on, a text has this field, then a line's end, and then what is from `next` on.
pub record IsLastField (text : List ℕ) (from : ℕ) (next : ℕ) (field : List ℕ) : Type 0 where
  pub ends : List ℕ
  pub is_end : IsLineEnd ends
  pub text_is : drop from text ≡ field ++ (ends ++ drop next text)
  pub after : from < next
  pub within : next ≤ length text

-- A field of digits up to a stop writes a number of so many bits.
pub record IsNumberTo (text : List ℕ) (from : ℕ) (stop : ℕ) (bits : ℕ) (value : ℕ)
    (next : ℕ) : Type 0 where
  pub field : List ℕ
  pub there : IsFieldTo text from stop next field
  pub digits : list_all is_ascii_digit field ≡ true
  pub is : number bits field ≡ Some value

pub record IsLastNumber (text : List ℕ) (from : ℕ) (bits : ℕ) (value : ℕ) (next : ℕ) : Type 0 where
  pub field : List ℕ
  pub there : IsLastField text from next field
  pub digits : list_all is_ascii_digit field ≡ true
  pub is : number bits field ≡ Some value

-- A plain field up to a stop names an item.
pub record IsItemTo (text : List ℕ) (from : ℕ) (stop : ℕ) (item : ItemId) (next : ℕ) : Type 0 where
  pub field : List ℕ
  pub there : IsFieldTo text from stop next field
  pub plain : is_plain field ≡ true
  pub is : item_id field ≡ Some item

pub record IsLastItem (text : List ℕ) (from : ℕ) (item : ItemId) (next : ℕ) : Type 0 where
  pub field : List ℕ
  pub there : IsLastField text from next field
  pub plain : is_plain field ≡ true
  pub is : item_id field ≡ Some item

-- after these fields of a text's first record, and the comma behind each, `csv` reads on from what
-- is left
abbrev pub HasRead : List ℕ → List (List ℕ) → List ℕ → Type 0
HasRead text fields left = next_record default_config st.StartRecord [] [] text
    ≡ next_record default_config st.StartField fields [] left

-- After any fields of a line, a text ends the line with these, and `next` is after it; whatever
-- comes after the text.
abbrev pub EndsWithFields : List ℕ → ℕ → List (List ℕ) → ℕ → Type 0
EndsWithFields text from fields next = (more line : List ℕ) (before : List (List ℕ)) →
    HasRead line before (drop from text ++ more) →
    ReadsFirst line (before ++ fields) (drop next text ++ more)

-- what the fields after an item's time say of how many are put up
abbrev pub IsPutUp : List (List ℕ) → ℕ → Type 0
IsPutUp [] count = count ≡ 1
IsPutUp (field ∷ []) count = quantity field ≡ Some count
IsPutUp (field ∷ second ∷ rest) count = ⊥

-- From a place on, a text has the time of an item's line and how many are put up, to the end of the
-- line.
pub record IsEndOfItem (text : List ℕ) (from : ℕ) (time count : ℕ) (next : ℕ) : Type 0 where
  pub first : List ℕ
  pub others : List (List ℕ)
  pub reads : EndsWithFields text from (first ∷ others) next
  pub time_is : number 64 first ≡ Some time
  pub count_is : IsPutUp others count
  pub after : from < next
  pub within : next ≤ length text

-- From a place on, a text has the fields of a request of this kind after its word, to the end of
-- the line.
pub record IsRestOf (kind : RequestKind) (text : List ℕ) (from : ℕ) (request : Request)
    (next : ℕ) : Type 0 where
  pub fields : List (List ℕ)
  pub reads : EndsWithFields text from fields next
  pub count : (worker word : List ℕ) → has_count kind (length (worker ∷ word ∷ fields)) ≡ true
  pub says : (worker word : List ℕ) → request_of kind (worker ∷ word ∷ fields) ≡ Ok request
  pub after : from < next
  pub within : next ≤ length text

-- From a place on, a text has the word and the fields of a request, or of a row, to the end of the
-- line.
pub record IsRequestAt (is_row : Bool) (text : List ℕ) (from : ℕ) (request : Request)
    (next : ℕ) : Type 0 where
  pub word : List ℕ
  pub kind : RequestKind
  pub plain : is_plain word ≡ true
  pub named : kind_of word ≡ Some (record { is_row = is_row; request = kind })
  pub there : HasWordAt text from (word ++ (comma ∷ []))
  pub rest : IsRestOf kind text (from + length (word ++ (comma ∷ []))) request next
