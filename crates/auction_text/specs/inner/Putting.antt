-- Lines that are put to a text that waits to be written.
use Rattle.std.specs.Io.KnownBytes.{Appends}
use Rattle.std.specs.Prelude.{◌≡◌, ℕ, ◌+◌, ◌≤◌, List, ◌++◌, drop, length, Option, Result, IfErr, IfOk, OnOk}
use Rattle.auction_rows.specs.declared.rows.Entry.{Entry}
use Rattle.byte_texts.specs.{Writing.{IsPartWritten}, declared.writing.WriteFault.{WriteFault}}
use Rattle.byte_texts.specs.declared.writing.WriteFault.TheVariants.{Write}
use Rattle.auction_text.specs.{Order.{comes_before}, Replies.{lines, reply_line}}
use Rattle.auction_text.specs.inner.Turns.{front, rest}

-- the line of an entry among the replies, after so many requests of its worker
abbrev pub line_after : ℕ → Entry → List ℕ
line_after gone entry = reply_line (record entry { index = gone + entry.index })

-- text is added to what waits to be written: some of all that is written, and the rest is left to
-- wait
pub record Adds (old : Option (List ℕ)) (waiting : List ℕ) (new : Option (List ℕ))
    (left text : List ℕ) : Type 0 where
  pub written : List ℕ
  pub appends : Appends old new written
  pub all : written ++ left ≡ waiting ++ text

-- A text is added to what waits to be written, by what the writer holds before and after.
pub record PutsText {W T : Type 0} (contents : W → Option (List ℕ)) (old new : W)
    (waiting left text : List ℕ) (result : Result T WriteFault) : Type 0 where
  -- whole
  pub whole : OnOk result (Adds (contents old) waiting (contents new) left text)
  -- or a part of what waited and of it was written, if the writer fails
  pub part : IfErr result (λ fault. (fault ≡ Write)
      × IsPartWritten (contents old) (contents new) (waiting ++ text))

-- The lines of entries in order, from a place on, that come before another one are put, and the
-- place after them is given.
pub record PutsFront {W : Type 0} (contents : W → Option (List ℕ)) (old new : W)
    (waiting left : List ℕ) (gone : ℕ) (entries : List Entry) (from : ℕ) (entry : Entry)
    (result : Result ℕ WriteFault) : Type 0 where
  pub within : IfOk result (λ place. place ≤ length entries)
  pub others : IfOk result (λ place.
      drop place entries ≡ rest comes_before entry (drop from entries))
  pub puts : PutsText contents old new waiting left
      (lines (line_after gone) (front comes_before entry (drop from entries))) result
