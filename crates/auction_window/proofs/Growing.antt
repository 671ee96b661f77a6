-- One phase more.
use Rattle.std.proofs.Common.{◌≡◌, suc, List, [], ◌∷◌, ◌++◌, length, ap, sym, ◌∙◌, subst}
use mathlib.Core.List.{IsPrefix}
use Rattle.std.specs.Prelude.{Some}
use Rattle.auction_rows.specs.Book.{Book}
use Rattle.auction_rows.specs.declared.{values.Opening.Opening, rows.Row.Row}
use Rattle.item_shards.specs.Serial.{CanFollow, CanAdd, HoldsBook, serial_opening}
use Rattle.item_shards.specs.declared.serial.SerialAuction.{SerialAuction}
use Rattle.auction_window.specs.inner.Copies.{HasPhases, IsLastPhase}
use Rattle.phase_boards.{proofs.BookLemmas.{book_of-snoc}, specs.Boards.{book_of}}
use Rattle.published_parts.proofs.Growing.{before_last}

-- an auction that has the rows of some phases, and the phase that comes next
module _ {opening : Opening} {rows : Book} {last : List Row} {new : List (List Row)} (phase : IsLastPhase opening rows last new)
    (old : List (List Row)) (begins : IsPrefix old new) (len : length new ≡ suc (length old))
    (auction : SerialAuction) (held : HasPhases opening rows (Some auction) old) where
  same : phase.before ≡ old
  same = before_last old new phase.before last phase.phases_are begins len

  follow : CanFollow (serial_opening auction) (book_of rows old) last
  follow =
      subst (λ (start : Opening). CanFollow start (book_of rows old) last) (sym held.0) (subst (λ (phases : List (List Row)). CanFollow opening (book_of rows phases) last) same phase.follow)

  -- its rows can be added
  pub can_add : CanAdd auction last
  can_add = record { book = book_of rows old; holds = held.1; follow = follow }

  grows : book_of rows old ++ last ≡ book_of rows new
  grows = sym (ap (book_of rows) (phase.phases_are ∙ ap (λ (phases : List (List Row)). phases ++ last ∷ []) same) ∙ book_of-snoc rows old last)

  -- once they are, it has the rows of the phase too
  pub has_next : (more : SerialAuction) → serial_opening more ≡ serial_opening auction
      → ((book : Book) → HoldsBook auction book → CanFollow (serial_opening auction) book last → HoldsBook more (book ++ last)) → HasPhases opening rows (Some more) new
  has_next more kept added = (kept ∙ held.0, subst (HoldsBook more) grows (added (book_of rows old) held.1 follow))
