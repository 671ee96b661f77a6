-- What a file is read from a place on.
use Rattle.std.proofs.Common.{arith, Err, IfOk, Ok, Result, ◌==◌, if◌then◌else◌, ◌≡◌, ◌≤◌, ◌+◌, ◌++◌, ◌∙◌, [], ℕ, List, Option, Some, None, IfSome, drop, length, refl, sym, ap}
use Rattle.std.proofs.lemmas.{Grind.{common_steps}, List.{drop-drop, take-append-drop}}
use Rattle.std.specs.{Io.KnownBytes.{Consumes, IsAtEnd, prepend_known}, Option.{option_map}}
use Rattle.std.specs.Io.Buffered.{reader_buffer, reader_capacity, reader_inner, reader_remaining}
use Rattle.std.specs.declared.io.buffered.BufReader.{BufReader}
use Rattle.part_log.specs.Files.{IsReadAt}

pub read_from : (held : Option (List ℕ)) (at given next : ℕ) (part : List ℕ) → next ≡ at + given → length part ≡ given → IfSome held (λ bytes. IsReadAt bytes at part) → Consumes (option_map (drop at) held) (option_map (drop next) held) part
read_from None at given next part is long reads = tt
read_from (Some bytes) at given next part is long reads =
    let left = drop at bytes in
    sym (take-append-drop (length part) left) ∙ ap (λ (front : List ℕ). front ++ drop (length part) left) reads
    ∙ ap (λ (rest : List ℕ). part ++ rest) (drop-drop (length part) at bytes ∙ ap (λ (n : ℕ). drop n bytes) (omega (arith, is, long)))

pub ends_at : (held : Option (List ℕ)) (at given next : ℕ) → next ≡ at + given → given ≡ 0 → IfSome held (λ bytes. length bytes ≤ at) → IsAtEnd (option_map (drop next) held)
ends_at None at given next is none past = tt
ends_at (Some bytes) at given next is none past =
    let same : next ≡ at = omega (arith, is, none) in
    let all : drop at bytes ≡ [] = grind (arith, common_steps) in
    ap (λ (n : ℕ). drop n bytes) same ∙ all

-- from its start a file is read whole
pub from_start : (held : Option (List ℕ)) → option_map (drop 0) held ≡ held
from_start None = refl
from_start (Some bytes) = refl

none_before : (known : Option (List ℕ)) → prepend_known [] known ≡ known
none_before None = refl
none_before (Some bytes) = refl

-- of a reader that has filled no buffer yet just its inner reader's bytes are left
unfilled : {T A : Type 0} (remaining : T → Option (List ℕ)) (r : BufReader T A) (inner : T) → reader_inner r ≡ inner → reader_buffer r ≡ [] → reader_capacity r ≡ 8192
    → reader_remaining remaining r ≡ remaining inner
unfilled remaining r inner is none room =
    ap (λ (n : ℕ). if n == 0 then None else prepend_known (reader_buffer r) (remaining r.inner)) room
    ∙ ap (λ (bytes : List ℕ). prepend_known bytes (remaining r.inner)) none ∙ none_before (remaining r.inner) ∙ ap remaining is

pub unfilled_if_ok : {T A E : Type 0} (remaining : T → Option (List ℕ)) (result : Result (BufReader T A) E) (inner : T) (left : Option (List ℕ)) → remaining inner ≡ left
    → IfOk result (λ r. reader_inner r ≡ inner) → IfOk result (λ r. reader_buffer r ≡ []) → IfOk result (λ r. reader_capacity r ≡ 8192)
    → IfOk result (λ r. reader_remaining remaining r ≡ left)
unfilled_if_ok remaining (Ok r) inner left has is none room = unfilled remaining r inner is none room ∙ has
unfilled_if_ok remaining (Err why) inner left has is none room = tt
