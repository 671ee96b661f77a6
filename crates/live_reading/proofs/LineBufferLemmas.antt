-- What a buffer of lines holds, and has left.
use Rattle.std.proofs.Common.{arith, ◌≡◌, ◌≤◌, ◌+◌, ◌-◌, ◌++◌, ◌∙◌, [], ℕ, List, Option, Some, None, drop, length, take, refl, sym, ap, ap₂}
use Rattle.std.proofs.lemmas.{Grind.{common_steps}, List.{append-nil, drop-drop, drop-take}}
use Rattle.std.specs.Io.KnownBytes.{IsAtEnd, prepend_known}

-- after so many bytes were taken
pub held_after : (buffer : List ℕ) (at filled n : ℕ) → n ≤ length (take (filled - at) (drop at buffer))
    → take (filled - (at + n)) (drop (at + n) buffer) ≡ drop n (take (filled - at) (drop at buffer))
held_after buffer at filled n fits =
    let m = filled - at in let within : n ≤ m = grind (arith, common_steps) in
    let both : n + (m - n) ≡ m = omega arith in
    let less : filled - (at + n) ≡ m - n = omega arith in
    ap₂ (λ (k : ℕ) (xs : List ℕ). take k xs) less (sym (drop-drop n at buffer)) ∙ sym (drop-take n (m - n) (drop at buffer)) ∙ ap (λ (k : ℕ). drop n (take k (drop at buffer))) both

-- the known bytes behind those that are held
pub known_behind : (held bytes : List ℕ) (rem : Option (List ℕ)) → prepend_known held rem ≡ Some bytes → (left : List ℕ) × (rem ≡ Some left) × (bytes ≡ held ++ left)
known_behind held bytes None e = absurd (cc e)
known_behind held bytes (Some left) e = let same : held ++ left ≡ bytes = cc e in (left, refl, sym same)

-- at a reader's end a buffer has left what it holds
pub all_held : (held bytes : List ℕ) (rem : Option (List ℕ)) → prepend_known held rem ≡ Some bytes → IsAtEnd rem → (bytes ≡ held) × (rem ≡ Some [])
all_held held bytes None known end = absurd (cc known)
all_held held bytes (Some left) known end =
    let same : held ++ left ≡ bytes = cc known in
    (sym same ∙ ap (λ (ys : List ℕ). held ++ ys) end ∙ append-nil held, ap Some end)

-- what is held at the front of a buffer
pub at_front : (buffer : List ℕ) (at filled : ℕ) → at ≡ 0 → take (filled - at) (drop at buffer) ≡ take filled buffer
at_front buffer at filled start =
    let all : filled - at ≡ filled = omega (arith, start) in
    ap₂ (λ (k m : ℕ). take k (drop m buffer)) all start

-- a read moves known bytes from the reader to those that are held
pub reads_behind : (held first next bytes : List ℕ) (rem new : Option (List ℕ)) → prepend_known held rem ≡ Some bytes → first ≡ held
    → ((all : List ℕ) → rem ≡ Some all → (left : List ℕ) × (new ≡ Some left) × (first ++ all ≡ next ++ left)) → prepend_known next new ≡ Some bytes
reads_behind held first next bytes rem new known same more =
    let (all, is, are) = known_behind held bytes rem known in let (left, now, both) = more all is in
    ap (prepend_known next) now ∙ ap Some (sym both ∙ ap (λ (x : List ℕ). x ++ all) same ∙ sym are)
