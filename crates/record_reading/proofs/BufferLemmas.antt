-- Bytes that are read into a buffer, and moved to its front.
use Rattle.std.proofs.Common.{arith, ◌≡◌, ◌≤◌, ◌+◌, ◌-◌, get_or, ◌++◌, ◌∙◌, ℕ, List, Option, Some, None, IfSome, drop, length, take, refl, sym, ap, ap₂, take-add}
use Rattle.std.proofs.{Math.Seq.{drop_at, paste, take-paste}, lemmas.Grind.{common_steps}}
use Rattle.std.proofs.lemmas.{List.{drop-drop, drop-take}, Slice.{take-put_mid_below}}
use Rattle.std.specs.Io.KnownBytes.{Consumes}
use Rattle.record_reading.specs.Lines.{EndsLine}
use borrow.Rule.Slice.PartMut.{put_mid}

-- what holds of all bytes that a reader may tell
pub known_all : {Q : List ℕ → Type 0} (o : Option (List ℕ)) → ((bytes : List ℕ) → o ≡ Some bytes → Q bytes) → IfSome o Q
known_all None f = tt
known_all (Some bytes) f = f bytes refl

-- what known bytes lose is at their front
pub consumed : (old new : Option (List ℕ)) (bs all : List ℕ) → old ≡ Some all → Consumes old new bs → (left : List ℕ) × (new ≡ Some left) × (all ≡ bs ++ left)
consumed None new bs all e h = absurd (cc e)
consumed (Some xs) None bs all e h = absurd h
consumed (Some xs) (Some ys) bs all e h = let same : xs ≡ all = cc e in (ys, refl, sym same ∙ h)

front_of_two : (n : ℕ) (ys zs : List ℕ) → n ≤ length ys → take n (ys ++ zs) ≡ take n ys
front_of_two n ys zs fits = grind (arith, common_steps)

-- a buffer, after n bytes were put into its part from a place on
pub put_after : (a k n : ℕ) (xs ys : List ℕ) → a ≤ length xs → n ≤ length ys → take (a + n) (put_mid a k xs ys) ≡ take a xs ++ take n ys
put_after a k n xs ys p q =
    let first : take a (put_mid a k xs ys) ≡ take a xs = take-put_mid_below a k xs ys a (omega arith) p in
    let long : length (take a xs) ≡ a = grind (arith, common_steps) in
    let second : drop a (put_mid a k xs ys) ≡ ys ++ drop k (drop a xs) = drop_at (take a xs) (ys ++ drop k (drop a xs)) a long in
    take-add a n (put_mid a k xs ys) ∙ ap₂ (λ (f g : List ℕ). f ++ g) first (ap (take n) second ∙ front_of_two n ys (drop k (drop a xs)) q)

-- the bytes of a buffer up to a place, and those after it
pub held : (buffer : List ℕ) (filled end : ℕ) → end ≤ filled → take filled buffer ≡ take end buffer ++ take (filled - end) (drop end buffer)
held buffer filled end within =
    let e : end + (filled - end) ≡ filled = omega arith in
    ap (λ (n : ℕ). take n buffer) (sym e) ∙ take-add end (filled - end) buffer

-- those from a place on, after they were moved to the front
pub moved : (buffer : List ℕ) (at end filled : ℕ) → at ≤ end → end ≤ filled → filled ≤ length buffer
    → drop at (take end buffer) ++ take (filled - end) (drop end buffer) ≡ take (filled - at) (paste buffer 0 (drop at buffer) (filled - at))
moved buffer at end filled before within fits =
    let rest = drop at buffer in let n = filled - at in
    let to_end : at + (end - at) ≡ end = omega arith in
    let both : (end - at) + (filled - end) ≡ n = omega arith in
    let nothing : 0 + n ≡ n = omega arith in
    let long : n ≤ length rest = grind (arith, common_steps) in
    let first : drop at (take end buffer) ≡ take (end - at) rest = ap (λ (m : ℕ). drop at (take m buffer)) (sym to_end) ∙ drop-take at (end - at) buffer in
    let second : drop end buffer ≡ drop (end - at) rest = ap (λ (m : ℕ). drop m buffer) (sym to_end) ∙ sym (drop-drop (end - at) at buffer) in
    let put : take n (paste buffer 0 rest n) ≡ take n rest = ap (λ (m : ℕ). take m (paste buffer 0 rest n)) (sym nothing) ∙ take-paste buffer 0 rest n (omega arith) long in
    ap₂ (λ (f g : List ℕ). f ++ take (filled - end) g) first second ∙ sym (take-add (end - at) (filled - end) rest) ∙ ap (λ (m : ℕ). take m rest) both ∙ sym put

-- the last line's end in a part of a buffer is one in the buffer
pub ends_later : (buffer : List ℕ) (from n r : ℕ) → r ≤ n → from + n ≤ length buffer → EndsLine (take r (take n (drop from buffer))) → EndsLine (take (from + r) buffer)
ends_later buffer from n r within fits ends =
    let long : length (take r (take n (drop from buffer))) ≡ r = grind (arith, common_steps) in
    let some : 1 ≤ r = rw long at ends.some in
    let longer : length (take (from + r) buffer) ≡ from + r = grind (arith, common_steps) in
    let here : get_or (take r (take n (drop from buffer))) (r - 1) 0 ≡ get_or buffer (from + (r - 1)) 0 = grind (arith, common_steps) in
    let there : get_or (take (from + r) buffer) (from + r - 1) 0 ≡ get_or buffer (from + r - 1) 0 = grind (arith, common_steps) in
    let place : from + r - 1 ≡ from + (r - 1) = omega arith in
    record { some = rw longer (omega arith); feed = rw longer (there ∙ (rw place (sym here)) ∙ (rw long at ends.feed)) }
