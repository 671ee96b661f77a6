-- Requests that are taken out of a stash and put back.
use Rattle.std.proofs.Common.{◌≡◌, ℕ, zero, suc, ◌+◌, ◌-◌, ◌<◌, List, [], ◌∷◌, ◌++◌, length, take, drop, refl, sym, ap, ◌∙◌, arith}
use Rattle.std.proofs.lemmas.List.{drop-drop}
use Rattle.auction_rows.specs.declared.requests.Request.{Request}
use Rattle.worker_slices.specs.Stashes.{StashState, without_first}

-- a stash of these requests, of which so many are taken out
abbrev pub stash_of : List (ℕ × Request) → ℕ → ℕ → StashState
stash_of items performed room = record { requests = drop performed items; done = take performed items; room = room }

take_next : {A : Type 0} (n : ℕ) (items : List A) → take (suc n) items ≡ take n items ++ take 1 (drop n items)
take_next zero [] = refl
take_next zero (item ∷ items) = refl
take_next (suc n) [] = refl
take_next (suc n) (item ∷ items) = ap (λ more. item ∷ more) (take_next n items)

pub one_taken : (items : List (ℕ × Request)) (performed room : ℕ) → stash_of items (performed + 1) room ≡ without_first (stash_of items performed room)
one_taken items performed room =
    let next : performed + 1 ≡ suc performed = omega arith in
    let done : take (performed + 1) items ≡ take performed items ++ take 1 (drop performed items) = ap (λ n. take n items) next ∙ take_next performed items in
    λ i. record { requests = sym (drop-drop 1 performed items) i; done = done i; room = room }

some_taken : (n : ℕ) (items : List (ℕ × Request)) → 0 < length (take n items) → 0 < n
some_taken zero items some = absurd (omega (arith, some))
some_taken (suc n) items some = omega arith

pub one_back : (items : List (ℕ × Request)) (performed room : ℕ) → 0 < length (take performed items) → stash_of items performed room ≡ without_first (stash_of items (performed - 1) room)
one_back items performed room some =
    let taken : 0 < performed = some_taken performed items some in
    let before : performed ≡ performed - 1 + 1 = omega (arith, taken) in
    ap (λ n. stash_of items n room) before ∙ one_taken items (performed - 1) room
