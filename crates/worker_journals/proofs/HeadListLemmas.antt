-- Heads with their requests: how many, one more at the end, each by itself, and those of a script.
use Rattle.std.proofs.Common.{◌≡◌, ◌<◌, ◌∙◌, ℕ, suc, List, [], ◌∷◌, ◌++◌, map, length, None, refl, ap, arith}
use Rattle.std.{proofs.lemmas.Option.{slice_get_within}, specs.List.{AllByRecursion}}
use Rattle.std.specs.Prelude.{slice_get, unwrap_or}
use Rattle.auction_rows.specs.declared.requests.Request.{Request}
use Rattle.worker_journals.specs.declared.heads.Head.{Head}
use Rattle.worker_journals.specs.inner.Asked.{IsWithin, asked_at, no_request}
use Rattle.worker_journals.specs.inner.HeadLists.{AskedHead, IsHeadOf, asked_head, head_in, heads_of, request_in}

-- as many as there are heads
pub as_many : (requests : List Request) (heads : List Head) → length requests ≡ length heads → length (heads_of requests heads) ≡ length heads
as_many [] [] same = refl
as_many [] (head ∷ heads) same = same
as_many (request ∷ requests) [] same = absurd (omega (arith, same))
as_many (request ∷ requests) (head ∷ heads) same = ap suc (as_many requests heads (omega (arith, same)))

-- a place of a head is one of the list
pub within_heads : (requests : List Request) (heads : List Head) (place : ℕ) → length requests ≡ length heads → place < length (heads_of requests heads) → place < length heads
within_heads requests heads place same within = omega (arith, within, as_many requests heads same)

-- of no heads there is no first one
pub no_first : (askeds : List AskedHead) → length askeds ≡ 0 → None ≡ slice_get (map head_in askeds) 0
no_first [] none = refl
no_first (asked ∷ askeds) none = absurd (omega (arith, none))

-- one more of each is one more
pub one_more_head : (requests : List Request) (heads : List Head) (request : Request) (head : Head) → length requests ≡ length heads →
    heads_of (requests ++ request ∷ []) (heads ++ head ∷ []) ≡ heads_of requests heads ++ asked_head head request ∷ []
one_more_head [] [] request head same = refl
one_more_head (asked ∷ requests) (next ∷ heads) request head same = ap (λ hs. asked_head next asked ∷ hs) (one_more_head requests heads request head (omega (arith, same)))
one_more_head requests heads request head same = absurd (omega (arith, same))

-- the heads
pub heads_alone : (requests : List Request) (heads : List Head) → length requests ≡ length heads → map head_in (heads_of requests heads) ≡ heads
heads_alone [] [] same = refl
heads_alone (request ∷ requests) (head ∷ heads) same = ap (λ hs. head ∷ hs) (heads_alone requests heads (omega (arith, same)))
heads_alone requests heads same = absurd (omega (arith, same))

-- the requests
pub requests_alone : (requests : List Request) (heads : List Head) → length requests ≡ length heads → map request_in (heads_of requests heads) ≡ requests
requests_alone [] heads same = refl
requests_alone (request ∷ requests) [] same = absurd (omega (arith, same))
requests_alone (request ∷ requests) (head ∷ heads) same = ap (λ rs. request ∷ rs) (requests_alone requests heads (omega (arith, same)))

-- where heads' requests are those of a script, the script says the same heads
pub heads_of_script : (script : List Request) (requests : List Request) (heads : List Head) → length requests ≡ length heads →
    AllByRecursion (IsHeadOf script) (heads_of requests heads) → heads_of (map (asked_at script) heads) heads ≡ heads_of requests heads
heads_of_script script [] [] same all = refl
heads_of_script script (request ∷ requests) (head ∷ heads) same all =
    ap (λ r. asked_head head r ∷ heads_of (map (asked_at script) heads) heads) (ap (λ o. unwrap_or o no_request) all.0)
    ∙ ap (λ hs. asked_head head request ∷ hs) (heads_of_script script requests heads (omega (arith, same)) all.1)
heads_of_script script requests heads same all = absurd (omega (arith, same))

-- and has their requests
pub within_script : (script : List Request) (requests : List Request) (heads : List Head) → length requests ≡ length heads →
    AllByRecursion (IsHeadOf script) (heads_of requests heads) → AllByRecursion (IsWithin script) heads
within_script script requests [] same all = tt
within_script script [] (head ∷ heads) same all = absurd (omega (arith, same))
within_script script (request ∷ requests) (head ∷ heads) same all =
    (slice_get_within script head.index request all.0, within_script script requests heads (omega (arith, same)) all.1)
