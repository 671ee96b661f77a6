-- The requests of heads, where they lie.
use Rattle.std.proofs.Common.{◌≡◌, ◌<◌, ◌∙◌, ℕ, zero, suc, List, [], ◌∷◌, ◌++◌, Some, length, slice_get, refl, ap, subst, arith, length-append}
use Rattle.std.proofs.lemmas.{List.{length-map}, Option.{none-some, same_Some, slice_get-map}}
use Rattle.std.specs.{List.{AllByRecursion}, Prelude.{option_map, unwrap_or}}
use Rattle.auction_rows.specs.declared.requests.Request.{Request}
use Rattle.worker_journals.specs.declared.asked.Asked.{TheVariants.{Kept, Own}, Asked}
use Rattle.worker_journals.specs.declared.heads.Head.{Head}
use Rattle.worker_journals.specs.inner.Asked.{CanKeep, HasRequestAt, HaveRequests, IsWithin, asked_at, no_request, request_at, requests_of, room_of, with_request}

-- there are as many as heads
pub as_many_asked : (asked : Asked) (heads : List Head) → HaveRequests asked heads → length (requests_of asked heads) ≡ length heads
as_many_asked (Kept kept) heads have = have
as_many_asked (Own script) heads have = length-map heads (asked_at script)

-- where there is room for more than there are heads, one more can be kept
pub can_keep : (asked : Asked) (heads : List Head) → HaveRequests asked heads → length heads < room_of asked → CanKeep asked
can_keep (Kept kept) heads have room = omega (arith, have, room)
can_keep (Own script) heads have room = absurd (omega (arith, room))

-- one more is kept
module _ (request : Request) (head : Head) (heads : List Head) where
  pub more_requests : (asked : Asked) → CanKeep asked → requests_of (with_request asked request) (heads ++ head ∷ []) ≡ requests_of asked heads ++ request ∷ []
  more_requests (Kept kept) can = refl
  more_requests (Own script) can = absurd can

  pub have_more : (asked : Asked) → CanKeep asked → HaveRequests asked heads → HaveRequests (with_request asked request) (heads ++ head ∷ [])
  have_more (Kept kept) can have = omega (arith, have, length-append kept.requests (request ∷ []), length-append heads (head ∷ []))
  have_more (Own script) can have = absurd can

pub same_room : (request : Request) (asked : Asked) → CanKeep asked → room_of (with_request asked request) ≡ room_of asked
same_room request (Kept kept) can = refl
same_room request (Own script) can = absurd can

within_there : (script : List Request) (heads : List Head) (place : ℕ) (head : Head) → AllByRecursion (IsWithin script) heads → slice_get heads place ≡ Some head → head.index < length script
within_there script [] place head all is = absurd (none-some head is)
within_there script (first ∷ heads) zero head all is = subst (λ (h : Head). h.index < length script) (same_Some first head is) all.0
within_there script (first ∷ heads) (suc place) head all is = within_there script heads place head all.1 is

-- there is one for the head at a place
pub has_request : (asked : Asked) (heads : List Head) (place : ℕ) (head : Head) → HaveRequests asked heads → place < length heads → slice_get heads place ≡ Some head →
    HasRequestAt asked place head.index
has_request (Kept kept) heads place head have within is = omega (arith, have, within)
has_request (Own script) heads place head have within is = within_there script heads place head have is

-- it is that head's
pub request_there : (asked : Asked) (heads : List Head) (place : ℕ) (head : Head) (request : Request) → slice_get heads place ≡ Some head → request_at asked place head.index ≡ Some request →
    slice_get (requests_of asked heads) place ≡ Some request
request_there (Kept kept) heads place head request is at = at
request_there (Own script) heads place head request is at =
    slice_get-map (asked_at script) heads place ∙ ap (option_map (asked_at script)) is ∙ ap (λ o. Some (unwrap_or o no_request)) at
