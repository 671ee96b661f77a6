-- Likes as their model has them.
use Rattle.std.specs.Ordering.{nat_cmp}
use Rattle.std.specs.Prelude.{ℕ, ◌+◌, ◌≤◌, Bool, true, false, List, [], ◌∷◌, Option, None, Some}
use Rattle.phase_laws.specs.Ranking.{greater}
use Rattle.split_engine.specs.{Rules.{Rules}, declared.entry.Decision.{Decision}}
use Rattle.example_likes.specs.declared.likes.Change.{TheVariants.{Note, Count}, Change}
use Rattle.example_likes.specs.declared.likes.LikeReply.{TheVariants.{Liked, Viewed}, LikeReply}
use Rattle.example_likes.specs.declared.likes.LikeRequest.{TheVariants.{Like, View}, LikeRequest}
use Rattle.example_likes.specs.declared.likes.Tally.{Tally}

-- a tally of so many likes and this time
abbrev pub tally : ℕ → Option ℕ → Tally
tally likes last = record { likes = likes; last = last }

-- an answer, and what is done to the user and to the page
abbrev pub decided : LikeReply → List Change → Decision LikeReply Change
decided reply acts = record { reply = reply; acts = acts }

-- the keys of the user and of the page
abbrev pub keys : LikeRequest → List ℕ
keys (Like user page time) = user ∷ page ∷ []
keys (View user page) = user ∷ page ∷ []

-- likes can be performed on slices
abbrev pub splits : LikeRequest → Bool
splits (Like user page time) = true
splits (View user page) = false

-- what a request is answered and does, by the user and the page
abbrev pub decide : LikeRequest → (ℕ → Tally) → Decision LikeReply Change
decide (Like user page time) tallies = decided Liked (Note time ∷ Count ∷ [])
decide (View user page) tallies = decided (Viewed (tallies 1).likes (tallies 0).last) []

-- a tally after a change
abbrev pub applied : Tally → Change → Tally
applied a (Note time) = tally a.likes (greater nat_cmp a.last (Some time))
applied a Count = tally (a.likes + 1) a.last

-- a tally into which a slice is merged
abbrev pub merged : Tally → Tally → Tally
merged a slice = tally (a.likes + slice.likes) (greater nat_cmp a.last slice.last)

-- the application
abbrev pub likes : Rules Tally Tally Tally LikeRequest LikeReply Change
likes = record {
  keys = keys;
  splits = splits;
  blank = tally 0 None;
  look = λ a. a;
  fixed = λ _. tally 0 None;
  decide = decide;
  applied = applied;
  is_splittable = λ _. true;
  empty = tally 0 None;
  sliced = applied;
  merged = merged;
}

-- at most n acts count to n
abbrev pub Fits : ℕ → Tally → Type 0
Fits n a = a.likes ≤ n
