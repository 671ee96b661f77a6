-- Published phases.
use Rattle.std.specs.Prelude.{◌≡◌, Bool, List, [], Option, MatchOption}
use Rattle.auction_rows.specs.Book.{Book}
use Rattle.auction_rows.specs.declared.{values.Opening.Opening, rows.Row.Row}

-- what a publisher has published
pub record Published : Type 0 where
  -- the rows of each phase that windows read
  pub phases : List (List Row)
  -- whether it was refused memory: then it publishes no more
  pub failed : Bool

-- A publisher of an auction has published these phases, and told them last; it may have failed at
-- the next.
pub record HasPublished (failed : Bool) (own_opening : Opening) (own_rows : Book)
    (opening : Opening) (rows : Book) (publisher : Published) (told : Option (List (List Row)))
    (phases : List (List Row)) : Type 0 where
  pub opening_is : own_opening ≡ opening
  pub rows_are : own_rows ≡ rows
  pub published : publisher ≡ record { phases = phases; failed = failed }
  pub told_last : MatchOption told (phases ≡ []) (λ last. last ≡ phases)
