-- The objects that entries write, in runs of the same object.
use Rattle.std.specs.Prelude.{◌≡◌, [], ◌∷◌, ℕ, List, Option, Some, None, flat_map, replicate, count_by}
use Rattle.auction_rows.specs.{Choosing.{heat}, Requests.{same_object}}
use Rattle.auction_rows.specs.declared.{requests.Object.Object, rows.Entry.Entry}
use Rattle.hot_choice.specs.declared.runs.Run.{Run}

-- the objects of a run, one after the other
abbrev pub run_objects : Run → List Object
run_objects run = run.object ∷ replicate run.more run.object

-- those of all runs
abbrev pub objects_of : List Run → List Object
objects_of runs = flat_map run_objects runs

-- the objects of a run that may go on, if there is one
abbrev pub open_objects : Option Run → List Object
open_objects None = []
open_objects (Some run) = run_objects run

-- how often an object is in a list
abbrev pub how_often : List Object → Object → ℕ
how_often objects object = count_by (λ other. same_object other object) objects

-- Each object is in a list as often as entries write it.
abbrev pub AreWritten : List Entry → List Object → Type 0
AreWritten entries objects = (object : Object) → how_often objects object ≡ heat entries object
