-- Marks of requests.
use Rattle.std.specs.Option.{option_map}
use Rattle.std.specs.Prelude.{Bool, false, List, length, map, replicate, ◌≡◌, ℕ}
use Rattle.split_engine.specs.Serving.{request_at}
use Rattle.application_check.specs.{Checking.{has_line}, declared.referee.HistoryLine.{HistoryLine}}

-- of each request of some scripts, that it is not marked
abbrev pub no_marks : {Q : Type 0} → List (List Q) → List (List Bool)
no_marks scripts = map (λ script. replicate (length script) false) scripts

-- marks say of each request of the scripts whether one of these lines has it
abbrev pub AreMarks : {Q R : Type 0} → List (List Q) → List (HistoryLine R) → List (List Bool) → Type 0
AreMarks scripts lines marks = (worker index : ℕ) → request_at marks worker index
    ≡ option_map (λ q. has_line lines worker index) (request_at scripts worker index)
