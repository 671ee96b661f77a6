-- A worker's commit, and the commits of all workers.
use Rattle.std.specs.Prelude.{ℕ, List, [], ◌∷◌, ◌++◌}
use Rattle.split_engine.specs.declared.entry.Entry.{Entry}

-- a worker's commit of a call, with a reply
abbrev pub commit : {Q R : Type 0} → ℕ → ℕ × Q → R → Entry Q R
commit worker call reply =
    record { worker = worker; index = call.0; request = call.1; reply = reply }

-- several lists, one after the other
abbrev pub joined : {X : Type 0} → List (List X) → List X
joined [] = []
joined (xs ∷ more) = xs ++ joined more
