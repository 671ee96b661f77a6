-- The requests of scripts, and the entries of a history that are of one.
use Rattle.std.specs.Prelude.{ℕ, ◌==◌, ◌&&◌, Bool, List, Option, slice_get}
use Rattle.auction_rows.specs.declared.{requests.Request.Request, rows.Entry.Entry}
use Rattle.run_laws.specs.Serving.{script_of}

-- the request with an index in a worker's script, if there is one
abbrev pub request_at : List (List Request) → ℕ → ℕ → Option Request
request_at scripts worker index = slice_get (script_of scripts worker) index

-- whether an entry is of the request with this index of this worker's script
abbrev pub is_of : ℕ → ℕ → Entry → Bool
is_of worker index entry = (entry.worker == worker) && (entry.index == index)
