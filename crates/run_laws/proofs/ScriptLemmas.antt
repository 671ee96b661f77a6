-- The scripts of workers, as lists.
use Rattle.std.proofs.{Common.{◌≡◌, ℕ, ◌≤◌, List, [], length, ap}, lemmas.Option.{slice_get_past}}
use Rattle.std.specs.Prelude.{unwrap_or}
use Rattle.auction_rows.specs.declared.requests.Request.{Request}
use Rattle.run_laws.specs.Serving.{script_of}

pub past_end : (scripts : List (List Request)) (i : ℕ) → length scripts ≤ i → script_of scripts i ≡ []
past_end scripts i over = ap (λ script. unwrap_or script []) (slice_get_past scripts i over)
