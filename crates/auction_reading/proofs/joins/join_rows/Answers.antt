use Rattle.std.proofs.Common.{◌+◌, ◌||◌, ◌++◌, ◌∙◌, ℕ, List, Bool, ap}
use Rattle.auction_rows.specs.declared.requests.{Opened.Opened, Request.Request}
use Rattle.auction_reading.specs.inner.Said.{WasRead}
use Rattle.auction_reading.proofs.joins.join_rows.Goals as goal

abbrev was : List (List Request) → ℕ → Bool → List Opened → WasRead
was scripts count begun rows = record { asked = record { rows = rows; scripts = scripts }; count = count; begun = begun }

pub returns-clause-joins : goal.returns-clause-joins
returns-clause-joins c =
    let old = c.args.progress.now in let parcel = c.args.parcel.now in
    ap (was old.input.scripts.items (old.count + parcel.count) (old.begun || parcel.begun))
    (c.in-Ok.ensures.items ∙ ap (λ (rows : List Opened). old.input.rows.items ++ rows) c.deref.ensures.value)
