use Rattle.std.proofs.Common.{◌≡◌, ◌∙◌, [], ℕ, List, arith, ap, ap₂, false, length, replicate, sym}
use Rattle.std.proofs.lemmas.List.{with_items_is}
use Rattle.auction_rows.specs.declared.requests.{Request.Request, Opened.Opened}
use Rattle.auction_reading.specs.inner.Said.{WasRead}
use Rattle.auction_reading.proofs.joins.clear.Goals as goal

abbrev was : List Opened → List (List Request) → WasRead
was rows scripts = record { asked = record { rows = rows; scripts = scripts }; count = 0; begun = false }

pub returns : goal.returns
returns c =
    let scripts = c.args.progress.now.input.scripts in let now = c.clear_scripts.new.scripts in
    let many : length now ≡ length scripts.items = omega (arith, c.clear_scripts.auto.scripts, ap length c.deref_mut.ensures.value) in
    let back = with_items_is scripts now (many ∙ sym scripts.ok.0) in
    ap₂ was c.clear.ensures.items (back ∙ c.clear_scripts.ensures ∙ ap (λ (n : ℕ). replicate n []) (ap length c.deref_mut.ensures.value ∙ sym many ∙ ap length (sym back)))
