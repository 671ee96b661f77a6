use Rattle.std.proofs.Common.{◌≡◌, ◌<◌, ap, sym, ◌∙◌, insert, length, eqb-true, arith}
use Rattle.std.proofs.lemmas.Bool.{eqb-false}
use Rattle.top_records.proofs.Places.{put_within, put_for_last, put_past}
use Rattle.top_records.proofs.put_at.Goals.{then-is_full+else-index, else-is_full}
use Rattle.top_records.proofs.put_at.Goals as goal

pub returns-then-index : goal.returns-then-index
returns-then-index g c =
    let full : length c.args.entries.now.items ≡ g.row.K = eqb-true _ _ (sym c.is_full.ensures.value ∙ c.if-is_full.true) in
    put_past g.row.K c.args.index c.args.entries.now.items c.args.entry (c.if-index.true ∙ sym full) full

pub returns : goal.returns
returns g c =
    let k = g.row.K in let index = c.args.index in let held = c.args.entries.now.items in
    c.insert.ensures.items ∙ elim c.if-is_full.branch [
      | then-is_full+else-index w ↦
          let full : length held ≡ k = eqb-true _ _ (sym c.is_full.ensures.value ∙ w.if-is_full.true) in
          let before : index < k = omega (arith, c.requires, w.if-index.false, full) in
          ap (λ entries. insert entries.items index c.args.entry) w.entries-is ∙ ap (λ items. insert items index c.args.entry) w.pop.ensures.rest ∙ put_for_last k index held c.args.entry before full
      | else-is_full w ↦
          let more : length held ≡ k → ⊥ = eqb-false _ _ (sym c.is_full.ensures.value ∙ w.if-is_full.false) in
          let room : length held < k = omega (arith, c.is_full.ensures.fits, more) in
          ap (λ entries. insert entries.items index c.args.entry) w.entries-is ∙ put_within k index held c.args.entry c.requires room
    ]
