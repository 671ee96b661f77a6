use Rattle.std.proofs.Common.{◌≡◌, ◌+◌, ◌≤◌, ◌∙◌, ap, arith, eq-eqb, eqb-true, not, sym, vec_len}
use Rattle.std.proofs.lemmas.Bool.{false≢true}
use Rattle.record_reading.specs.declared.inputs.TheConstants.{MOST_RECORDS}
use Rattle.auction_reading.proofs.JoinLemmas.{can_join, no_late_rows, same_workers}
use Rattle.auction_reading.proofs.joins.can_join.Goals as goal

pub returns-then-len : goal.returns-then-len
returns-then-len c = (
  λ yes. absurd (false≢true yes),
  λ can. absurd (omega (arith, c.if-len.true, c.len.ensures, c.len-2.ensures, same_workers c.args.progress.now c.args.parcel.now can)),
)

pub returns-then-parcel-progress : goal.returns-then-parcel-progress
returns-then-parcel-progress c = (
  λ yes. absurd (false≢true yes),
  λ can.
      let room : c.args.progress.now.count + c.args.parcel.now.count ≤ MOST_RECORDS = can.room in
      absurd (omega (arith, room, c.if-parcel-progress.true)),
)

pub returns-then-not-progress : goal.returns-then-not-progress
returns-then-not-progress c =
    let old = c.args.progress.now in let parcel = c.args.parcel.now in
    let same : vec_len old.input.scripts ≡ vec_len parcel.input.scripts = omega (arith, c.if-len.false, c.len.ensures, c.len-2.ensures) in
    let room : old.count + parcel.count ≤ MOST_RECORDS = omega (arith, c.if-parcel-progress.false, c.requires) in (
      λ yes. can_join old parcel same room (λ begun. absurd (false≢true (sym c.if-not-progress.true ∙ begun))),
      λ can. ap not c.if-not-progress.true,
    )

pub returns-else-not-progress : goal.returns-else-not-progress
returns-else-not-progress c =
    let old = c.args.progress.now in let parcel = c.args.parcel.now in
    let same : vec_len old.input.scripts ≡ vec_len parcel.input.scripts = omega (arith, c.if-len.false, c.len.ensures, c.len-2.ensures) in
    let room : old.count + parcel.count ≤ MOST_RECORDS = omega (arith, c.if-parcel-progress.false, c.requires) in (
      λ yes. can_join old parcel same room (λ begun. eqb-true (vec_len parcel.input.rows) 0 (sym c.is_empty.ensures ∙ yes)),
      λ can. c.is_empty.ensures ∙ eq-eqb (vec_len parcel.input.rows) 0 (no_late_rows old parcel can c.if-not-progress.false),
    )
