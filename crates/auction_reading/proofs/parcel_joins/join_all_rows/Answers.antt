use Rattle.std.proofs.Common.{arith, ◌≡◌, ◌<◌, ◌≤◌, ◌+◌, ◌∙◌, ℕ, List, ap, get_or, length, refl, subst, sym}
use Rattle.record_reading.specs.declared.inputs.TheConstants.{MOST_RECORDS}
use Rattle.auction_reading.proofs.{ParcelLemmas.{reads_more, rows_more}, SaidLemmas.{has_read_none}}
use Rattle.auction_reading.specs.inner.Parcels.{AreParcels, Follows, IsParcel}
use Rattle.auction_reading.specs.inner.Said.{WasRead, read_by}
use Rattle.auction_reading.proofs.parcel_joins.join_all_rows.Goals as goal

pub loop-parcel-init : goal.loop-parcel-init
loop-parcel-init c = record {
  many = refl;
  some_of_all = omega arith;
  room = c.requires;
  joins = refl;
  within = λ text are. omega arith;
  reads = λ text are. has_read_none (read_by c.args.progress.now) text c.requires;
}

pub join_rows-requires : goal.join_rows-requires
join_rows-requires c =
    let follows : Follows (read_by c.loop-parcel.progress) c.loop-parcel.at c.parcel-item.result c.in-Some.to = rw c.in-Some.is at c.in_ok-end.ensures.follows in
    follows.joins

pub loop-parcel-preserved : goal.loop-parcel-preserved
loop-parcel-preserved c =
    let inv = c.loop-parcel.invariant in let parcels = c.args.parcels.now in
    let parcel = c.parcel-item.result in let many = c.loop-parcel.many in
    let old = read_by c.args.progress.now in let now = read_by c.loop-parcel.progress in
    let next = c.join_rows.new.progress in
    let less : many < length parcels = omega (arith, inv.many, c.loop-parcel-test.true) in
    let is : parcel ≡ get_or parcels many parcel = c.parcel-item.is ∙ ap (λ (n : ℕ). get_or parcels n parcel) (sym inv.many) in
    let follows : Follows now c.loop-parcel.at parcel c.in-Some.to = rw c.in-Some.is at c.in_ok-end.ensures.follows in
    let has : (text : List ℕ) → AreParcels text parcels → IsParcel text parcel = λ text are. subst (IsParcel text) (sym is) (are.each many parcel less) in
    let joins = c.in_ok-join_rows.ensures.joins in
    let counted : next.count ≡ c.loop-parcel.progress.count + parcel.progress.count = ap (λ (w : WasRead). w.count) joins in
    let fits : c.loop-parcel.progress.count + parcel.progress.count ≤ MOST_RECORDS = follows.joins.room in
    record {
      many = omega (arith, inv.many);
      some_of_all = omega (arith, less);
      room = omega (arith, counted, fits);
      joins = rows_more old parcels many parcel now less is inv.joins (read_by next) joins;
      within = λ text are. (has text are c.in-Some.to follows.ends).within;
      reads = λ text are. reads_more old parcels many parcel now less is inv.joins text c.loop-parcel.at c.in-Some.to follows (has text are) (inv.reads text are);
    }

pub returns-in_default : goal.returns-in_default
returns-in_default c =
    let inv = c.loop-parcel.invariant in
    record { many = inv.some_of_all; joins = inv.joins; within = inv.within; reads = inv.reads; fails = tt }

pub returns : goal.returns
returns c =
    let inv = c.loop-parcel.invariant in
    record { many = inv.some_of_all; joins = inv.joins; within = inv.within; reads = inv.reads; fails = tt }
