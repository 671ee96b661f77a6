use Rattle.std.proofs.Common.{◌≡◌, ◌≤◌, ℕ, List, drop, length, take}
use Rattle.record_reading.specs.declared.inputs.TheConstants.{MOST_RECORDS}
use Rattle.auction_reading.specs.inner.Parcels.{AreParcels, but_requests, read_with_all}
use Rattle.auction_reading.specs.inner.Said.{HasRead, read_by}
use Rattle.auction_reading.proofs.parcel_joins.join_all_rows.Given as goal

abbrev pub invariant-loop-parcel : goal.invariant-loop-parcel
invariant-loop-parcel l = record {
  many : l.many ≡ l.parcel-index;
  some_of_all : l.many ≤ length l.parcels;
  room : l.progress.count ≤ MOST_RECORDS;
  joins : read_by l.progress ≡ but_requests (read_by l.fn.progress) (read_with_all (read_by l.fn.progress) (take l.many l.parcels));
  within : (text : List ℕ) → AreParcels text l.parcels → l.at ≤ length text;
  reads : (text : List ℕ) → AreParcels text l.parcels → HasRead (read_by l.fn.progress) text (read_with_all (read_by l.fn.progress) (take l.many l.parcels)) (drop l.at text);
}
