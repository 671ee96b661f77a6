use Rattle.std.proofs.Common.{◌≡◌, ◌+◌, drop, take}
use Rattle.auction_reading.specs.inner.Parcels.{scripts_with}
use Rattle.auction_reading.proofs.parcel_joins.join_in_turn.Given as goal

abbrev pub invariant-loop-script : goal.invariant-loop-script
invariant-loop-script l = record {
  at : l.worker ≡ l.first + l.script-index;
  done : take l.script-index l.scripts ≡ scripts_with l.first (take l.script-index l.fn.scripts) l.parcels;
  yet : drop l.script-index l.scripts ≡ drop l.script-index l.fn.scripts;
}
