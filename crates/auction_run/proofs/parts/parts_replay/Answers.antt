use Rattle.auction_run.proofs.PartLemmas.{no_parts, one_part_more, parts_are_one, parts_in_order, parts_leave}
use Rattle.auction_run.proofs.parts.parts_replay.Goals as goal

pub returns : goal.returns
returns c = record {
  replays = parts_are_one;
  left = parts_leave;
  in_order = parts_in_order;
  none = no_parts;
  more = one_part_more;
}
