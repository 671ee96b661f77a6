-- What a grant shows, by its pass.
use Rattle.crossbeam_queue.specs.Passes.{Pass, view}
use Rattle.item_shards.specs.declared.shard.Shard.{Shard}
use Rattle.shard_boxes.specs.{Passes.{GrantState}, declared.shard_box.Knowledge.{Knowledge}}

-- what a grant shows by its pass
abbrev pub grant_of : Pass Shard Knowledge → GrantState
grant_of pass = record { box_id = pass.table_id; knows = view pass }
