use Rattle.std.proofs.Common.{◌≡◌, ◌<◌, Some, length, map, get_or, ap, sym, ◌∙◌, arith}
use Rattle.auction_rows.specs.Requests.{shard_of}
use Rattle.item_shards.specs.{Contents.{Contents, after_act, target}, ShardContents.{contents}}
use Rattle.item_shards.specs.Values.{blank}
use Rattle.shard_boxes.specs.States.{state_of}
use Rattle.auction_shards.proofs.Acts.{act_done, none_done}
use Rattle.auction_shards.proofs.writing.act.Goals as goal

pub act-requires : goal.act-requires
act-requires c =
    let shards = c.args.shards.now.items in let old = c.index_mut.result.now in
    let many : c.len.result ≡ length shards = omega (arith, c.len.ensures, c.args.shards.now.ok.0) in
    c.requires.can c.in-Some.object old (sym (c.object.ensures (contents old)) ∙ c.in-Some.is)
    (c.index_mut.ensures.value ∙ ap (λ n. get_or shards n old) (c.shard_of-place.ensures.shard ∙ ap (shard_of c.in-Some.object) many))

pub returns-in-Some : goal.returns-in-Some
returns-in-Some c = λ event is.
    let shards = c.args.shards.now.items in let object = c.in-Some.object in
    let place = c.shard_of-place.result in let old = c.index_mut.result.now in
    let did = c.act.ensures in
    let many : c.len.result ≡ length shards = omega (arith, c.len.ensures, c.args.shards.now.ok.0) in
    let low : place < length shards = omega (arith, c.shard_of-place.ensures.within, many) in
    let lies = ap (shard_of object) (sym many) ∙ sym c.shard_of-place.ensures.shard in
    let about : target event ≡ Some object = ap target (sym (is (contents old))) ∙ sym (c.object.ensures (contents old)) ∙ c.in-Some.is in
    act_done shards c.requires.shards.numbered place low object event about lies old c.act.new.self c.index_mut.ensures.value did.same did.clock
    (did.contents ∙ ap (after_act (contents old)) (is (contents old)))

pub returns-in_default : goal.returns-in_default
returns-in_default c = λ event is.
    let shown : Contents = λ object. blank in
    none_done (map state_of c.args.shards.now.items) event (ap target (sym (is shown)) ∙ sym (c.object.ensures shown) ∙ c.in_default.is)
