use Rattle.std.proofs.Common.{◌<◌, List, [], ◌∷◌, Some, slice_get, refl, sym, ap, subst, ◌∙◌, arith}
use Rattle.std.specs.Prelude.{IfSome}
use Rattle.auction_rows.specs.{Requests.{shard_of}, declared.requests.Object.TheVariants.{Category}}
use Rattle.auction_rows.specs.declared.values.Opening.{Opening}
use Rattle.item_shards.specs.{ShardContents.{LiesIn, clock, opening}, declared.shard.Shard.{Shard}}
use Rattle.shard_boxes.specs.{Helds.{taken_at}, Keys.{KeyState, putting, seen_at}}
use Rattle.shard_boxes.specs.{Lines.{after_line, seen_line}, States.{ShardState, state_of}}
use Rattle.phase_transactions.{proofs.KeyLemmas.{idle_put}, specs.Workers.{IsIdle}}
use Rattle.phase_tests.proofs.permits.ClosedLemmas.{first_has}
use Rattle.phase_tests.proofs.box_tests.put_by_hand.Goals as goal

pub list-line-requires-clause-later : goal.list-line-requires-clause-later
list-line-requires-clause-later g c = omega (arith, ap clock c.shard_mut.ensures.value, ap clock c.shard.ensures, c.clock-clock.ensures)

pub list-line-requires-clause-here : goal.list-line-requires-clause-here
list-line-requires-clause-here g c =
    let known = c.take-held.ensures.history in
    subst (λ s. LiesIn s (Category 0)) (sym c.shard_mut.ensures.value) (ap (shard_of (Category 0)) (known.shards_is ∙ c.requires.new.four) ∙ sym known.number_is)

pub list-line-requires-clause-known : goal.list-line-requires-clause-known
list-line-requires-clause-known g c =
    let start = c.take-held.ensures.history.opening_is ∙ c.requires.new.users 0 (omega (arith, c.requires.new.four)) in
    subst (λ s. 0 < (opening s).categories) (sym c.shard_mut.ensures.value) (omega (arith, ap (λ (o : Opening). o.categories) start))

pub put-requires-clause-may : goal.put-requires-clause-may
put-requires-clause-may g c =
    let take = c.take-held.ensures in let line = c.list-line.ensures in
    let found = ap state_of c.shard_mut.ensures.value ∙ take.history.state_is ∙ ap (taken_at g.N.PhaseName.initial c.take-held.new.key) (sym take.number) in
    let clocks = ap (λ (s : ShardState). s.clock) found in (
      line.before ∙ clocks,
      omega (arith, clocks, ap clock c.shard_mut.ensures.value, ap clock c.shard.ensures, c.clock-clock.ensures, line.number),
      line.after ∙ ap (λ taken. after_line taken (seen_line taken c.list-line.result)) found,
    )

pub close_one-shards-requires-clause-key : goal.close_one-shards-requires-clause-key
close_one-shards-requires-clause-key g c =
    let key = c.in_ok-boxes.key in let take = c.take-held.ensures in
    let seen = seen_at c.take-held.new.key 0 in
    let line = Some (seen_line (taken_at g.N.PhaseName.initial c.take-held.new.key c.take-held.result.number) c.list-line.result) in
    let put = c.put.ensures ∙ (λ i. putting (take.key i) (take.number i) line) in record {
      one = c.requires.workers;
      of = ap (λ (k : KeyState). k.boxes) put ∙ c.in_ok-boxes.ensures.boxes;
      worker = ap (λ (k : KeyState). k.worker) put ∙ c.in_ok-boxes.ensures.worker;
      idle = subst IsIdle (sym put) (idle_put key 0 seen line (omega (arith, take.seats, c.requires.new.four)) (λ s. (c.in_ok-boxes.ensures.unused s).0));
    }

pub assert_listed-requires : goal.assert_listed-requires
assert_listed-requires g c =
    subst (λ (shards : List Shard). IfSome (slice_get shards 0) (λ shard. LiesIn shard (Category 0))) (sym c.deref.ensures.value)
    (first_has (Category 0) refl g.N.PhaseName.initial g.N.PhaseName.workers (c.put.new.key ∷ []) c.close_one-shards.result.items c.requires.new.four c.close_one-shards.ensures)
