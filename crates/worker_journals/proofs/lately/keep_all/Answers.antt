use Rattle.std.proofs.Common.{arith, ◌<◌, ◌≤◌, ◌∙◌, length, lt_of_lt_of_le, refl, subst, sym, append-nil}
use Rattle.std.specs.Prelude.{IsSome}
use Rattle.worker_journals.proofs.KeptLemmas.{one_more, all_there, room_left, some_there}
use Rattle.worker_journals.proofs.lately.keep_all.Goals as goal

pub loop-place-init : goal.loop-place-init
loop-place-init g c = record { items = sym (append-nil c.args.list.now.items); capacity = refl }

pub push_reserved-requires : goal.push_reserved-requires
push_reserved-requires g c =
    let start = c.args.list.now in
    room_left start.items c.args.shown.now c.loop-place.place c.loop-place.list.items _ _ _ _ (lt_of_lt_of_le c.loop-place-test.true c.len-place-end.ensures.at_most_ten)
    c.loop-place.invariant.items start.ok.0 c.loop-place.list.ok.0 c.loop-place.invariant.capacity c.requires

pub loop-place-smaller : goal.loop-place-smaller
loop-place-smaller g c = omega (arith, c.loop-place-test.true)

pub loop-place-preserved : goal.loop-place-preserved
loop-place-preserved g c =
    let within : c.loop-place.place < length c.args.shown.now = subst (λ n. c.loop-place.place < n) c.len-place-end.ensures.length c.loop-place-test.true in
    record {
      items = one_more c.args.list.now.items c.args.shown.now c.loop-place.place c.loop-place.list.items c.push_reserved.new.self.items c.unwrap.result within
          (sym c.get.ensures ∙ c.unwrap.ensures) c.loop-place.invariant.items c.push_reserved.ensures.items;
      capacity = c.push_reserved.ensures.capacity ∙ c.loop-place.invariant.capacity;
    }

pub returns-clause-kept : goal.returns-clause-kept
returns-clause-kept g c =
    let past : length c.args.shown.now ≤ c.loop-place.place = subst (λ n. n ≤ c.loop-place.place) c.len-place-end.ensures.length c.loop-place-test.false in
    all_there c.args.list.now.items c.args.shown.now c.loop-place.place c.loop-place.list.items past c.loop-place.invariant.items

pub returns-clause-place : goal.returns-clause-place
returns-clause-place g c = c.of-start.ensures ∙ c.len.ensures

pub returns-clause-capacity : goal.returns-clause-capacity
returns-clause-capacity g c = c.loop-place.invariant.capacity

pub unwrap-requires : goal.unwrap-requires
unwrap-requires g c =
    let within = subst (λ n. c.loop-place.place < n) c.len-place-end.ensures.length c.loop-place-test.true in
    subst IsSome (sym c.get.ensures) (some_there c.args.shown.now c.loop-place.place within)
