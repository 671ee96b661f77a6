use Rattle.std.proofs.Common.{◌≡◌, ◌≢◌, refl, sym, ap, ◌∙◌, arith}
use Rattle.std.proofs.lemmas.Bool.{eq-eqb, ne_eqb, or_from}
use Rattle.shard_boxes.proofs.SeatLemmas.{taking-other}
use Rattle.shard_boxes.specs.Keys.{KeyState, SeatState, holds_at}
use Rattle.phase_transactions.proofs.TakeLemmas.{taken_none, taken_more, taken_turned}
use Rattle.phase_transactions.proofs.taken.take_all.Goals as goal

-- the greater shard is taken after the lesser one
pub take-on_other-requires-clause-rising : goal.take-on_other-requires-clause-rising
take-on_other-requires-clause-rising g c t from =
    ap (λ (key : KeyState). holds_at key t) c.take-on_item.ensures.key
    ∙ ap (λ (seat : SeatState). seat.holds) (taking-other c.args.key.now c.in-Some-Some.item t _ (λ same. omega (arith, from, same))) ∙ c.requires.ready.idle t

pub take-on_item-requires-in-Some-Some-2-clause-rising : goal.take-on_item-requires-in-Some-Some-2-clause-rising
take-on_item-requires-in-Some-Some-2-clause-rising g c t from =
    ap (λ (key : KeyState). holds_at key t) c.take-on_other-in-Some-Some-2.ensures.key
    ∙ ap (λ (seat : SeatState). seat.holds) (taking-other c.args.key.now c.in-Some-Some.other t _ (λ same. omega (arith, from, same))) ∙ c.requires.ready.idle t

pub returns-in-None-Some : goal.returns-in-None-Some
returns-in-None-Some g c = rw (sym c.shard.ensures ∙ c.in-None-Some.is-0, sym c.shard-2.ensures ∙ c.in-None-Some.is-1) c.take_one.ensures

pub returns-in-Some-None : goal.returns-in-Some-None
returns-in-Some-None g c = rw (sym c.shard.ensures ∙ c.in-Some-None.is-0, sym c.shard-2.ensures ∙ c.in-Some-None.is-1) c.take_one-in-Some-None.ensures

pub returns-in-Some-Some : goal.returns-in-Some-Some
returns-in-Some-Some g c =
    let a = c.in-Some-Some.item in let b = c.in-Some-Some.other in
    let first = c.take-on_item.ensures in let second = c.take-on_other.ensures in
    let apart : a ≢ b = λ same. omega arith in
    rw (sym c.shard.ensures ∙ c.in-Some-Some.is-0, sym c.shard-2.ensures ∙ c.in-Some-Some.is-1, ne_eqb a b apart)
    (taken_turned (taken_more _ _ (taken_more _ _ (taken_none _ _ _ c.requires.ready.idle) refl first.seats first.key first.later first.number first.history)
    (or_from _ _ (ne_eqb a b apart) refl) second.seats second.key second.later second.number second.history))

pub returns-in-Some-Some-2 : goal.returns-in-Some-Some-2
returns-in-Some-Some-2 g c =
    let a = c.in-Some-Some.item in let b = c.in-Some-Some.other in
    let first = c.take-on_other-in-Some-Some-2.ensures in
    let second = c.take-on_item-in-Some-Some-2.ensures in let apart : b ≢ a = λ same. omega arith in
    rw (sym c.shard.ensures ∙ c.in-Some-Some.is-0, sym c.shard-2.ensures ∙ c.in-Some-Some.is-1, ne_eqb a b (λ e. apart (sym e)))
    (taken_more _ _ (taken_more _ _ (taken_none _ _ _ c.requires.ready.idle) refl first.seats first.key first.later first.number first.history)
    (or_from _ _ (ne_eqb b a apart) refl) second.seats second.key second.later second.number second.history)

pub returns-in-Some-Some-3 : goal.returns-in-Some-Some-3
returns-in-Some-Some-3 g c =
    let a = c.in-Some-Some.item in let b = c.in-Some-Some.other in
    let same : a ≡ b = omega arith in
    rw (sym c.shard.ensures ∙ c.in-Some-Some.is-0, sym c.shard-2.ensures ∙ c.in-Some-Some.is-1, eq-eqb a b same) c.take_one-in-Some-Some-3.ensures
