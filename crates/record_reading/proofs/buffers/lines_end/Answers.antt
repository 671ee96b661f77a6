use Rattle.std.proofs.Common.{arith, ◌≡◌, ◌==◌, ◌≤◌, ◌+◌, ◌-◌, ℕ, true, drop, get_or, length, subst, take}
use Rattle.std.proofs.lemmas.Bool.{eqb-true}
use Rattle.std.proofs.lemmas.List.{get_or-drop, get_or-take, length-drop, length-take-le}
use Rattle.record_reading.proofs.WholeLineLemmas.{no_feed_in}
use Rattle.record_reading.proofs.buffers.lines_end.Goals as goal

pub returns-in-Some-clause-ends : goal.returns-in-Some-clause-ends
returns-in-Some-clause-ends c = λ some.
    let text = c.args.text.now in let k = c.in-Some.place in let (none, here) = c.in-Some.ensures in
    let within : k + 1 ≤ length text = omega (arith, none.high) in
    let long : length (take (k + 1) text) ≡ k + 1 = length-take-le (k + 1) text within in
    let last : k + 1 - 1 ≡ k = omega arith in
    let feed : get_or text k 0 ≡ 10 = eqb-true (get_or text k 0) 10 here in
    record { some = omega (arith, long); feed = rw (long, last, get_or-take (k + 1) text k 0 (omega arith)) feed }

pub returns-in-Some-clause-rest : goal.returns-in-Some-clause-rest
returns-in-Some-clause-rest c =
    let text = c.args.text.now in let behind = c.in-Some.place + 1 in
    let (none, here) = c.in-Some.ensures in
    no_feed_in (drop behind text) (λ j less feed.
    none.after (behind + j) (omega arith) (omega (arith, less, length-drop behind text)) (subst (λ (byte : ℕ). (byte == 10) ≡ true) (get_or-drop behind text j 0) feed))

pub returns-in-None-clause-rest : goal.returns-in-None-clause-rest
returns-in-None-clause-rest c = no_feed_in c.args.text.now (λ place within. c.in-None.ensures place (omega arith) within)
