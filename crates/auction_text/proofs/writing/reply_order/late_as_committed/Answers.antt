use Rattle.std.proofs.Common.{◌≡◌, ◌∙◌, ◌∷◌, ◌++◌, List, [], None, Some, ap, refl, subst, sym, append_assoc}
use Rattle.std.proofs.lemmas.List.{append-nil}
use Rattle.phase_laws.specs.Order.{part}
use Rattle.auction_rows.specs.declared.rows.Entry.{Entry}
use Rattle.worker_journals.specs.Journals.{entry_worker}
use Rattle.auction_text.proofs.OwnTurns.{AreOf, HasLast, late_by_index, part_own, pass_on}
use Rattle.auction_text.proofs.TurnLemmas.{late-late, late-in_turn}
use Rattle.auction_text.proofs.writing.reply_order.late_as_committed.Goals.{then-is_late+in_ok-push, else-is_late}
use Rattle.auction_text.specs.{Order.{comes_before}, inner.Turns.{late}}
use Rattle.auction_text.proofs.writing.reply_order.late_as_committed.Goals as goal

pub loop-next-init : goal.loop-next-init
loop-next-init c =
    let worker = c.args.worker in let left = c.of_worker-left.result in
    let all = late comes_before None (part entry_worker worker c.args.history.now.entries) in
    let turn : HasLast worker 0 (λ last. c.new-entries.result.items ++ late comes_before last left ≡ all) =
    record { last = None; next_is = refl; own = tt; holds = ap (λ (es : List Entry). es ++ late comes_before None left) c.new-entries.ensures.items ∙ ap (late comes_before None) c.of_worker-left.ensures } in
    let on =
    pass_on worker 0 c.pass_rising-next.result c.new-entries.result.items all left c.pass_rising-next.new.self
    (subst (AreOf worker) (sym c.of_worker-left.ensures) (part_own worker c.args.history.now.entries)) turn c.pass_rising-next.ensures in
    record { own = on.0; turn = on.1 }

pub loop-next-preserved : goal.loop-next-preserved
loop-next-preserved c =
    let worker = c.args.worker in let inv = c.loop-next.invariant in let e = c.in-Some.entry in
    let left = c.next.new.self in let own = subst (AreOf worker) c.in-Some.ensures.steps inv.own in
    let late_is = late_by_index worker c.loop-next.next inv.turn.last e inv.turn.next_is inv.turn.own own.0 ∙ sym c.is_late.ensures in
    let all = late comes_before None (part entry_worker worker c.args.history.now.entries) in
    let turn : HasLast worker c.if-is_late.next (λ last. c.if-is_late.entries.items ++ late comes_before last left ≡ all) = elim c.if-is_late.branch [
      | then-is_late+in_ok-push w ↦
          rw (w.entries-is, w.next-is) (record {
            last = inv.turn.last;
            next_is = inv.turn.next_is;
            own = inv.turn.own;
            holds = ap (λ (es : List Entry). es ++ late comes_before inv.turn.last left) w.in_ok-push.ensures.items
                ∙ append_assoc c.loop-next.entries.items (e ∷ []) (late comes_before inv.turn.last left)
                ∙ ap (λ (es : List Entry). c.loop-next.entries.items ++ es)
                (sym (late-late comes_before inv.turn.last e left (late_is ∙ w.if-is_late.true)) ∙ ap (late comes_before inv.turn.last) (sym c.in-Some.ensures.steps))
                ∙ inv.turn.holds;
          })
      | else-is_late w ↦
          rw (w.entries-is, w.next-is) (record {
            last = Some e;
            next_is = rw w.from-next.ensures (rw w.index.ensures refl);
            own = own.0;
            holds = ap (λ (es : List Entry). c.loop-next.entries.items ++ es)
                (sym (late-in_turn comes_before inv.turn.last e left (late_is ∙ w.if-is_late.false)) ∙ ap (late comes_before inv.turn.last) (sym c.in-Some.ensures.steps))
                ∙ inv.turn.holds;
          })
    ] in
    let on = pass_on worker c.if-is_late.next c.pass_rising-next-in-Some.result c.if-is_late.entries.items all left c.pass_rising-next-in-Some.new.self own.1 turn c.pass_rising-next-in-Some.ensures in
    record { own = on.0; turn = on.1 }

pub returns : goal.returns
unfolding late
returns c =
    let inv = c.loop-next.invariant in
    sym (append-nil c.loop-next.entries.items)
    ∙ ap (λ (es : List Entry). c.loop-next.entries.items ++ late comes_before inv.turn.last es) (sym c.in_default.ensures.steps.0)
    ∙ inv.turn.holds
