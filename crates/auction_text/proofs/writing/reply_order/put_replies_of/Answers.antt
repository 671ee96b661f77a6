use Rattle.std.proofs.Common.{rules, ℕ, ◌≡◌, ◌∙◌, ◌∷◌, ◌++◌, false, List, [], Option, Some, None, ap, arith, drop, refl, subst, sym}
use Rattle.std.proofs.lemmas.{Grind.{flat_map-append}, List.{take_rest}}
use Rattle.phase_laws.specs.Order.{part}
use Rattle.auction_rows.specs.declared.rows.Entry.{Entry}
use Rattle.worker_journals.specs.Journals.{entry_worker}
use Rattle.auction_text.proofs.{OwnTurns.{AreOf, late_by_index, part_own}, PartLemmas.{entry_order}}
use Rattle.auction_text.proofs.PutLemmas.{put_failed, put_last, told_more, told_none, told_part}
use Rattle.auction_text.proofs.SortLemmas.{IsUp, sorted-up, up-sorted}
use Rattle.auction_text.proofs.TurnLemmas.{after_last, in_turn-in_turn, in_turn-late, in_turn-none, next_in_turn, turns_in_order, up-rest}
use Rattle.auction_text.specs.{Order.{comes_before, sorted}, Replies.{lines}}
use Rattle.auction_text.specs.inner.Putting.{line_after}
use Rattle.auction_text.specs.inner.Turns.{front, in_turn, is_late, late, rest}
use Rattle.auction_text.proofs.writing.reply_order.put_replies_of.Goals as goal

-- what is left of the lines: those of the late entries before the next in turn, its own, and the others
left_lines : (line : Entry → List ℕ) (last : Option Entry) (e : Entry) (left others delayed : List Entry) → left ≡ e ∷ others → is_late comes_before last e ≡ false → IsUp comes_before entry_order delayed
    → lines line (sorted comes_before (in_turn comes_before last left ++ delayed))
    ≡ lines line (front comes_before e delayed) ++ (line e ++ lines line (sorted comes_before (in_turn comes_before (Some e) others ++ rest comes_before e delayed)))
left_lines line last e left others delayed is stands up =
    let turn : in_turn comes_before last left ≡ e ∷ in_turn comes_before (Some e) others = ap (in_turn comes_before last) is ∙ in_turn-in_turn comes_before last e others stands in
    ap (lines line) (ap (λ (es : List Entry). sorted comes_before (es ++ delayed)) turn
    ∙ next_in_turn comes_before entry_order e (in_turn comes_before (Some e) others) delayed up (after_last comes_before entry_order e others))
    ∙ flat_map-append line (front comes_before e delayed) (e ∷ sorted comes_before (in_turn comes_before (Some e) others ++ rest comes_before e delayed))

pub loop-entry-init : goal.loop-entry-init
loop-entry-init g c =
    let own = part entry_worker c.args.worker c.args.history.now.entries in
    let entries : c.into_iter-entry-iterator.result ≡ own = search rules in
    let late_is = c.requires in record {
      within = omega arith;
      up = subst (IsUp comes_before entry_order) (sym late_is) (up-sorted comes_before entry_order (late comes_before None own));
      own = subst (AreOf c.args.worker) (sym entries) (part_own c.args.worker c.args.history.now.entries);
      turn = record {
        last = None;
        next_is = refl;
        own = tt;
        holds = told_none _ _ _ _ (ap (lines (line_after c.args.gone))
            (ap (λ (es : List Entry). sorted comes_before (in_turn comes_before None es ++ c.args.delayed.now)) entries
            ∙ ap (λ (es : List Entry). sorted comes_before (in_turn comes_before None own ++ es)) late_is
            ∙ turns_in_order comes_before entry_order own));
      };
    }

pub loop-entry-preserved-then-not-is_late : goal.loop-entry-preserved-then-not-is_late
loop-entry-preserved-then-not-is_late g c =
    let inv = c.loop-entry.invariant in let e = c.in-Some.entry in let others = c.next.new.self in
    let delayed = drop c.loop-entry.told c.args.delayed.now in
    let own = subst (AreOf c.args.worker) c.in-Some.ensures.steps inv.own in
    let stands = late_by_index c.args.worker c.loop-entry.next inv.turn.last e inv.turn.next_is inv.turn.own own.0 ∙ sym c.is_late.ensures ∙ c.if-not-is_late.true in
    let rest_is : drop c.in_ok-told.told c.args.delayed.now ≡ rest comes_before e delayed = c.in_ok-told.ensures.others in
    let left = left_lines (line_after c.args.gone) inv.turn.last e c.loop-entry.entry-iterator others delayed c.in-Some.ensures.steps stands inv.up in
    let more = lines (line_after c.args.gone) (sorted comes_before (in_turn comes_before (Some e) others ++ rest comes_before e delayed)) in
    let first = told_more _ _ _ _ _ c.put_any_before.new.block _ (lines (line_after c.args.gone) (front comes_before e delayed)) (line_after c.args.gone e ++ more) _ inv.turn.holds left c.in_ok-told.ensures.puts.whole in
    let second = told_more _ _ _ _ _ c.put_reply.new.block _ (line_after c.args.gone e) more _ first refl c.in_ok-put_reply.ensures.whole in
    record {
      within = c.in_ok-told.ensures.within;
      up = subst (IsUp comes_before entry_order) (sym rest_is) (up-rest comes_before entry_order e delayed inv.up);
      own = own.1;
      turn = record {
        last = Some e;
        next_is = search rules;
        own = own.0;
        holds = rw rest_is second;
      };
    }

pub loop-entry-preserved : goal.loop-entry-preserved
loop-entry-preserved g c =
    let inv = c.loop-entry.invariant in let e = c.in-Some.entry in
    let own = subst (AreOf c.args.worker) c.in-Some.ensures.steps inv.own in
    let is_late = late_by_index c.args.worker c.loop-entry.next inv.turn.last e inv.turn.next_is inv.turn.own own.0 ∙ sym c.is_late.ensures ∙ c.if-not-is_late.false in
    let turn : in_turn comes_before inv.turn.last c.loop-entry.entry-iterator ≡ in_turn comes_before inv.turn.last c.next.new.self =
    ap (in_turn comes_before inv.turn.last) c.in-Some.ensures.steps ∙ in_turn-late comes_before inv.turn.last e c.next.new.self is_late in
    record {
      within = inv.within;
      up = inv.up;
      own = own.1;
      turn = record { last = inv.turn.last; next_is = inv.turn.next_is; own = inv.turn.own; holds = rw (← turn) inv.turn.holds };
    }

pub returns-in_err-told : goal.returns-in_err-told
returns-in_err-told g c =
    let inv = c.loop-entry.invariant in let e = c.in-Some.entry in let others = c.next.new.self in
    let delayed = drop c.loop-entry.told c.args.delayed.now in
    let own = subst (AreOf c.args.worker) c.in-Some.ensures.steps inv.own in
    let stands = late_by_index c.args.worker c.loop-entry.next inv.turn.last e inv.turn.next_is inv.turn.own own.0 ∙ sym c.is_late.ensures ∙ c.if-not-is_late.true in
    let left = left_lines (line_after c.args.gone) inv.turn.last e c.loop-entry.entry-iterator others delayed c.in-Some.ensures.steps stands inv.up in
    let more = lines (line_after c.args.gone) (sorted comes_before (in_turn comes_before (Some e) others ++ rest comes_before e delayed)) in
    let part = c.in_err-told.ensures.puts.part in
    put_failed g.W.Write.contents _ _ _ _ _ c.from_residual.result c.in_err-told.field-0.0 c.from_residual.ensures.1 part.0
    (told_part _ _ _ _ _ c.put_any_before.new.block _ (lines (line_after c.args.gone) (front comes_before e delayed)) (line_after c.args.gone e ++ more) _ inv.turn.holds left part.1)

pub returns-in_err-put_reply : goal.returns-in_err-put_reply
returns-in_err-put_reply g c =
    let inv = c.loop-entry.invariant in let e = c.in-Some.entry in let others = c.next.new.self in
    let delayed = drop c.loop-entry.told c.args.delayed.now in
    let own = subst (AreOf c.args.worker) c.in-Some.ensures.steps inv.own in
    let stands = late_by_index c.args.worker c.loop-entry.next inv.turn.last e inv.turn.next_is inv.turn.own own.0 ∙ sym c.is_late.ensures ∙ c.if-not-is_late.true in
    let left = left_lines (line_after c.args.gone) inv.turn.last e c.loop-entry.entry-iterator others delayed c.in-Some.ensures.steps stands inv.up in
    let more = lines (line_after c.args.gone) (sorted comes_before (in_turn comes_before (Some e) others ++ rest comes_before e delayed)) in
    let first = told_more _ _ _ _ _ c.put_any_before.new.block _ (lines (line_after c.args.gone) (front comes_before e delayed)) (line_after c.args.gone e ++ more) _ inv.turn.holds left c.in_ok-told.ensures.puts.whole in
    let part = c.in_err-put_reply.ensures.part in
    put_failed g.W.Write.contents _ _ _ _ _ c.from_residual-in_err-put_reply.result c.in_err-put_reply.field-0.0 c.from_residual-in_err-put_reply.ensures.1 part.0
    (told_part _ _ _ _ _ c.put_reply.new.block _ (line_after c.args.gone e) more _ first refl part.1)

pub returns : goal.returns
returns g c =
    let inv = c.loop-entry.invariant in let delayed = drop c.loop-entry.told c.args.delayed.now in
    let none : in_turn comes_before inv.turn.last c.loop-entry.entry-iterator ≡ [] =
    ap (in_turn comes_before inv.turn.last) c.in-None.ensures.steps.0 ∙ in_turn-none comes_before inv.turn.last in
    let all : sorted comes_before (in_turn comes_before inv.turn.last c.loop-entry.entry-iterator ++ delayed) ≡ delayed =
    ap (λ (es : List Entry). sorted comes_before (es ++ delayed)) none ∙ sorted-up comes_before entry_order delayed inv.up in
    let rest_is = take_rest c.args.delayed.now c.loop-entry.told in
    put_last g.W.Write.contents _ _ _ _ _ _ _ _ _ inv.turn.holds (ap (lines (line_after c.args.gone)) (all ∙ sym rest_is)) c.put_replies.result c.put_replies.ensures
