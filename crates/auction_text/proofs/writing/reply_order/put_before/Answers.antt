use Rattle.std.proofs.Common.{rules, ◌≡◌, ◌+◌, ◌∙◌, ℕ, List, [], ◌∷◌, Option, Result, Ok, Err, IsErrAnd, ap, arith, drop, refl, sym}
use Rattle.std.proofs.lemmas.List.{drop_all}
use Rattle.auction_rows.specs.declared.rows.Entry.{Entry}
use Rattle.auction_text.proofs.PutLemmas.{put_failed, told_all, told_more, told_none, told_part}
use Rattle.auction_text.proofs.TurnLemmas.{drop_next, front-end, front-more, front-none, rest-end, rest-more, rest-none}
use Rattle.auction_text.specs.{Order.{comes_before}, Replies.{lines}}
use Rattle.auction_text.specs.inner.{Putting.{PutsFront, PutsText, line_after}, Turns.{front, rest}}
use Rattle.auction_text.proofs.writing.reply_order.put_before.Goals as goal
use Rattle.byte_texts.specs.declared.writing.WriteFault.{WriteFault}

-- where the writer failed, no place is given
front_failed : {W : Type 0} (contents : W → Option (List ℕ)) (old new : W) (waiting left : List ℕ) (gone : ℕ) (entries : List Entry) (from : ℕ) (e : Entry)
    (result : Result ℕ WriteFault) (fault : WriteFault) → IsErrAnd result (λ other. other ≡ fault)
    → PutsText contents old new waiting left (lines (line_after gone) (front comes_before e (drop from entries))) result → PutsFront contents old new waiting left gone entries from e result
front_failed contents old new waiting left gone entries from e (Ok place) fault is puts = absurd is
front_failed contents old new waiting left gone entries from e (Err other) fault is puts = record { within = tt; others = tt; puts = puts }

pub loop-next-init : goal.loop-next-init
loop-next-init g c = record { within = omega arith; left = refl; told = told_none _ _ _ _ refl }

pub loop-next-preserved : goal.loop-next-preserved
loop-next-preserved g c =
    let inv = c.loop-next.invariant in let e = c.args.entry.now in let next = c.in-Some.next.now in
    let within = c.in-Some.ensures.lookup.3.0 in
    let at = drop_next c.args.entries.now c.loop-next.place next within c.in-Some.ensures.lookup.1 in
    let less = sym c.comes_before.ensures ∙ c.if-not-comes_before.false in
    let others = drop (c.loop-next.place + 1) c.args.entries.now in
    let first : front comes_before e (drop c.loop-next.place c.args.entries.now) ≡ next ∷ front comes_before e others =
    ap (front comes_before e) at ∙ front-more comes_before e next others less in record {
      within = omega (arith, within);
      left = sym (ap (rest comes_before e) at ∙ rest-more comes_before e next others less) ∙ inv.left;
      told = told_more _ _ _ _ _ _ _ (line_after c.args.gone next) (lines (line_after c.args.gone) (front comes_before e others)) _ inv.told (ap (lines (line_after c.args.gone)) first) c.in_ok-put_reply.ensures.whole;
    }

pub returns-in_err-put_reply : goal.returns-in_err-put_reply
returns-in_err-put_reply g c =
    let inv = c.loop-next.invariant in let e = c.args.entry.now in let next = c.in-Some.next.now in
    let at = drop_next c.args.entries.now c.loop-next.place next c.in-Some.ensures.lookup.3.0 c.in-Some.ensures.lookup.1 in
    let less = sym c.comes_before.ensures ∙ c.if-not-comes_before.false in
    let others = drop (c.loop-next.place + 1) c.args.entries.now in
    let first : front comes_before e (drop c.loop-next.place c.args.entries.now) ≡ next ∷ front comes_before e others =
    ap (front comes_before e) at ∙ front-more comes_before e next others less in
    let part = c.in_err-put_reply.ensures.part in
    front_failed g.W.Write.contents _ _ _ _ _ _ _ _ c.from_residual.result c.in_err-put_reply.field-0.0 c.from_residual.ensures.1
    (put_failed g.W.Write.contents _ _ _ _ _ c.from_residual.result c.in_err-put_reply.field-0.0 c.from_residual.ensures.1 part.0
    (told_part _ _ _ _ _ c.put_reply.new.block _ (line_after c.args.gone next) (lines (line_after c.args.gone) (front comes_before e others)) _ inv.told (ap (lines (line_after c.args.gone)) first) part.1))

pub returns-then-not-comes_before : goal.returns-then-not-comes_before
returns-then-not-comes_before g c =
    let e = c.args.entry.now in let next = c.in-Some.next.now in
    let at = drop_next c.args.entries.now c.loop-next.place next c.in-Some.ensures.lookup.3.0 c.in-Some.ensures.lookup.1 in
    let more = sym c.comes_before.ensures ∙ c.if-not-comes_before.true in
    let behind = drop (c.loop-next.place + 1) c.args.entries.now in
    let none : front comes_before e (drop c.loop-next.place c.args.entries.now) ≡ [] = ap (front comes_before e) at ∙ front-end comes_before e next behind more in
    record {
      within = c.loop-next.invariant.within;
      others = at ∙ sym (ap (rest comes_before e) at ∙ rest-end comes_before e next behind more) ∙ c.loop-next.invariant.left;
      puts = record { whole = told_all _ _ _ _ _ _ c.loop-next.invariant.told (ap (lines (line_after c.args.gone)) none); part = tt };
    }

pub returns-in_default : goal.returns-in_default
returns-in_default g c =
    let e = c.args.entry.now in
    let end : drop c.loop-next.place c.args.entries.now ≡ [] = drop_all c.loop-next.place c.args.entries.now (search rules) in
    let none : front comes_before e (drop c.loop-next.place c.args.entries.now) ≡ [] = ap (front comes_before e) end ∙ front-none comes_before e in
    record {
      within = c.loop-next.invariant.within;
      others = end ∙ sym (ap (rest comes_before e) end ∙ rest-none comes_before e) ∙ c.loop-next.invariant.left;
      puts = record { whole = told_all _ _ _ _ _ _ c.loop-next.invariant.told (ap (lines (line_after c.args.gone)) none); part = tt };
    }
