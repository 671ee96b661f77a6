use Rattle.std.proofs.Common.{◌≡◌, ◌<◌, length, Bool, true, false, Option, Some, get_or, [], ◌∷◌, ◌++◌, cond, arith, refl, ap, sym, ◌∙◌, subst}
use Rattle.std.{proofs.lemmas.List.{length-append}, specs.Bool.{OnFalse, OnTrue}}
use Rattle.std.specs.{List.{AllByRecursion}, Prelude.{count_by, IsSomeAnd}}
use Rattle.auction_rows.specs.{Book.{Book}, History.{book_after}, Replies.{reply, next}}
use Rattle.item_shards.specs.Serial.{HoldsBook, serial_opening}
use Rattle.history_check.proofs.EntryLemmas.{book_more, not_many_more, well_more, marks_more}
use Rattle.history_check.proofs.ScriptLemmas.{worker_below, index_below}
use Rattle.history_check.proofs.TurnLemmas.{may_stand, may_not_stand, turns_more}
use Rattle.history_check.specs.{Checking.{IsWrong}, CommitIds.{entry_with_id}, Marks.{is_marked}}
use Rattle.history_check.specs.{Orders.{MayPrecede}, Scripts.{is_of, request_at}, Taking.{HasTaken}}
use Rattle.history_check.specs.{declared.lines.Wrong.{Wrong}, inner.Lateness.{is_late}}
use Rattle.history_check.specs.inner.Replaying.{HasCompared}
use Rattle.history_check.proofs.replay.Replay.perform_at.Goals as goal

pub has-requires-clause-worker : goal.has-requires-clause-worker
has-requires-clause-worker c = worker_below c.args.scripts.now c.args.commit_id.worker c.args.commit_id.index c.in-Some.request c.requires.workers (sym c.in-Some.ensures)

pub has-requires-clause-index : goal.has-requires-clause-index
has-requires-clause-index c = index_below c.args.scripts.now c.args.self.now.marks.rows.items c.args.commit_id.worker c.args.commit_id.index c.in-Some.request c.requires.taken.taken.places (sym c.in-Some.ensures)

pub is_late-requires : goal.is_late-requires
is_late-requires c = worker_below c.args.scripts.now c.args.commit_id.worker c.args.commit_id.index c.in-Some.request c.requires.workers (sym c.in-Some.ensures)

pub is_due-requires-clause-worker : goal.is_due-requires-clause-worker
is_due-requires-clause-worker c = worker_below c.args.scripts.now c.args.commit_id.worker c.args.commit_id.index c.in-Some.request c.requires.workers (sym c.in-Some.ensures)

pub mark-requires-clause-worker : goal.mark-requires-clause-worker
mark-requires-clause-worker c = worker_below c.args.scripts.now c.args.commit_id.worker c.args.commit_id.index c.in-Some.request c.requires.workers (sym c.in-Some.ensures)

pub mark-requires-clause-index : goal.mark-requires-clause-index
mark-requires-clause-index c = index_below c.args.scripts.now c.args.self.now.marks.rows.items c.args.commit_id.worker c.args.commit_id.index c.in-Some.request c.requires.taken.taken.places (sym c.in-Some.ensures)

pub pass-requires : goal.pass-requires
pass-requires c = worker_below c.args.scripts.now c.args.commit_id.worker c.args.commit_id.index c.in-Some.request c.requires.workers (sym c.in-Some.ensures)

pub is_due-requires-clause-room : goal.is_due-requires-clause-room
is_due-requires-clause-room c =
    let can = c.requires.taken in
    record { book = book_after can.opening can.start can.history; holds = can.taken.holds; not_full = omega (arith, can.taken.few, c.if-self-ge-MOST_ROWS.false) }

pub returns-in_default-clause-right : goal.returns-in_default-clause-right
returns-in_default-clause-right c = rw c.refuse.ensures.refused tt

pub returns-in_default-clause-wrong : goal.returns-in_default-clause-wrong
returns-in_default-clause-wrong c =
    rw (c.refuse.ensures.refused, c.refuse.ensures.kept) (λ line is opening start order history taken. (c.args.commit_id, c.args.text.now, is, sym c.in_default.ensures))

pub returns-then-has-clause-right : goal.returns-then-has-clause-right
returns-then-has-clause-right c = rw c.refuse-then-has.ensures.refused tt

pub returns-then-has-clause-wrong : goal.returns-then-has-clause-wrong
returns-then-has-clause-wrong c =
    let worker = c.args.commit_id.worker in let index = c.args.commit_id.index in
    let below : worker < 16 = worker_below c.args.scripts.now worker index c.in-Some.request c.requires.workers (sym c.in-Some.ensures) in
    let seen : is_marked c.args.self.now.marks.rows.items worker index ≡ true = sym c.has.ensures ∙ c.if-has.true in
    rw (c.refuse-then-has.ensures.refused, c.refuse-then-has.ensures.kept)
    (λ line is opening start order history taken. (c.args.commit_id, c.args.text.now, is, taken.marks worker index below ∙ ap (λ b. cond b 1 0) seen))

pub returns-then-is_late-clause-right : goal.returns-then-is_late-clause-right
returns-then-is_late-clause-right c = rw c.refuse-then-is_late.ensures.refused tt

pub returns-then-is_late-clause-wrong : goal.returns-then-is_late-clause-wrong
returns-then-is_late-clause-wrong c = rw (c.refuse-then-is_late.ensures.refused, c.refuse-then-is_late.ensures.kept) (λ line is opening start order history taken.
    let commit_id = c.args.commit_id in let request = c.in-Some.request in
    let below : commit_id.worker < 16 = worker_below c.args.scripts.now commit_id.worker commit_id.index request c.requires.workers (sym c.in-Some.ensures) in
    let late : is_late c.args.self.now.order request commit_id.index (get_or c.args.self.now.turns.next commit_id.worker 0) ≡ true = sym c.is_late.ensures ∙ c.if-is_late.true in (
      commit_id,
      c.args.text.now,
      is,
      (
        request,
        sym c.in-Some.ensures,
        λ reply all. may_not_stand order history (entry_with_id commit_id request reply) (get_or c.args.self.now.turns.next commit_id.worker 0) (taken.turns commit_id.worker below)
            (ap (λ o. is_late o request commit_id.index (get_or c.args.self.now.turns.next commit_id.worker 0)) (sym taken.order_is) ∙ late) all,
      ),
    ))

-- what is compared by a test, for one value of it
if_right : (Q : Type 0) (P : Bool → Type 0) (right : Bool) → P right → (P true → Q) → OnTrue right Q
if_right Q P true holds told = told holds
if_right Q P false holds told = tt

if_wrong : (Q : Type 0) (P : Bool → Type 0) (right : Bool) → P right → (P false → Q) → OnFalse right Q
if_wrong Q P true holds told = tt
if_wrong Q P false holds told = told holds

pub returns-clause-wrong : goal.returns-clause-wrong
returns-clause-wrong c =
    let auction = c.args.self.now.auction in let commit_id = c.args.commit_id in
    let request = c.in-Some.request in
    if_wrong _ (λ right. (book : Book) → HoldsBook auction book → HasCompared right (reply (serial_opening auction) book commit_id.worker request) c.args.text.now c.is_due.new.self)
    c.in_ok-is_right.is_right c.in_ok-is_right.ensures.compared (λ compared line is opening start order history taken.
    let book = book_after opening start history in let told = compared book taken.holds in
    let due = ap (λ o. reply o book commit_id.worker request) taken.opening_is in
    subst (λ (why : Option Wrong). IsSomeAnd why (IsWrong opening start c.args.scripts.now order history line)) (sym told.0)
    (commit_id, c.args.text.now, is, (request, sym c.in-Some.ensures, (due, told.1))))

pub returns-clause-right : goal.returns-clause-right
returns-clause-right c =
    let auction = c.args.self.now.auction in let commit_id = c.args.commit_id in
    let request = c.in-Some.request in let scripts = c.args.scripts.now in
    let there : request_at scripts commit_id.worker commit_id.index ≡ Some request = sym c.in-Some.ensures in
    let below : commit_id.worker < 16 = worker_below scripts commit_id.worker commit_id.index request c.requires.workers there in
    let unseen : is_marked c.args.self.now.marks.rows.items commit_id.worker commit_id.index ≡ false = sym c.has.ensures ∙ c.if-has.false in
    let early : is_late c.args.self.now.order request commit_id.index (get_or c.args.self.now.turns.next commit_id.worker 0) ≡ false = sym c.is_late.ensures ∙ c.if-is_late.false in
    if_right _ (λ right. (book : Book) → HoldsBook auction book → HasCompared right (reply (serial_opening auction) book commit_id.worker request) c.args.text.now c.is_due.new.self)
    c.in_ok-is_right.is_right c.in_ok-is_right.ensures.compared (λ compared opening start order history taken.
    let book = book_after opening start history in
    let due = reply (serial_opening auction) book commit_id.worker request in
    let entry = entry_with_id commit_id request due in
    let none : count_by (is_of commit_id.worker commit_id.index) history ≡ 0 = taken.marks commit_id.worker commit_id.index below ∙ ap (λ b. cond b 1 0) unseen in
    let right : due ≡ reply opening book commit_id.worker request = ap (λ o. reply o book commit_id.worker request) taken.opening_is in
    let may : AllByRecursion (λ d. MayPrecede order d entry) history =
    may_stand order history entry (get_or c.args.self.now.turns.next commit_id.worker 0) (taken.turns commit_id.worker below)
    (ap (λ o. is_late o request commit_id.index (get_or c.args.self.now.turns.next commit_id.worker 0)) (sym taken.order_is) ∙ early) in
    let room : length book < 16000000 = omega (arith, taken.few, c.if-self-ge-MOST_ROWS.false) in (
      entry,
      refl,
      compared book taken.holds,
      subst (HasTaken opening start scripts order (history ++ entry ∷ [])) (sym c.in_ok-is_right.ensures.others) (record {
        go_well = well_more opening start scripts order history entry taken.go_well there c.requires.fits none may right;
        opening_is = c.in_ok-is_right.ensures.opening ∙ taken.opening_is;
        order_is = taken.order_is;
        holds = subst (HoldsBook c.is_due.new.self.auction) (ap (λ o. next o book commit_id.worker request) taken.opening_is ∙ sym (book_more opening start scripts order history entry))
            (c.in_ok-is_right.ensures.book book taken.holds room);
        few = omega (arith, taken.few, not_many_more opening start scripts order history entry);
        count = omega (arith, taken.count, length-append history (entry ∷ []));
        places = λ w. omega (arith, taken.places w, c.mark.ensures.places);
        marks = marks_more history entry (is_marked c.args.self.now.marks.rows.items) (is_marked c.mark.new.self.rows.items) c.mark.ensures.marked taken.marks unseen;
        turns = λ w less. turns_more history entry w _ _ (taken.turns w less) (c.pass.ensures w less);
      }),
    ))
