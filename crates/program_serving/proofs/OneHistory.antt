-- The histories of parts are one.
use Rattle.std.proofs.Common.{◌≡◌, ◌++◌, ◌∷◌, ◌∙◌, ◌||◌, true, false, ℕ, List, [], Option, Some, ap, append_assoc, append-nil, if◌then◌else◌, inl, inr, refl, subst, sym}
use Rattle.std.proofs.lemmas.Grind.{flat_map-append}
use Rattle.auction_rows.specs.{Book.{Book}, History.{ReplaysFrom, after_entry, book_after}}
use Rattle.auction_rows.specs.declared.{values.Opening.Opening, rows.Entry.Entry}
use Rattle.auction_text.specs.Moved.{Gone, all_moved}
use Rattle.auction_text.specs.Replies.{history_line, history_text, replies_text}
use Rattle.auction_text.specs.RowLines.{rows_text}
use Rattle.auction_text.specs.Said.TheVariants as says
use Rattle.shard_boxes.specs.declared.limits.TheConstants.{MOST_COMMITS}
use Rattle.program_opening.specs.{Options.{opening_asked}, declared.options.Options.{Options}}
use Rattle.program_serving.specs.FaultLines.{fault_text, limit_text}
use Rattle.program_serving.specs.Serving.{AreStepRuns, Part, Answer, RowsComeFirst, Step, added_rows, book_past, gone_past, named_answer, served_history, served_text, step_history, step_text, turned_answer}

-- phases and indexes don't matter to a replay
moved_replays : (opening : Opening) (book : Book) (gone : Gone) (entries : List Entry) → ReplaysFrom opening book entries → ReplaysFrom opening book (all_moved gone entries)
moved_replays opening book gone [] replays = tt
moved_replays opening book gone (entry ∷ entries) replays = (replays.0, moved_replays opening (after_entry opening book entry) gone entries replays.1)

moved_leaves : (opening : Opening) (book : Book) (gone : Gone) (entries : List Entry) → book_after opening book (all_moved gone entries) ≡ book_after opening book entries
moved_leaves opening book gone [] = refl
moved_leaves opening book gone (entry ∷ entries) = moved_leaves opening (after_entry opening book entry) gone entries

goes_on : (opening : Opening) (book : Book) (first second : List Entry) → ReplaysFrom opening book first → ReplaysFrom opening (book_after opening book first) second
    → ReplaysFrom opening book (first ++ second)
goes_on opening book [] second one other = other
goes_on opening book (entry ∷ first) second one other = (one.0, goes_on opening (after_entry opening book entry) first second one.1 other)

pub one_history : (options : Options) (gone : Gone) (book : Book) (steps : List Step) → AreStepRuns options book steps → RowsComeFirst steps
    → ReplaysFrom (opening_asked options) (book ++ added_rows steps) (served_history options gone steps)
unfolding AreStepRuns RowsComeFirst served_history
one_history options gone book [] are first = tt
one_history options gone book (Answer line ∷ steps) are first = one_history options gone book steps are.1 first.1
one_history options gone book (Part part ∷ steps) are (inl none, first) =
    let opening : Opening = opening_asked options in
    let next : Gone = gone_past options gone (Part part) in let after : Book = book ++ part.added in
    let rest : ReplaysFrom opening (after ++ added_rows steps) (served_history options next steps)
    = subst (λ (b : Book). ReplaysFrom opening (b ++ added_rows steps) (served_history options next steps)) (ap (λ (h : List Entry). book_after opening after h) none)
    (one_history options next (book_past options book (Part part)) steps are.1 first) in
    subst (λ (h : List Entry). ReplaysFrom opening (book ++ (part.added ++ added_rows steps)) (all_moved gone h ++ served_history options next steps)) (sym none)
    (subst (λ (b : Book). ReplaysFrom opening b (served_history options next steps)) (append_assoc book part.added (added_rows steps)) rest)
one_history options gone book (Part part ∷ steps) are (inr none, first) =
    let opening : Opening = opening_asked options in
    let next : Gone = gone_past options gone (Part part) in let after : Book = book ++ part.added in
    let left : Book = book_after opening after part.history in
    let rest : ReplaysFrom opening left (served_history options next steps)
    = subst (λ (b : Book). ReplaysFrom opening b (served_history options next steps)) (ap (λ (rs : Book). left ++ rs) none ∙ append-nil left) (one_history options next left steps are.1 first) in
    let alone : book ++ (part.added ++ added_rows steps) ≡ after = ap (λ (rs : Book). book ++ (part.added ++ rs)) none ∙ ap (λ (rs : Book). book ++ rs) (append-nil part.added) in
    subst (λ (b : Book). ReplaysFrom opening b (all_moved gone part.history ++ served_history options next steps)) (sym alone)
    (goes_on opening after (all_moved gone part.history) (served_history options next steps) (moved_replays opening after gone part.history are.0.answer.replays)
    (subst (λ (b : Book). ReplaysFrom opening b (served_history options next steps)) (sym (moved_leaves opening after gone part.history)) rest))

-- a line that is turned away has no answer, if the options ask for the history
no_answer : (options : Options) (gone : Gone) (worker : Option ℕ) (words : List ℕ) → options.rows ≡ false → options.history ≡ true → turned_answer options gone worker words ≡ []
no_answer options gone worker words off on =
    let named : List ℕ = named_answer gone worker words in
    ap (λ b. if b || options.history then [] else named) off ∙ ap (λ b. if b then [] else named) on

-- what is written of a step, if the options ask for the history
step_asked : (options : Options) (gone : Gone) (step : Step) → options.rows ≡ false → options.history ≡ true → step_text options gone step ≡ history_text (all_moved gone (step_history step))
step_asked options gone (Part part) off on =
    let own : List Entry = all_moved gone part.history in
    ap (λ b. if b then rows_text part.added own else if options.history then history_text own else replies_text own) off
    ∙ ap (λ b. if b then history_text own else replies_text own) on
step_asked options gone (Answer (says.Record one)) off on = no_answer options gone (Some one.worker) (limit_text MOST_COMMITS) off on
step_asked options gone (Answer (says.Fault met)) off on = no_answer options gone met.worker (fault_text met.fault) off on

pub one_text : (options : Options) (gone : Gone) (steps : List Step) → options.rows ≡ false → options.history ≡ true → served_text options gone steps ≡ history_text (served_history options gone steps)
unfolding served_text served_history
one_text options gone [] off on = refl
one_text options gone (step ∷ steps) off on =
    let own : List Entry = all_moved gone (step_history step) in
    let next : Gone = gone_past options gone step in
    ap (λ (t : List ℕ). t ++ served_text options next steps) (step_asked options gone step off on)
    ∙ ap (λ (t : List ℕ). history_text own ++ t) (one_text options next steps off on)
    ∙ sym (flat_map-append history_line own (served_history options next steps))
