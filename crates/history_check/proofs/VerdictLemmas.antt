-- What is found of a whole text.
use Rattle.std.proofs.Common.{◌≡◌, ℕ, ◌+◌, ◌<◌, ◌≤◌, Bool, true, false, cond, List, [], ◌∷◌, ◌++◌, Some, None, length, refl, subst, sym, ap, ◌∙◌, arith}
use Rattle.std.proofs.lemmas.{Bool.{ltb-true, ltb-false, lt-ltb}, List.{append-nil}}
use Rattle.std.proofs.lemmas.List.Sums.{sum_by-append, sum_by-cons}
use Rattle.std.proofs.lemmas.Option.{slice_get_within, none-some, same_Some}
use Rattle.std.specs.{List.{AllByRecursion}, Prelude.{count_by, nat_lt}}
use Rattle.auction_rows.{proofs.HistoryLemmas.{replays_parts}, specs.Book.{Book}}
use Rattle.auction_rows.specs.{History.{ReplaysFrom, after_entry, book_after}, Replies.{reply}}
use Rattle.auction_rows.specs.declared.{values.Opening.Opening, requests.Request.Request, replies.Reply.Reply, rows.Entry.Entry}
use Rattle.auction_text.specs.Replies.{history_line, reply_text}
use Rattle.run_laws.specs.Serving.{script_of}
use Rattle.history_check.proofs.EntryLemmas.{same_request, own_request}
use Rattle.history_check.proofs.{LineLemmas.{entry_line, line_apart}, TurnLemmas.{ordered_before}}
use Rattle.history_check.specs.Checking.{GoWell, IsAccepted, OfLine, OfRequest, IsWrong, IsVerdict}
use Rattle.history_check.specs.{CommitIds.{Fits, entry_with_id, commit_id_of}, Orders.{MayPrecede}}
use Rattle.history_check.specs.{Scripts.{request_at, is_of}, Texts.{history_lines, lines_of}}
use Rattle.history_check.specs.declared.lines.{CommitId.{CommitId}, Order.{Order}}
use Rattle.history_check.specs.declared.lines.Verdict.{Verdict}
use Rattle.history_check.specs.declared.lines.Verdict.TheVariants.{Replays, WrongAt, Lacks}
use Rattle.history_check.specs.declared.lines.Wrong.{Wrong}
use Rattle.history_check.specs.declared.lines.Wrong.TheVariants.{Unreadable, NoRequest, Again, Late, Due}
use Rattle.phase_laws.proofs.OrderLemmas.{cons-first, cons-rest}

no_first : {X : Type 0} (x : X) (xs : List X) → [] ≡ x ∷ xs → ⊥
no_first x xs e = absurd (cc e)

counts : (w i : ℕ) (e : Entry) (history : List Entry) → count_by (is_of w i) (e ∷ history) ≡ cond (is_of w i e) 1 0 + count_by (is_of w i) history
counts w i e history = sum_by-cons (λ (one : Entry). cond (is_of w i one) 1 0) e history

counted_parts : (w i : ℕ) (xs ys : List Entry) → count_by (is_of w i) (xs ++ ys) ≡ count_by (is_of w i) xs + count_by (is_of w i) ys
counted_parts w i xs ys = sum_by-append (λ (one : Entry). cond (is_of w i one) 1 0) xs ys

middle : {X : Type 0} (P : X → Type 0) (xs : List X) (x : X) (ys : List X) → AllByRecursion P (xs ++ x ∷ ys) → P x
middle P [] x ys all = all.0
middle P (y ∷ xs) x ys all = middle P xs x ys all.1

-- the place and the text of a line are those of the entry whose line it is
of_entry : (line : List ℕ) (e : Entry) (Holds : CommitId → List ℕ → Type 0) → OfLine line Holds → history_line e ≡ line → Fits (commit_id_of e) → Holds (commit_id_of e) (reply_text e.reply)
of_entry line e Holds of is fits =
    let apart = line_apart of.0 (commit_id_of e) of.1 (reply_text e.reply) of.2.fits fits (sym of.2.line_is ∙ sym is ∙ entry_line e) in
    subst (λ p. Holds p (reply_text e.reply)) apart.0 (subst (Holds of.0) apart.1 of.3)

-- an entry's request is the one that its script has
abbrev HasItsRequest : List (List Request) → Entry → Type 0
HasItsRequest scripts e = request_at scripts e.worker e.index ≡ Some e.request

module _ (opening : Opening) (scripts : List (List Request)) where
  same_entry : (start : Book) (x y : Entry) → HasItsRequest scripts x → HasItsRequest scripts y → Fits (commit_id_of x) → Fits (commit_id_of y)
      → x.reply ≡ reply opening start x.worker x.request → y.reply ≡ reply opening start y.worker y.request → history_line x ≡ history_line y → x ≡ y
  same_entry start x y has_x has_y fits_x fits_y right_x right_y lines =
      let commit_id = (line_apart (commit_id_of x) (commit_id_of y) (reply_text x.reply) (reply_text y.reply) fits_x fits_y (sym (entry_line x) ∙ lines ∙ entry_line y)).0 in
      let request : x.request ≡ y.request = same_Some x.request y.request (sym has_x ∙ (λ k. request_at scripts (commit_id k).worker (commit_id k).index) ∙ has_y) in
      let answer : x.reply ≡ y.reply = right_x ∙ (λ k. reply opening start (commit_id k).worker (request k)) ∙ sym right_y in
      (λ k. entry_with_id (commit_id k) (request k) (answer k))

  -- a history whose first lines are those of another begins with its entries
  front : (start : Book) (whole before : List Entry) (tail : List (List ℕ)) → AllByRecursion (HasItsRequest scripts) whole → AllByRecursion (HasItsRequest scripts) before
      → AllByRecursion (λ e. Fits (commit_id_of e)) whole → AllByRecursion (λ e. Fits (commit_id_of e)) before
      → ReplaysFrom opening start whole → ReplaysFrom opening start before → history_lines whole ≡ history_lines before ++ tail
      → (after : List Entry) × (whole ≡ before ++ after) × (history_lines after ≡ tail)
  front start whole [] tail has_x has_y fits_x fits_y right_x right_y lines = (whole, refl, lines)
  front start [] (y ∷ ys) tail has_x has_y fits_x fits_y right_x right_y lines = absurd (no_first (history_line y) (history_lines ys ++ tail) lines)
  front start (x ∷ xs) (y ∷ ys) tail has_x has_y fits_x fits_y right_x right_y lines =
      let same = same_entry start x y has_x.0 has_y.0 fits_x.0 fits_y.0 right_x.0 right_y.0
      (cons-first (history_line x) (history_line y) (history_lines xs) (history_lines ys ++ tail) lines) in
      let more = front (after_entry opening start y) xs ys tail has_x.1 has_y.1 fits_x.1 fits_y.1
      (subst (λ e. ReplaysFrom opening (after_entry opening start e) xs) same right_x.1) right_y.1
      (cons-rest (history_line x) (history_line y) (history_lines xs) (history_lines ys ++ tail) lines) in
      (more.0, λ k. same k ∷ more.1 k, more.2)

  -- what no script has stands in no entry
  in_no_entry : (w i : ℕ) (history : List Entry) → AllByRecursion (HasItsRequest scripts) history → length (script_of scripts w) ≤ i → count_by (is_of w i) history ≡ 0
  in_no_entry w i [] has over = refl
  in_no_entry w i (e ∷ es) has over = at (is_of w i e) refl (in_no_entry w i es has.1 over) where
    at : (b : Bool) → is_of w i e ≡ b → count_by (is_of w i) es ≡ 0 → count_by (is_of w i) (e ∷ es) ≡ 0
    at true is rest =
        let same = same_request w i e is in
        let within : e.index < length (script_of scripts e.worker) = slice_get_within (script_of scripts e.worker) e.index e.request has.0 in
        absurd (omega (arith, within, over, same.1, ap (λ w. length (script_of scripts w)) same.0))
    at false is rest = counts w i e es ∙ (λ k. cond (is k) 1 0 + rest k)

-- ---- what goes well, with no request lacking, is accepted

pub accepted : (opening : Opening) (start : Book) (scripts : List (List Request)) (order : Order) (text : List ℕ) (history : List Entry)
    → history_lines history ≡ lines_of text → GoWell opening start scripts order history
    → ((w i : ℕ) → i < length (script_of scripts w) → count_by (is_of w i) history ≡ 1) → IsAccepted opening start scripts order text
accepted opening start scripts order text history lines well all = record {
  history = history;
  lines_are = lines;
  go_well = well;
  once = once;
} where
  once : (w i : ℕ) → count_by (is_of w i) history ≡ cond (nat_lt i (length (script_of scripts w))) 1 0
  once w i = at (nat_lt i (length (script_of scripts w))) refl where
    at : (b : Bool) → nat_lt i (length (script_of scripts w)) ≡ b → count_by (is_of w i) history ≡ cond (nat_lt i (length (script_of scripts w))) 1 0
    at true e = all w i (ltb-true i (length (script_of scripts w)) e) ∙ sym (ap (λ b. cond b 1 0) e)
    at false e = in_no_entry opening scripts w i history well.requests (ltb-false i (length (script_of scripts w)) e) ∙ sym (ap (λ b. cond b 1 0) e)

-- ---- what is accepted is found to be

module _ (opening : Opening) (start : Book) (scripts : List (List Request)) (order : Order) (text : List ℕ) (ok : IsAccepted opening start scripts order text) where
  not_wrong : (before : List Entry) (e : Entry) (after : List Entry) (line : List ℕ) (why : Wrong) → ok.history ≡ before ++ e ∷ after → history_line e ≡ line
      → IsWrong opening start scripts order before line why → ⊥
  not_wrong before e after line why split is wrong = at why wrong where
    well : GoWell opening start scripts order (before ++ e ∷ after)
    well = subst (GoWell opening start scripts order) split ok.go_well

    fits : Fits (commit_id_of e)
    fits = middle (λ e. Fits (commit_id_of e)) before e after well.fits

    has : request_at scripts e.worker e.index ≡ Some e.request
    has = middle (λ e. request_at scripts e.worker e.index ≡ Some e.request) before e after well.requests

    right : e.reply ≡ reply opening (book_after opening start before) e.worker e.request
    right = (replays_parts opening start before (e ∷ after) well.replays).1.0

    at : (why : Wrong) → IsWrong opening start scripts order before line why → ⊥
    at Unreadable wrong = wrong (commit_id_of e) (reply_text e.reply) (record { line_is = sym is ∙ entry_line e; fits = fits })
    at NoRequest wrong = none-some e.request (sym (of_entry line e (λ commit_id text. request_at scripts commit_id.worker commit_id.index ≡ None) wrong is fits) ∙ has)
    at Again wrong =
        let here = of_entry line e (λ commit_id text. count_by (is_of commit_id.worker commit_id.index) before ≡ 1) wrong is fits in
        let w = e.worker in let i = e.index in
        absurd (omega (
          arith,
          well.at_most_once w i,
          counted_parts w i before (e ∷ after),
          counts w i e after ∙ ap (λ b. cond b 1 0 + count_by (is_of w i) after) (own_request e),
          here,
        ))
    at Late wrong =
        let here = of_entry line e (λ commit_id text. OfRequest scripts commit_id (λ request.
        (reply : Reply) → ¬ AllByRecursion (λ d. MayPrecede order d (entry_with_id commit_id request reply)) before)) wrong is fits in
        let same : e.request ≡ here.0 = same_Some e.request here.0 (sym has ∙ here.1) in
        here.2 e.reply (subst (λ request. AllByRecursion (λ d. MayPrecede order d (entry_with_id (commit_id_of e) request e.reply)) before) same
        (ordered_before (MayPrecede order) before e after well.in_order))
    at (Due due) wrong =
        let here = of_entry line e (λ commit_id text. OfRequest scripts commit_id (λ request.
        (due ≡ reply opening (book_after opening start before) commit_id.worker request) × ¬ (text ≡ reply_text due))) wrong is fits in
        let same : e.request ≡ here.0 = same_Some e.request here.0 (sym has ∙ here.1) in
        here.2.1 (ap reply_text (right ∙ ap (reply opening (book_after opening start before) e.worker) same ∙ sym here.2.0))

  begins : (before : List Entry) (tail : List (List ℕ)) → GoWell opening start scripts order before → lines_of text ≡ history_lines before ++ tail
      → (after : List Entry) × (ok.history ≡ before ++ after) × (history_lines after ≡ tail)
  begins before tail well lines =
      front opening scripts start ok.history before tail ok.go_well.requests well.requests ok.go_well.fits well.fits ok.go_well.replays well.replays (ok.lines_are ∙ lines)

  pub found : (line : List ℕ) (verdict : Verdict) → IsVerdict opening start scripts order text line verdict → verdict ≡ Replays
  found line Replays is = refl
  found line (WrongAt number why) is = (let more = begins is.before (line ∷ is.rest) is.go_well is.split in absurd (at more.0 more.1 more.2)) where
    at : (after : List Entry) → ok.history ≡ is.before ++ after → history_lines after ≡ line ∷ is.rest → ⊥
    at [] split lines = no_first line is.rest lines
    at (e ∷ after) split lines = not_wrong is.before e after line why split (cons-first (history_line e) line (history_lines after) is.rest lines) is.wrong
  found line (Lacks worker index) is =
      (let more = begins is.history [] is.go_well (sym is.lines_are ∙ sym (append-nil (history_lines is.history))) in absurd (at more.0 more.1 more.2)) where
        at : (after : List Entry) → ok.history ≡ is.history ++ after → history_lines after ≡ [] → ⊥
        at (e ∷ after) split lines = no_first (history_line e) (history_lines after) (sym lines)
        at [] split lines =
            omega (
              arith,
              is.in_no_line,
              ap (count_by (is_of worker index)) (split ∙ append-nil is.history),
              ok.once worker index ∙ ap (λ b. cond b 1 0) (lt-ltb index (length (script_of scripts worker)) is.has_request),
            )
