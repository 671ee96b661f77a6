-- Texts of requests, and the tables that they leave.
use Rattle.std.proofs.Common.{Bool, ◌≡◌, inl, inr, ◌+◌, ◌-◌, ◌≤◌, ◌<◌, ℕ, zero, suc, List, [], ◌∷◌, ◌++◌, length, length-append, take, drop, ◌^◌, append_assoc, get_or, true, false, Option, None, Some, IfSome, refl, sym, ap, ◌∙◌, subst, arith}
use Rattle.std.proofs.{KnownBytes.{Appends-nil}, Math.Numerals.{add-one}}
use Rattle.std.proofs.{Math.Seq.{take-append-add, take-suc}, lemmas.Bool.{cases_lt}}
use Rattle.std.proofs.lemmas.Grind.{flat_map-append}
use Rattle.std.proofs.lemmas.List.{append-nil, take-append-drop, take-append-le}
use Rattle.std.proofs.lemmas.List.{Elements.{filter_map-append}, Sums.{fold-append}}
use Rattle.std.specs.{Io.KnownBytes.{Appends}, List.{zip, cons_option, flat_map, AllByRecursion}}
use Rattle.split_engine.specs.Rules.{Rules, looks_in}
use Rattle.split_engine.specs.Serial.{next, looks_at, after_acts, table_after, IsWithin}
use Rattle.split_engine.specs.declared.entry.Entry.{Entry}
use Rattle.application_log.proofs.LineLemmas.{no_line, same_line, unwritten, written}
use Rattle.application_log.specs.Faults.{HasLine, IsForMemory, IsOpenFault}
use Rattle.application_log.specs.Lines.{HasNoEnd, IsTail, IsWritten, text_of}
use Rattle.application_log.specs.Logs.{after_requests, lines_of, log_text, requests_of, HasOpened, IsReadBack}
use Rattle.application_log.specs.declared.loggable.TheConstants.{MOST_LINES}
use Rattle.application_log.specs.declared.opening.OpenFault.{OpenFault}
use Rattle.application_log.specs.declared.opening.OpenFault.TheVariants.{NoRequest, NoSuchKey, Tail, TooLong}
use Rattle.phase_laws.proofs.ListLemmas.{all-append, all-take}

pub text_of-append : (xs ys : List (List ℕ)) → text_of (xs ++ ys) ≡ text_of xs ++ text_of ys
text_of-append [] ys = refl
text_of-append (x ∷ xs) ys = ap (λ t. x ++ 10 ∷ t) (text_of-append xs ys) ∙ sym (append_assoc x (10 ∷ text_of xs) (text_of ys))

module _ {Request : Type 0} (line : Request → Option (List ℕ)) where
  pub log_text-append : (ps qs : List Request) → log_text line (ps ++ qs) ≡ log_text line ps ++ log_text line qs
  log_text-append ps qs = ap text_of (filter_map-append line ps qs) ∙ text_of-append (lines_of line ps) (lines_of line qs)

  -- one more request, by the line that it has
  pub log_text-logged : (q : Request) (qs : List Request) (text : List ℕ) → line q ≡ Some text → log_text line (q ∷ qs) ≡ text ++ 10 ∷ log_text line qs
  log_text-logged q qs text is = ap (λ o. text_of (cons_option o (lines_of line qs))) is

  pub log_text-unlogged : (q : Request) (qs : List Request) → line q ≡ None → log_text line (q ∷ qs) ≡ log_text line qs
  log_text-unlogged q qs is = ap (λ o. text_of (cons_option o (lines_of line qs))) is

  pub log_text-push : (qs : List Request) (q : Request) (text : List ℕ) → line q ≡ Some text → log_text line (qs ++ q ∷ []) ≡ log_text line qs ++ (text ++ 10 ∷ [])
  log_text-push qs q text is = log_text-append qs (q ∷ []) ∙ ap (λ t. log_text line qs ++ t) (log_text-logged q [] text is)

  -- the first line of a text of requests, the first of which has it
  pub first_line_is : (q : Request) (qs : List Request) (text rest : List ℕ) → line q ≡ Some text → log_text line (q ∷ qs) ++ rest ≡ text ++ 10 ∷ (log_text line qs ++ rest)
  first_line_is q qs text rest is = ap (λ t. t ++ rest) (log_text-logged q qs text is) ∙ append_assoc text (10 ∷ log_text line qs) rest

  -- one request more, and what is behind it
  pub text_behind : (qs : List Request) (q : Request) (text rest : List ℕ) → line q ≡ Some text → log_text line qs ++ (text ++ 10 ∷ rest) ≡ log_text line (qs ++ q ∷ []) ++ rest
  text_behind qs q text rest is =
      sym (ap (λ t. t ++ rest) (log_text-push qs q text is) ∙ append_assoc (log_text line qs) (text ++ 10 ∷ []) rest ∙ ap (λ t. log_text line qs ++ t) (append_assoc text (10 ∷ []) rest))

  -- a prefix of a text of requests is that of the first requests, and behind it a line that has no end and may be cut
  abbrev pub IsCut : (List ℕ → Bool) → ℕ → List Request → Type 0
  IsCut is_cut n qs = (k : ℕ) × (behind : List ℕ) × HasNoEnd behind × (take n (log_text line qs) ≡ log_text line (take k qs) ++ behind) × IsTail is_cut behind

zip_none : {K X : Type 0} (ks : List K) (xs : List X) → xs ≡ [] → zip ks xs ≡ []
zip_none [] xs is = refl
zip_none (k ∷ ks) xs is = ap (zip (k ∷ ks)) is

-- the table after the requests of a history is the one after the history
pub after_history : {Record Slice Look Request Reply Act : Type 0} (rules : Rules Record Slice Look Request Reply Act) (table : List Record) (history : List (Entry Request Reply)) →
    after_requests rules table (requests_of history) ≡ table_after rules table history
after_history rules table [] = refl
after_history rules table (e ∷ history) = after_history rules (next rules table e.request) history

pub requests_of-append : {Request Reply : Type 0} (first second : List (Entry Request Reply)) → requests_of (first ++ second) ≡ requests_of first ++ requests_of second
requests_of-append [] second = refl
requests_of-append (e ∷ first) second = ap (λ qs. e.request ∷ qs) (requests_of-append first second)

pub take-requests : {Request Reply : Type 0} (k : ℕ) (history : List (Entry Request Reply)) → take k (requests_of history) ≡ requests_of (take k history)
take-requests zero [] = refl
take-requests (suc k) [] = refl
take-requests zero (e ∷ history) = refl
take-requests (suc k) (e ∷ history) = ap (λ qs. e.request ∷ qs) (take-requests k history)

take_none : (n : ℕ) (xs : List ℕ) → xs ≡ [] → take n xs ≡ []
take_none zero xs is = refl
take_none (suc n) xs is = ap (take (suc n)) is

module _ {Record Slice Look Request Reply Act : Type 0} (rules : Rules Record Slice Look Request Reply Act)
    (line : Request → Option (List ℕ)) (IsInRange : Request → Type 0)
    (one_line : (q : Request) → IsInRange q → IfSome (line q) HasNoEnd)
    (does_nothing : (q : Request) (looks : ℕ → Look) → line q ≡ None → (rules.decide q looks).acts ≡ []) where
  -- a request without a line leaves the table
  pub next_unlogged : (table : List Record) (q : Request) → line q ≡ None → next rules table q ≡ table
  next_unlogged table q is =
      ap (after_acts rules table) (zip_none (rules.keys q) _ (does_nothing q (looks_in rules (looks_at rules table (rules.keys q))) is))

  is_one_line : (q : Request) (text : List ℕ) → IsInRange q → line q ≡ Some text → HasNoEnd text
  is_one_line q text fits is = subst (λ o. IfSome o HasNoEnd) is (one_line q fits)

  -- requests that were read leave what those leave whose text it is
  abbrev AreSame : List Request → List Request → List Record → List ℕ → List ℕ → Type 0
  AreSame ps qs table behind rest =
      (after_requests rules table ps ≡ after_requests rules table qs) × (length ps ≡ length (lines_of line qs)) × (behind ≡ rest)

  same_first : (q : Request) (qs ps : List Request) (table : List Record) (behind rest : List ℕ) → IsInRange q → AllByRecursion IsInRange ps →
      AllByRecursion (IsReadBack line IsInRange) ps → HasNoEnd behind → log_text line ps ++ behind ≡ log_text line (q ∷ qs) ++ rest →
      ((os : List Request) (t : List Record) → AllByRecursion IsInRange os → AllByRecursion (IsReadBack line IsInRange) os → log_text line os ++ behind ≡ log_text line qs ++ rest → AreSame os qs t behind rest) →
      (o : Option (List ℕ)) → line q ≡ o → AreSame ps (q ∷ qs) table behind rest
  same_first q qs ps table behind rest fits are read cut e same None is =
      let both = same ps table are read (e ∙ ap (λ t. t ++ rest) (log_text-unlogged line q qs is)) in (
        both.0 ∙ ap (λ t. after_requests rules t qs) (sym (next_unlogged table q is)),
        both.1 ∙ ap (λ o. length (cons_option o (lines_of line qs))) (sym is),
        both.2,
      )
  same_first q qs [] table behind rest fits are read cut e same (Some text) is =
      absurd (no_line behind text (log_text line qs ++ rest) cut (e ∙ first_line_is line q qs text rest is))
  same_first q qs (p ∷ ps) table behind rest fits are read cut e same (Some text) is =
      let back = read.0 in
      let split = same_line back.text text (log_text line ps ++ behind) (log_text line qs ++ rest)
      (is_one_line p back.text are.0 back.line_is) (is_one_line q text fits is)
      (sym (first_line_is line p ps back.text behind back.line_is) ∙ e ∙ first_line_is line q qs text rest is) in
      let one : q ≡ p = back.only q fits (is ∙ ap Some (sym split.0)) in
      let both = same ps (next rules table p) are.1 read.1 split.1 in (
        both.0 ∙ ap (λ r. after_requests rules (next rules table r) qs) (sym one),
        ap suc both.1 ∙ ap (λ o. length (cons_option o (lines_of line qs))) (sym is),
        both.2,
      )

  pub same_table : (qs ps : List Request) (table : List Record) (behind rest : List ℕ) → AllByRecursion IsInRange qs → AllByRecursion IsInRange ps →
      AllByRecursion (IsReadBack line IsInRange) ps → HasNoEnd behind → HasNoEnd rest → log_text line ps ++ behind ≡ log_text line qs ++ rest →
      AreSame ps qs table behind rest
  same_table [] [] table behind rest all are read cut end e = (refl, refl, e)
  same_table [] (p ∷ ps) table behind rest all are read cut end e =
      absurd (no_line rest read.0.text (log_text line ps ++ behind) end (sym e ∙ first_line_is line p ps read.0.text behind read.0.line_is))
  same_table (q ∷ qs) ps table behind rest all are read cut end e =
      same_first q qs ps table behind rest all.0 are read cut e
      (λ os t fit back eq. same_table qs os t behind rest all.1 fit back cut end eq) (line q) refl

  -- a line behind requests that were read is that of one of those whose text it is
  abbrev HasNext : (Request → Type 0) → List Request → List ℕ → List ℕ → Type 0
  HasNext P qs text behind = (q : Request) × (line q ≡ Some text) × IsInRange q × P q

  next_first : (P : Request → Type 0) (q : Request) (qs before : List Request) (text rest behind : List ℕ) → IsInRange q → P q → AllByRecursion IsInRange before →
      AllByRecursion (IsReadBack line IsInRange) before → HasNoEnd text → log_text line before ++ (text ++ 10 ∷ rest) ≡ log_text line (q ∷ qs) ++ behind →
      ((os : List Request) → AllByRecursion IsInRange os → AllByRecursion (IsReadBack line IsInRange) os → log_text line os ++ (text ++ 10 ∷ rest) ≡ log_text line qs ++ behind → HasNext P qs text behind) →
      (o : Option (List ℕ)) → line q ≡ o → HasNext P (q ∷ qs) text behind
  next_first P q qs before text rest behind fits has are read one e next None is =
      next before are read (e ∙ ap (λ t. t ++ behind) (log_text-unlogged line q qs is))
  next_first P q qs [] text rest behind fits has are read one e next (Some own) is =
      let split = same_line text own rest (log_text line qs ++ behind) one (is_one_line q own fits is) (e ∙ first_line_is line q qs own behind is) in
      (q, is ∙ ap Some (sym split.0), fits, has)
  next_first P q qs (p ∷ before) text rest behind fits has are read one e next (Some own) is =
      let back = read.0 in
      let split = same_line back.text own (log_text line before ++ (text ++ 10 ∷ rest)) (log_text line qs ++ behind)
      (is_one_line p back.text are.0 back.line_is) (is_one_line q own fits is)
      (sym (first_line_is line p before back.text (text ++ 10 ∷ rest) back.line_is) ∙ e ∙ first_line_is line q qs own behind is) in
      next before are.1 read.1 split.1

  pub next_line : (P : Request → Type 0) (qs before : List Request) (text rest behind : List ℕ) → AllByRecursion IsInRange qs → AllByRecursion P qs → AllByRecursion IsInRange before →
      AllByRecursion (IsReadBack line IsInRange) before → HasNoEnd text → HasNoEnd behind → log_text line before ++ (text ++ 10 ∷ rest) ≡ log_text line qs ++ behind → HasNext P qs text behind
  next_line P [] [] text rest behind all have are read one cut e = absurd (no_line behind text rest cut (sym e))
  next_line P [] (p ∷ before) text rest behind all have are read one cut e =
      absurd (no_line behind read.0.text (log_text line before ++ (text ++ 10 ∷ rest)) cut (sym e ∙ first_line_is line p before read.0.text (text ++ 10 ∷ rest) read.0.line_is))
  next_line P (q ∷ qs) before text rest behind all have are read one cut e =
      next_first P q qs before text rest behind all.0 have.0 are read one e
      (λ os fit back eq. next_line P qs os text rest behind all.1 have.1 fit back one cut eq) (line q) refl

  -- no more requests were read than have a line
  fewer_first : (q : Request) (qs before : List Request) (rest behind : List ℕ) → IsInRange q → AllByRecursion IsInRange before →
      AllByRecursion (IsReadBack line IsInRange) before → log_text line before ++ rest ≡ log_text line (q ∷ qs) ++ behind →
      ((os : List Request) → AllByRecursion IsInRange os → AllByRecursion (IsReadBack line IsInRange) os → log_text line os ++ rest ≡ log_text line qs ++ behind → length os ≤ length (lines_of line qs)) →
      (o : Option (List ℕ)) → line q ≡ o → length before ≤ length (lines_of line (q ∷ qs))
  fewer_first q qs before rest behind fits are read e fewer None is =
      let few = fewer before are read (e ∙ ap (λ t. t ++ behind) (log_text-unlogged line q qs is)) in
      omega (arith, few, ap (λ o. length (cons_option o (lines_of line qs))) is)
  fewer_first q qs [] rest behind fits are read e fewer (Some own) is = omega arith
  fewer_first q qs (p ∷ before) rest behind fits are read e fewer (Some own) is =
      let back = read.0 in
      let split = same_line back.text own (log_text line before ++ rest) (log_text line qs ++ behind)
      (is_one_line p back.text are.0 back.line_is) (is_one_line q own fits is)
      (sym (first_line_is line p before back.text rest back.line_is) ∙ e ∙ first_line_is line q qs own behind is) in
      let few = fewer before are.1 read.1 split.1 in
      omega (arith, few, ap (λ o. length (cons_option o (lines_of line qs))) is)

  pub fewer_lines : (qs before : List Request) (rest behind : List ℕ) → AllByRecursion IsInRange qs → AllByRecursion IsInRange before →
      AllByRecursion (IsReadBack line IsInRange) before → HasNoEnd behind → log_text line before ++ rest ≡ log_text line qs ++ behind → length before ≤ length (lines_of line qs)
  fewer_lines [] [] rest behind all are read cut e = omega arith
  fewer_lines [] (p ∷ before) rest behind all are read cut e =
      absurd (no_line behind read.0.text (log_text line before ++ rest) cut (sym e ∙ first_line_is line p before read.0.text rest read.0.line_is))
  fewer_lines (q ∷ qs) before rest behind all are read cut e =
      fewer_first q qs before rest behind all.0 are read e
      (λ os fit back eq. fewer_lines qs os rest behind all.1 fit back cut eq) (line q) refl

  -- a line may be cut at each of its bytes
  abbrev pub IsCutAnywhere : (List ℕ → Bool) → Type 0
  IsCutAnywhere is_cut = (q : Request) (n : ℕ) → IsInRange q → IfSome (line q) (λ text. is_cut (take n text) ≡ true)

  cut_first : (is_cut : List ℕ → Bool) → IsCutAnywhere is_cut → (q : Request) (qs : List Request) (n : ℕ) → IsInRange q → ((m : ℕ) → IsCut line is_cut m qs) → (o : Option (List ℕ)) → line q ≡ o
      → IsCut line is_cut n (q ∷ qs)
  cut_first is_cut anywhere q qs n fits rest None is =
      let r = rest n in let eq = log_text-unlogged line q in
      (suc r.0, r.1, r.2, ap (take n) (eq qs is) ∙ r.3 ∙ ap (λ t. t ++ r.1) (sym (eq (take r.0 qs) is)), r.4)
  cut_first is_cut anywhere q qs n fits rest (Some text) is =
      elim (cases_lt (length text) n) [
        | inl more ↦
            let m : ℕ = n - (length text + 1) in let r = rest m in
            let n_is : n ≡ length text + suc m = omega arith in (
              suc r.0,
              r.1,
              r.2,
              ap (take n) (log_text-logged line q qs text is) ∙ ap (λ k. take k (text ++ 10 ∷ log_text line qs)) n_is
                  ∙ take-append-add text (10 ∷ log_text line qs) (suc m) ∙ ap (λ t. text ++ 10 ∷ t) r.3
                  ∙ sym (append_assoc text (10 ∷ log_text line (take r.0 qs)) r.1)
                  ∙ ap (λ t. t ++ r.1) (sym (log_text-logged line q (take r.0 qs) text is)),
              r.4,
            )
        | inr less ↦ (
          0,
          take n text,
          all-take _ n text (is_one_line q text fits is),
          ap (take n) (log_text-logged line q qs text is) ∙ take-append-le n text (10 ∷ log_text line qs) less,
          inr (subst (λ o. IfSome o (λ own. is_cut (take n own) ≡ true)) is (anywhere q n fits)),
        )
      ]

  pub cut_text : (is_cut : List ℕ → Bool) → IsCutAnywhere is_cut → (qs : List Request) (n : ℕ) → AllByRecursion IsInRange qs → IsCut line is_cut n qs
  cut_text is_cut anywhere [] n all = (0, [], tt, take_none n [] refl, inl refl)
  cut_text is_cut anywhere (q ∷ qs) n all = cut_first is_cut anywhere q qs n all.0 (λ m. cut_text is_cut anywhere qs m all.1) (line q) refl

  -- the text of requests whose keys are there is refused only for want of memory
  pub never : (is_cut : List ℕ → Bool) (size : ℕ) (fault : OpenFault) (qs : List Request) (behind bytes : List ℕ) → AllByRecursion IsInRange qs → AllByRecursion (IsWithin rules size) qs →
      length (lines_of line qs) < MOST_LINES → length bytes < 2 ^ 64 → HasNoEnd behind → IsTail is_cut behind → bytes ≡ log_text line qs ++ behind →
      IsOpenFault rules line IsInRange is_cut size fault bytes → IsForMemory fault
  never is_cut size (NoRequest number) qs behind bytes all within few short cut tail is why =
      let h = why.1 in
      let n = next_line (IsWithin rules size) qs h.before why.0 h.rest behind all within h.read.in_range h.read.read_back h.is_one cut (sym h.read.split ∙ is) in
      absurd (why.2 n.0 n.2 n.1)
  never is_cut size (NoSuchKey number) qs behind bytes all within few short cut tail is why =
      let back = why.1 in let h = why.2 in
      let n = next_line (IsWithin rules size) qs h.before back.text h.rest behind all within h.read.in_range h.read.read_back h.is_one cut (sym h.read.split ∙ is) in
      absurd (why.3 (subst (IsWithin rules size) (back.only n.0 n.2 n.1) n.3))
  never is_cut size (Tail number) qs behind bytes all within few short cut tail is why =
      let h = why.1 in
      let same = same_table qs h.before [] why.0 behind all h.read.in_range h.read.read_back h.no_end cut (sym h.read.split ∙ is) in
      absurd (why.2 (subst (IsTail is_cut) (sym same.2) tail))
  never is_cut size TooLong qs behind bytes all within few short cut tail is (inl long) = absurd (omega (arith, short, long))
  never is_cut size TooLong qs behind bytes all within few short cut tail is (inr why) =
      let read = why.2 in
      let fewer = fewer_lines qs why.0 why.1 behind all read.in_range read.read_back cut (sym read.split ∙ is) in
      absurd (omega (arith, few, fewer, why.3))
  never is_cut size fault qs behind bytes all within few short cut tail is _ = tt

pub lines_of-take-le : {Request : Type 0} (line : Request → Option (List ℕ)) (hs ps : List Request) (k : ℕ) → length (lines_of line (hs ++ take k ps)) ≤ length (lines_of line (hs ++ ps))
lines_of-take-le line hs ps k =
    let whole : lines_of line ps ≡ lines_of line (take k ps) ++ lines_of line (drop k ps) =
    ap (lines_of line) (sym (take-append-drop k ps)) ∙ filter_map-append line (take k ps) (drop k ps) in
    omega (
      arith,
      ap length whole,
      length-append (lines_of line (take k ps)) (lines_of line (drop k ps)),
      ap length (filter_map-append line hs (take k ps)),
      length-append (lines_of line hs) (lines_of line (take k ps)),
      ap length (filter_map-append line hs ps),
      length-append (lines_of line hs) (lines_of line ps),
    )

module _ {Record Slice Look Request Reply Act : Type 0} (rules : Rules Record Slice Look Request Reply Act)
    (line : Request → Option (List ℕ)) (IsInRange : Request → Type 0) where
  -- the request of one more line was performed
  pub opened_more : (table left new_left : List Record) (before : List Request) (lines kept new_lines new_kept : ℕ) (q : Request) (text : List ℕ) →
      HasOpened rules line IsInRange table before left lines kept → IsInRange q → line q ≡ Some text → ((p : Request) → IsInRange p → line p ≡ Some text → p ≡ q) →
      new_left ≡ next rules left q → new_lines ≡ lines + 1 → new_kept ≡ kept + (length text + 1) →
      HasOpened rules line IsInRange table (before ++ q ∷ []) new_left new_lines new_kept
  opened_more table left new_left before lines kept new_lines new_kept q text has fits is only leaves count size = record {
    in_range = all-append IsInRange before (q ∷ []) has.in_range (fits, tt);
    read_back = all-append (IsReadBack line IsInRange) before (q ∷ []) has.read_back (record { text = text; line_is = is; only = only }, tt);
    leaves = leaves ∙ ap (λ t. next rules t q) has.leaves ∙ sym (fold-append (next rules) table before (q ∷ []));
    lines_are = omega (arith, count, has.lines_are, length-append before (q ∷ []));
    kept_are = omega (
      arith,
      size,
      has.kept_are,
      ap length (log_text-push line before q text is),
      length-append (log_text line before) (text ++ 10 ∷ []),
      length-append text (10 ∷ []),
    );
  }

  -- the line behind those that were read
  pub line_behind : (table left : List Record) (before : List Request) (lines kept number : ℕ) (text rest : List ℕ) →
      HasOpened rules line IsInRange table before left lines kept → HasNoEnd text → number ≡ lines + 1 →
      HasLine rules line IsInRange number text (log_text line before ++ (text ++ 10 ∷ rest))
  line_behind table left before lines kept number text rest has one count = record {
    before = before;
    rest = rest;
    read = record { in_range = has.in_range; read_back = has.read_back; split = refl };
    is_one = one;
    number_is = count ∙ ap (λ n. n + 1) has.lines_are;
  }

-- one request more of a history
pub more_requests : {Request Reply : Type 0} (commits : List (Entry Request Reply)) (place : ℕ) (e : Entry Request Reply) → place < length commits → e ≡ get_or commits place e →
    requests_of (take (place + 1) commits) ≡ requests_of (take place commits) ++ e.request ∷ []
more_requests commits place e lt is =
    let taken : take (place + 1) commits ≡ take place commits ++ e ∷ [] =
    ap (λ n. take n commits) (add-one place) ∙ take-suc commits place e lt ∙ ap (λ x. take place commits ++ x ∷ []) (sym is) in
    ap requests_of taken ∙ requests_of-append (take place commits) (e ∷ [])

-- one piece more of a history
pub more_pieces : {P Request Reply : Type 0} (items : P → List (Entry Request Reply)) (pieces : List P) (place : ℕ) (piece : P) → place < length pieces → piece ≡ get_or pieces place piece →
    requests_of (flat_map items (take (place + 1) pieces)) ≡ requests_of (flat_map items (take place pieces)) ++ requests_of (items piece)
more_pieces items pieces place piece lt is =
    let last = get_or pieces place piece in let before = flat_map items (take place pieces) in
    let taken : flat_map items (take (place + 1) pieces) ≡ before ++ items last =
    ap (λ n. flat_map items (take n pieces)) (add-one place) ∙ ap (flat_map items) (take-suc pieces place piece lt)
    ∙ flat_map-append items (take place pieces) (last ∷ []) ∙ ap (λ l. before ++ l) (append-nil (items last)) in
    ap requests_of taken ∙ requests_of-append before (items last) ∙ ap (λ p. requests_of before ++ requests_of (items p)) (sym is)

-- no more lines than bytes
pub lines_le : (lines : List (List ℕ)) → length lines ≤ length (text_of lines)
lines_le [] = omega arith
lines_le (line ∷ lines) = omega (arith, lines_le lines, length-append line (10 ∷ text_of lines))

module _ {Request : Type 0} (line : Request → Option (List ℕ)) where
  -- how many lines two parts have
  pub count_both : (ps qs : List Request) → length (lines_of line (ps ++ qs)) ≡ length (lines_of line ps) + length (lines_of line qs)
  count_both ps qs = ap length (filter_map-append line ps qs) ∙ length-append (lines_of line ps) (lines_of line qs)

  -- what is written of one request more
  pub logged_more : (qs : List Request) (q : Request) (start old mid new : List ℕ) → IsWritten (line q) old mid true → new ≡ mid ++ 10 ∷ [] →
      old ≡ start ++ log_text line qs → new ≡ start ++ log_text line (qs ++ q ∷ [])
  logged_more qs q start old mid new is ends was =
      let text = written (line q) old mid is in
      ends ∙ ap (λ t. t ++ 10 ∷ []) (text.2 ∙ ap (λ o. o ++ text.0) was)
      ∙ append_assoc (start ++ log_text line qs) text.0 (10 ∷ []) ∙ append_assoc start (log_text line qs) (text.0 ++ 10 ∷ [])
      ∙ ap (λ t. start ++ t) (sym (log_text-push line qs q text.0 text.1))

  pub unlogged_more : (qs : List Request) (q : Request) (start old new : List ℕ) → IsWritten (line q) old new false →
      old ≡ start ++ log_text line qs → new ≡ start ++ log_text line (qs ++ q ∷ [])
  unlogged_more qs q start old new is was =
      let none = unwritten (line q) old new is in
      none.1 ∙ was ∙ ap (λ t. start ++ t)
      (sym (log_text-append line qs (q ∷ []) ∙ ap (λ t. log_text line qs ++ t) (log_text-unlogged line q [] none.0) ∙ append-nil (log_text line qs)))

  -- how many lines it has
  pub count_logged : (qs : List Request) (q : Request) (old new : List ℕ) → IsWritten (line q) old new true → length (lines_of line (qs ++ q ∷ [])) ≡ length (lines_of line qs) + 1
  count_logged qs q old new is =
      let text = written (line q) old new is in
      ap length (filter_map-append line qs (q ∷ []) ∙ ap (λ o. lines_of line qs ++ cons_option o []) text.1) ∙ length-append (lines_of line qs) (text.0 ∷ [])

  pub count_unlogged : (qs : List Request) (q : Request) (old new : List ℕ) → IsWritten (line q) old new false → length (lines_of line (qs ++ q ∷ [])) ≡ length (lines_of line qs)
  count_unlogged qs q old new is =
      let none = unwritten (line q) old new is in
      ap length (filter_map-append line qs (q ∷ []) ∙ ap (λ o. lines_of line qs ++ cons_option o []) none.0 ∙ append-nil (lines_of line qs))

no_lines : (lines : List (List ℕ)) → length lines ≡ 0 → text_of lines ≡ []
no_lines [] none = refl
no_lines (line ∷ lines) none = absurd (omega (arith, none))

-- requests without lines have no text
pub no_text : {Request : Type 0} (line : Request → Option (List ℕ)) (qs : List Request) → length (lines_of line qs) ≡ 0 → log_text line qs ≡ []
no_text line qs none = no_lines (lines_of line qs) none

-- they add nothing to a log
pub none_added : {Request : Type 0} (line : Request → Option (List ℕ)) (qs : List Request) (log : Option (List ℕ)) → length (lines_of line qs) ≡ 0 → Appends log log (log_text line qs)
none_added line qs log none = subst (Appends log log) (sym (no_text line qs none)) (Appends-nil log)
