-- A part whose only request is past its worker's limit: its rows are served, and the request is left.
use Rattle.std.proofs.Common.{◌≡◌, ◌<◌, ◌≤◌, ◌+◌, ◌++◌, ◌∷◌, ◌∙◌, ◌&&◌, ◌==◌, not, cond, suc, zero, ℕ, Bool, false, true, List, [], Option, None, Some, append-nil, ap, arith, get_or, if◌then◌else◌, inl, inr, length, map, option_to_list, refl, subst, sym}
use Rattle.std.proofs.lemmas.{Bool.{cases_Bool, cases_lt, eqb-true}, List.{length-map}}
use Rattle.std.proofs.lemmas.List.Elements.{filter_map-append}
use Rattle.std.proofs.lemmas.List.FromFn.{get_or-map-range_with_len, length-map-range_with_len}
use Rattle.std.{proofs.lemmas.List.Sums.{sum_by_push}, specs.List.{cons_option, range_with_len}}
use Rattle.auction_rows.specs.{Book.{Book, worker_of}, History.{book_after}}
use Rattle.auction_rows.specs.Replies.{reply, row_of}
use Rattle.auction_rows.specs.declared.limits.TheConstants.{MOST_OF_A_WORKER}
use Rattle.auction_rows.specs.declared.{values.Opening.Opening, requests.Request.Request, requests.Opened.Opened, rows.Row.Row, rows.Entry.Entry}
use Rattle.auction_run.proofs.GoingOnLemmas.{stored}
use Rattle.auction_run.specs.GoingOn.{AreShortOn, HasScripts, IsShortOn}
use Rattle.auction_text.specs.{InputLimits.{MOST_ROWS_OF_A_PART}, LiveParts.{rows_said}}
use Rattle.auction_text.specs.{LiveReading.{records_said}, Moved.{Gone}, Record.{Record}}
use Rattle.auction_text.specs.Said.{Said}
use Rattle.auction_text.specs.Scripts.{Asked, asked_in, requests_in, row_in, rows, script}
use Rattle.auction_text.specs.Said.TheVariants as says
use Rattle.closing_laws.specs.Standing.{counters_at, stores}
use Rattle.item_shards.specs.OpeningRows.{rows_by, with_opened}
use Rattle.log_opening.specs.Parts.{rows_from}
use Rattle.phase_floor.specs.States.{JoinedState}
use Rattle.run_laws.specs.Serving.{script_of}
use Rattle.shard_boxes.specs.declared.limits.TheConstants.{MOST_COMMITS}
use Rattle.program_opening.specs.{Options.{opening_asked}, declared.options.Options.{Options}}
use Rattle.program_serving.proofs.RowsBefore.{HasNoLateRow, no_entries, no_script, one_more, request_begins, rows_of_both}
use Rattle.program_serving.specs.{PartRuns.{IsStart}, declared.parts.Served.{Served}}
use Rattle.program_serving.specs.inner.Parts.{AreDoneOf, AreWithinLimit, HasRoomForPart, IsPastLimit, ServesPart, done_of}

-- A part is read of what an input has yet to say, with at most so many requests.
pub record ReadsPart (options : Options) (most : ℕ) (rest : List Said) (asked : Asked) (Next : List Said → Type 0) : Type 0 where
  pub said : List Record
  pub behind : List Said
  pub rest_is : rest ≡ records_said said ++ behind
  pub asked_is : asked ≡ asked_in options.workers said
  pub few : 1 ≤ options.live → requests_in said ≤ options.live
  pub most_few : requests_in said ≤ most
  pub few_rows : length (rows said) ≤ MOST_ROWS_OF_A_PART
  pub goes_on : Next behind

-- ---- the only request of records

-- The last of records is a request of this worker, and the others are rows.
pub record IsLast (said : List Record) (w : ℕ) : Type 0 where
  pub front : List Record
  pub one : Record
  pub said_is : said ≡ front ++ one ∷ []
  pub none : requests_in front ≡ 0
  pub request : one.is_row ≡ false
  pub worker_is : one.worker ≡ w

nothing_said : (said : List Record) → requests_in said ≡ 0 → rows_said (records_said said) ≡ [] → said ≡ []
nothing_said [] none no_rows = refl
nothing_said (one ∷ said) none no_rows = elim (cases_Bool one.is_row) [
  | inl row ↦ absurd (let no : cons_option (Some (record { worker = one.worker; request = one.request })) (rows_said (records_said said)) ≡ []
      = sym (ap (λ (b : Bool). cons_option (if b then Some (record { worker = one.worker; request = one.request }) else None) (rows_said (records_said said))) row) ∙ no_rows in cc no)
  | inr request ↦ absurd (omega (arith, sym (one_more one said ∙ ap (λ (b : Bool). cond (not b) 1 0 + requests_in said) request) ∙ none))
]

-- of one record that is a request the script is its worker's
its_worker : (one : Record) (w : ℕ) → 1 ≤ length (script w (one ∷ [])) → one.is_row ≡ false → one.worker ≡ w
its_worker one w some request = elim (cases_Bool (one.worker == w)) [
  | inl same ↦ eqb-true one.worker w same
  | inr other ↦ absurd (omega (
    arith,
    subst (λ (n : ℕ). 1 ≤ n)
        (ap (λ (b : Bool). length (cons_option (if not b && (one.worker == w) then Some one.request else None) [])) request
        ∙ ap (λ (b : Bool). length (cons_option (if b then Some one.request else None) [])) other) some,
  ))
]

pub last_request : (said : List Record) (behind : List Said) (w : ℕ) → requests_in said ≤ 1 → 1 ≤ length (script w said) → HasNoLateRow (records_said said ++ behind) → IsLast said w
last_request [] behind w few some free = absurd (omega (arith, some))
last_request (one ∷ said) behind w few some free = elim (cases_Bool one.is_row) [
  | inl row ↦ (
      let later = last_request said behind w (omega (arith, few, one_more one said ∙ ap (λ (b : Bool). cond (not b) 1 0 + requests_in said) row))
      (subst (λ (n : ℕ). 1 ≤ n) (ap (λ (b : Bool). length (cons_option (if not b && (one.worker == w) then Some one.request else None) (script w said))) row) some) free.1 in
      record {
        front = one ∷ later.front;
        one = later.one;
        said_is = ap (λ (xs : List Record). one ∷ xs) later.said_is;
        none = omega (arith, one_more one later.front ∙ ap (λ (b : Bool). cond (not b) 1 0 + requests_in later.front) row, later.none);
        request = later.request;
        worker_is = later.worker_is;
      })
  | inr request ↦ (
      let none : requests_in said ≡ 0 = omega (arith, few, one_more one said ∙ ap (λ (b : Bool). cond (not b) 1 0 + requests_in said) request) in
      let alone : said ≡ [] = nothing_said said none (no_rows_behind one said behind request free) in
      record {
        front = [];
        one = one;
        said_is = ap (λ (xs : List Record). one ∷ xs) alone;
        none = refl;
        request = request;
        worker_is = its_worker one w (subst (λ (xs : List Record). 1 ≤ length (script w (one ∷ xs))) alone some) request;
      })
] where
  no_rows_behind : (one : Record) (said : List Record) (behind : List Said) → one.is_row ≡ false → HasNoLateRow (records_said (one ∷ said) ++ behind) → rows_said (records_said said) ≡ []
  no_rows_behind one said behind request free = elim free.0 [
    | inl none ↦ absurd (let no = sym (request_begins false one request) ∙ none in cc no)
    | inr none ↦ (rows_of_both (records_said said) behind none).0
  ]

-- ---- what is past a limit

-- a script is a part of the requests
script_few : (w : ℕ) (said : List Record) → length (script w said) ≤ requests_in said
script_few w [] = omega arith
script_few w (one ∷ said) =
    let rest = script_few w said in
    elim (cases_Bool one.is_row) [
      | inl row ↦ omega (
        arith,
        rest,
        one_more one said ∙ ap (λ (b : Bool). cond (not b) 1 0 + requests_in said) row,
        ap (λ (b : Bool). length (cons_option (if not b && (one.worker == w) then Some one.request else None) (script w said))) row,
      )
      | inr request ↦ omega (
        arith,
        rest,
        one_more one said ∙ ap (λ (b : Bool). cond (not b) 1 0 + requests_in said) request,
        ap (λ (b : Bool). length (cons_option (if not b && (one.worker == w) then Some one.request else None) (script w said))) request,
        at_most_one (one.worker == w) one.request (script w said),
      )
    ] where
      at_most_one : (b : Bool) (request : Request) (others : List Request) → length (cons_option (if b then Some request else None) others) ≤ 1 + length others
      at_most_one true request others = omega arith
      at_most_one false request others = omega arith

-- rows that are asked for add at most themselves
one_row_more : (book : Book) (o : Option Row) (w : ℕ) → rows_by (book ++ option_to_list o) w ≤ rows_by book w + 1
one_row_more book None w = let same : rows_by (book ++ []) w ≡ rows_by book w = ap (λ (b : Book). rows_by b w) (append-nil book) in omega (arith, same)
one_row_more book (Some row) w =
    let both : rows_by (book ++ row ∷ []) w ≡ rows_by book w + cond (worker_of row == w) 1 0 = sum_by_push (λ (x : Row). cond (worker_of x == w) 1 0) book row in
    elim (cases_Bool (worker_of row == w)) [
      | inl own ↦ omega (arith, both, ap {B = ℕ} (λ (b : Bool). cond b 1 0) own)
      | inr other ↦ omega (arith, both, ap {B = ℕ} (λ (b : Bool). cond b 1 0) other)
    ]

rows_grow : (opening : Opening) (book : Book) (asked : List Opened) (w : ℕ) → rows_by (rows_from opening book asked) w ≤ rows_by book w + length asked
rows_grow opening book [] w = omega arith
rows_grow opening book (one ∷ asked) w =
    omega (arith, rows_grow opening (with_opened opening book one) asked w, one_row_more book (row_of one.worker one.request (reply opening book one.worker one.request)) w)

-- a worker with a script is one of the workers
is_own : (scripts : List (List Request)) (w : ℕ) → 1 ≤ length (script_of scripts w) → w < length scripts
is_own [] w some = absurd (omega (arith, some))
is_own (one ∷ scripts) zero some = omega arith
is_own (one ∷ scripts) (suc w) some = omega (arith, is_own scripts w some)

at_place : (scripts : List (List Request)) (w : ℕ) → script_of scripts w ≡ get_or scripts w []
at_place (one ∷ scripts) (suc w) = at_place scripts w
at_place scripts w = refl

-- of scripts without requests each is empty
blank : (scripts : List (List Request)) (w : ℕ) → script_of (map (λ script. []) scripts) w ≡ []
blank (one ∷ scripts) (suc w) = blank scripts w
blank scripts w = refl

-- they are short for an auction that is within its limit
pub blank_short : (auction : JoinedState) (scripts : List (List Request)) → AreWithinLimit auction → HasScripts auction scripts → AreShortOn auction (map (λ script. []) scripts)
blank_short auction scripts within has = λ w below.
    subst (IsShortOn auction w) (sym (blank scripts w)) (omega arith, omega (arith, within w (omega (arith, below, has, length-map {A = List Request} {B = List Request} scripts (λ script. [])))))

blanks : (f g : ℕ → List Request) → ((w : ℕ) → g w ≡ []) → (ws : List ℕ) → map (λ script. []) (map f ws) ≡ map g ws
blanks f g none [] = refl
blanks f g none (w ∷ ws) = λ i. sym (none w) i ∷ blanks f g none ws i

said_more : (front : List Record) (one : Record) (behind : List Said) → records_said (front ++ one ∷ []) ++ behind ≡ records_said front ++ (says.Record one ∷ behind)
said_more [] one behind = refl
said_more (first ∷ front) one behind = ap (λ (xs : List Said). says.Record first ∷ xs) (said_more front one behind)

-- the rows of records are those before a request at their end
same_front : (front : List Record) (one : Record) → one.is_row ≡ false → rows (front ++ one ∷ []) ≡ rows front
same_front front one request =
    filter_map-append row_in front (one ∷ [])
    ∙ ap (λ (b : Bool). rows front ++ cons_option (if b then Some (record { worker = one.worker; request = one.request }) else None) []) request
    ∙ append-nil (rows front)

-- Of a session that goes on, the next line is a request of this worker, which has as many rows as
-- it may have; behind it, that is left.
pub record IsNextPast (auction : JoinedState) (Left : List Said → Type 0) (worker : ℕ) (rest : List Said) : Type 0 where
  pub one : Record
  pub behind : List Said
  pub rest_is : rest ≡ says.Record one ∷ behind
  pub request : one.is_row ≡ false
  pub worker_is : one.worker ≡ worker
  pub own : worker < length auction.counters
  pub full : MOST_COMMITS ≤ stores (counters_at auction.counters worker)
  pub left : Left behind

-- what is left behind a part, if a worker's script was past its limit
abbrev pub LeftBehind : JoinedState → (List Said → Type 0) → Option ℕ → List Said → Type 0
LeftBehind auction Left None = Left
LeftBehind auction Left (Some worker) = IsNextPast auction Left worker

-- Behind rows the next line is a request of this worker, which has as many rows as it may have.
pub record IsAtPast (grown : Book) (workers : ℕ) (Next : List Said → Type 0) (worker : ℕ) (rest : List Said) : Type 0 where
  pub one : Record
  pub behind : List Said
  pub rest_is : rest ≡ says.Record one ∷ behind
  pub request : one.is_row ≡ false
  pub worker_is : one.worker ≡ worker
  pub full : MOST_COMMITS ≤ rows_by grown worker
  pub own : worker < workers
  pub left : Next behind

abbrev pub AtPast : Book → ℕ → (List Said → Type 0) → Option ℕ → List Said → Type 0
AtPast grown workers Next None = Next
AtPast grown workers Next (Some worker) = IsAtPast grown workers Next worker

module _ (options : Options) (auction : JoinedState) (book : Book) (start : IsStart options auction book) (asked : Asked) (most : ℕ) (rest : List Said) (free : HasNoLateRow rest) (Next : List Said → Type 0)
    (reads : ReadsPart options most rest asked Next) (few : most ≤ MOST_OF_A_WORKER) (room : 1 < most → HasRoomForPart auction) where
  abbrev pub grown : Book
  grown = rows_from (opening_asked options) book asked.rows

  its_script : (w : ℕ) → w < options.workers → script_of asked.scripts w ≡ script w reads.said
  its_script w below = ap (λ (a : Asked). script_of a.scripts w) reads.asked_is ∙ at_place (asked_in options.workers reads.said).scripts w ∙ get_or-map-range_with_len (λ v. script v reads.said) 0 options.workers w w [] below (omega arith)

  counted : length asked.scripts ≡ options.workers
  counted = ap (λ (a : Asked). length a.scripts) reads.asked_is ∙ length-map-range_with_len (λ v. script v reads.said) 0 options.workers

  -- the worker of a script that is past its limit has as many rows as it may have, and the part has one request
  is_full : (w : ℕ) → w < options.workers → (n : ℕ) → n ≡ length (script_of asked.scripts w) → (grows : ℕ) → grows ≡ rows_by grown w → IsPastLimit grown asked.scripts w → (requests_in reads.said ≤ 1) × (MOST_COMMITS ≤ grows)
  is_full w below n is grows so past =
      let short = script_few w reads.said in
      let same : length (script_of asked.scripts w) ≡ length (script w reads.said) = ap length (its_script w below) in
      let rows_few : rows_by grown w ≤ rows_by book w + length asked.rows = rows_grow (opening_asked options) book asked.rows w in
      let rows_same : length asked.rows ≡ length (rows reads.said) = ap (λ (a : Asked). length a.rows) reads.asked_is in
      let stores_are : stores (counters_at auction.counters w) ≡ rows_by book w = stored auction book start.of.stands w (omega (arith, below, start.fits.workers)) in
      let over : MOST_COMMITS < grows + n = elim (cases_lt MOST_COMMITS (grows + n)) [
        | inl over ↦ over
        | inr within ↦ absurd (past.past (omega (arith, same, short, reads.most_few, few), omega (arith, within, is, so)))
      ] in
      elim (cases_lt 1 most) [
        | inr one ↦ (omega (arith, reads.most_few, one), omega (arith, over, is, same, short, reads.most_few, one))
        | inl many ↦ absurd (let has = room many w (omega (arith, below, start.fits.workers)) in
            omega (arith, has, over, is, so, same, short, reads.most_few, few, rows_few, rows_same, reads.few_rows, stores_are, start.fits.limit))
      ]

  pub done_reads : (past : Option ℕ) → AreDoneOf options book asked past → ReadsPart options most rest (done_of past asked) (AtPast grown options.workers Next past)
  done_reads None are = reads
  done_reads (Some w) are =
      let below : w < options.workers = omega (arith, is_own asked.scripts w are.1.some, counted) in
      let full = is_full w below _ refl _ refl are.1 in
      let last : IsLast reads.said w = last_request reads.said reads.behind w full.0 (subst (λ (xs : List Request). 1 ≤ length xs) (its_script w below) are.1.some) (subst HasNoLateRow reads.rest_is free) in
      let rows_are : rows reads.said ≡ rows last.front = ap rows last.said_is ∙ same_front last.front last.one last.request in
      record {
        said = last.front;
        behind = says.Record last.one ∷ reads.behind;
        rest_is = reads.rest_is ∙ ap (λ (xs : List Record). records_said xs ++ reads.behind) last.said_is ∙ said_more last.front last.one reads.behind;
        asked_is = ap (λ (a : Asked). done_of (Some w) a) reads.asked_is
            ∙ (λ i. record { rows = rows_are i; scripts = blanks (λ v. script v reads.said) (λ v. script v last.front) (λ v. no_script v last.front last.none) (range_with_len 0 options.workers) i });
        few = λ some. omega (arith, some, last.none);
        most_few = omega (arith, last.none);
        few_rows = omega (arith, reads.few_rows, ap length rows_are);
        goes_on = record { one = last.one; behind = reads.behind; rest_is = refl; request = last.request; worker_is = last.worker_is; full = full.1; own = below; left = reads.goes_on };
      }

  -- what is left behind the part
  pub left_behind : (past : Option ℕ) (gone : Gone) (next : Served) (Holds : List ℕ → List ℕ → Type 0) → ServesPart options book gone (done_of past asked) next Holds → (left : List Said) → AtPast grown options.workers Next past left
      → LeftBehind next.auction Next past left
  left_behind None gone next Holds serves left at = at
  left_behind (Some w) gone next Holds serves left at =
      let runs = serves.runs in let after : Book = book ++ runs.added in
      let none : runs.history ≡ [] = no_entries (map (λ script. []) asked.scripts) (blank asked.scripts) runs.history runs.answer.serves.requests in
      let starts : IsStart options next.auction after = subst (λ (h : List Entry). IsStart options next.auction (book_after (opening_asked options) after h)) none serves.start in
      let own : w < length next.auction.counters = omega (arith, at.own, starts.fits.workers) in
      let counts : stores (counters_at next.auction.counters w) ≡ rows_by after w = stored next.auction after starts.of.stands w own in
      let same : rows_by grown w ≡ rows_by after w = ap (λ (b : Book). rows_by b w) runs.adds.adds in
      record { one = at.one; behind = at.behind; rest_is = at.rest_is; request = at.request; worker_is = at.worker_is; full = omega (arith, counts, same, at.full); own = own; left = at.left }
