-- The rows that an auction is opened with: what one request adds, and what many leave.
use Rattle.std.proofs.Common.{◌≡◌, ℕ, ◌+◌, ◌<◌, ◌≤◌, ◌==◌, Bool, true, false, cond, not, ◌&&◌, List, [], ◌∷◌, ◌++◌, Option, Some, None, option_to_list, is_some, is_none, length, take, get_or, set, refl, sym, ap, ◌∙◌, arith}
use Rattle.std.proofs.lemmas.Bool.{eqb-true, eq-eqb, false≢true}
use Rattle.std.proofs.lemmas.List.{Sums.{sum_by_push}, take_more, get_or-set_same, get_or-set_other}
use Rattle.std.specs.Prelude.{IfSome, IfNone}
use Rattle.auction_rows.{proofs.RequestLemmas.{row_made}, specs.{Book.{Book}, Refusals.{refusal}}}
use Rattle.auction_rows.specs.{Replies.{reply, row_of}, Requests.{is_view}}
use Rattle.auction_rows.specs.declared.{values.Opening.Opening, requests.Opened.Opened, replies.Refusal.Refusal, rows.Row.Row}
use Rattle.item_shards.specs.OpeningRows.{with_opened, IsRow, asked_by}

-- ---- options

pub none_for : {X P : Type 0} (o : Option X) → (o ≡ None → P) → IfNone o P
none_for None p = p refl
none_for (Some x) p = tt

pub some_for : {X : Type 0} {P : X → Type 0} (o : Option X) → ((x : X) → o ≡ Some x → P x) → IfSome o P
some_for None p = tt
some_for (Some x) p = p x refl

-- ---- one request

-- the row that a request adds to a book, if it adds one
abbrev pub row_at : Opening → Book → Opened → Option Row
row_at start book opened = row_of opened.worker opened.request (reply start book opened.worker opened.request)

pub made : (start : Opening) (book : Book) (opened : Opened) → is_some (row_at start book opened) ≡ (not (is_view opened.request) && is_none (refusal start book opened.request))
made start book opened = row_made book opened.worker opened.request (refusal start book opened.request)

pub no_row_added : (start : Opening) (book : Book) (opened : Opened) → row_at start book opened ≡ None → ¬ IsRow start book opened
no_row_added start book opened none row =
    false≢true (sym (ap is_some none) ∙ made start book opened ∙ (λ i. not (row.store i) && is_none (row.accepted i)))

both : (view : Bool) (refused : Option Refusal) → (not view && is_none refused) ≡ true → (view ≡ false) × (refused ≡ None)
both false None e = (refl, refl)
both view refused e = absurd (false≢true e)

pub row_added : (start : Opening) (book : Book) (opened : Opened) (row : Row) → opened.worker < 16 → row_at start book opened ≡ Some row
    → IsRow start book opened × (with_opened start book opened ≡ book ++ row ∷ [])
row_added start book opened row below is =
    let accepted = both (is_view opened.request) (refusal start book opened.request) (sym (made start book opened) ∙ ap is_some is) in
    (record { worker = below; store = accepted.0; accepted = accepted.1 }, ap (λ o. book ++ option_to_list o) is)

-- ---- counts

pub counted : (worker : ℕ) (all : List Opened) (opened : Opened) → asked_by (all ++ opened ∷ []) worker ≡ asked_by all worker + cond (opened.worker == worker) 1 0
counted worker all opened = sum_by_push (λ (one : Opened). cond (one.worker == worker) 1 0) all opened

-- the part up to the next place
pub one_more : (all : List Opened) (i : ℕ) (opened : Opened) → i < length all → opened ≡ get_or all i opened → take (i + 1) all ≡ take i all ++ opened ∷ []
one_more all i opened within is = take_more all i opened within ∙ ap (λ one. take i all ++ one ∷ []) (sym is)

module _ (all : List Opened) (i : ℕ) (opened : Opened) (within : i < length all) (is : opened ≡ get_or all i opened)
    (counts : List ℕ) (before : (worker : ℕ) → worker < 16 → get_or counts worker 0 ≡ asked_by (take i all) worker) where
  after : (worker : ℕ) → asked_by (take (i + 1) all) worker ≡ asked_by (take i all) worker + cond (opened.worker == worker) 1 0
  after worker = ap (λ part. asked_by part worker) (one_more all i opened within is) ∙ counted worker (take i all) opened

  pub counted_next : length counts ≡ 16 → opened.worker < 16 → (worker : ℕ) → worker < 16
      → get_or (set counts opened.worker (get_or counts opened.worker 0 + 1)) worker 0 ≡ asked_by (take (i + 1) all) worker
  counted_next sixteen known worker below = at (opened.worker == worker) refl where
    at : (b : Bool) → (opened.worker == worker) ≡ b → get_or (set counts opened.worker (get_or counts opened.worker 0 + 1)) worker 0 ≡ asked_by (take (i + 1) all) worker
    at true e =
        let same : worker ≡ opened.worker = sym (eqb-true opened.worker worker e) in
        ap (λ w. get_or (set counts opened.worker (get_or counts opened.worker 0 + 1)) w 0) same
        ∙ get_or-set_same counts opened.worker (get_or counts opened.worker 0 + 1) 0 (omega (arith, known, sixteen))
        ∙ ap (λ n. n + 1) (ap (λ w. get_or counts w 0) (sym same) ∙ before worker below)
        ∙ sym (after worker ∙ ap (λ b. asked_by (take i all) worker + cond b 1 0) e)
    at false e =
        get_or-set_other counts opened.worker worker (get_or counts opened.worker 0 + 1) 0 (λ same. false≢true (sym e ∙ eq-eqb opened.worker worker (sym same)))
        ∙ before worker below
        ∙ omega (arith, after worker ∙ ap (λ b. asked_by (take i all) worker + cond b 1 0) e)

  pub uncounted_next : 16 ≤ opened.worker → (worker : ℕ) → worker < 16 → get_or counts worker 0 ≡ asked_by (take (i + 1) all) worker
  uncounted_next unknown worker below = at (opened.worker == worker) refl where
    at : (b : Bool) → (opened.worker == worker) ≡ b → get_or counts worker 0 ≡ asked_by (take (i + 1) all) worker
    at true e = absurd (omega (arith, eqb-true opened.worker worker e, unknown, below))
    at false e = before worker below ∙ omega (arith, after worker ∙ ap (λ b. asked_by (take i all) worker + cond b 1 0) e)
