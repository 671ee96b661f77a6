-- What records ask for, record by record.
use Rattle.std.proofs.Common.{arith, ◌≡◌, ◌<◌, ◌∷◌, ◌∙◌, ◌++◌, ◌==◌, ◌≢◌, ℕ, List, [], length, map, get_or, get_or-set_other, get_or-set_same, refl, sym, inl, inr}
use Rattle.std.proofs.lemmas.Bool.{cases_Bool, eqb-true, eq-eqb, false≢true}
use Rattle.std.proofs.lemmas.List.{append-nil, ext_get_or, get_or-replicate, length-replicate, length-set}
use Rattle.std.proofs.lemmas.List.Elements.{filter_map-append}
use Rattle.std.proofs.lemmas.List.FromFn.{get_or-map-range_with_len, length-map-range_with_len}
use Rattle.std.specs.List.{range_with_len}
use Rattle.auction_rows.specs.declared.requests.Request.{Request}
use Rattle.record_reading.specs.Asking.{AskFor, Asked, asked_in, nothing_asked, request_by, row_in, rows, script, with_record}
use Rattle.record_reading.specs.declared.record.Record.{Record}

-- one more record adds its row
rows_more : (said : List Record) (first : Record) (asked : Asked) → rows said ≡ asked.rows → rows (said ++ (first ∷ [])) ≡ (with_record first asked).rows
rows_more said first asked are = elim (cases_Bool first.is_row) [
  | inl row ↦ rw (filter_map-append row_in said (first ∷ []), row, are) refl
  | inr request ↦ rw (filter_map-append row_in said (first ∷ []), request, are, append-nil asked.rows) refl
]

-- and its request to its own worker's script
script_more : (said : List Record) (first : Record) (asked : Asked) (w : ℕ) → first.worker < length asked.scripts
    → script w said ≡ get_or asked.scripts w [] → script w (said ++ (first ∷ [])) ≡ get_or (with_record first asked).scripts w []
script_more said first asked w within are = elim (cases_Bool first.is_row) [
  | inl row ↦ rw (filter_map-append (request_by w) said (first ∷ []), row, are, append-nil (get_or asked.scripts w [])) refl
  | inr request ↦ elim (cases_Bool (first.worker == w)) [
    | inl same ↦
        let at : first.worker ≡ w = eqb-true first.worker w same in
        rw (filter_map-append (request_by w) said (first ∷ []), request, same, are, ← at, get_or-set_same asked.scripts first.worker (get_or asked.scripts first.worker [] ++ (first.request ∷ [])) [] within) refl
    | inr other ↦
        let not_at : w ≢ first.worker = λ e. false≢true (sym other ∙ eq-eqb first.worker w (sym e)) in
        rw (filter_map-append (request_by w) said (first ∷ []), request, other, are, append-nil (get_or asked.scripts w []), get_or-set_other asked.scripts first.worker w (get_or asked.scripts first.worker [] ++ (first.request ∷ [])) [] not_at) refl
  ]
]

-- one record changes no number of scripts
pub count_more : (first : Record) (asked : Asked) → length (with_record first asked).scripts ≡ length asked.scripts
count_more first asked = elim (cases_Bool first.is_row) [
  | inl row ↦ rw row refl
  | inr request ↦ rw request (length-set asked.scripts first.worker _)
]

-- nothing is asked by no records
pub ask_none : (workers : ℕ) → AskFor workers [] (nothing_asked workers)
ask_none workers = record {
  rows_are = refl;
  workers_are = length-replicate {A = List Request} workers [];
  script_of = λ w within. rw (get_or-replicate {A = List Request}) refl;
}

-- one record more
pub ask_more : (workers : ℕ) (said : List Record) (first : Record) (asked : Asked) → AskFor workers said asked → first.worker < workers
    → AskFor workers (said ++ (first ∷ [])) (with_record first asked)
ask_more workers said first asked ask below =
    let fits : first.worker < length asked.scripts = rw ask.workers_are below in record {
      rows_are = rows_more said first asked ask.rows_are;
      workers_are = count_more first asked ∙ ask.workers_are;
      script_of = λ w inside. script_more said first asked w fits (ask.script_of w inside);
    }

-- what records ask for is what they say
pub ask_is : (workers : ℕ) (said : List Record) (asked : Asked) → AskFor workers said asked → asked ≡ asked_in workers said
ask_is workers said asked ask =
    let counts : length (map (λ w. script w said) (range_with_len 0 workers)) ≡ length asked.scripts = length-map-range_with_len (λ w. script w said) 0 workers ∙ sym ask.workers_are in
    let scripts : map (λ w. script w said) (range_with_len 0 workers) ≡ asked.scripts = ext_get_or [] _ _ counts (λ i h.
    let below : i < workers = rw (length-map-range_with_len (λ w. script w said) 0 workers) at h in
    get_or-map-range_with_len (λ w. script w said) 0 workers i i [] below (omega arith) ∙ ask.script_of i below) in
    rw (ask.rows_are, scripts) refl
