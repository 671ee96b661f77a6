-- With one worker an input has one answer.
use Rattle.std.proofs.Common.{◌≡◌, ℕ, List, [], ◌∷◌, length, map, false, Result, Ok, Err, sym, ap, subst, ◌∙◌, arith}
use Rattle.std.{proofs.lemmas.List.FromFn.{length-map-range_with_len}, specs.List.{range_with_len}}
use Rattle.auction_rows.specs.Book.{Book}
use Rattle.auction_rows.specs.declared.{limits.Policy.Policy, values.Opening.Opening, requests.Object.Object, requests.Request.Request, requests.Opened.Opened, rows.Entry.Entry}
use Rattle.auction_text.specs.{ReadFault.{ReadFault}, Record.{Record}, Records.{and_then}}
use Rattle.auction_text.specs.Scripts.{Asked, asked_in, read_records, records_of, script}
use Rattle.item_shards.specs.OpeningRows.{opening_rows}
use Rattle.run_laws.{proofs.OneWorkerLemmas.{same_history, same_hots}, specs.Answers.{IsAnswer}}
use Rattle.program_opening.specs.Options.{commits_text, opening_asked, policy_of}
use Rattle.program_opening.specs.declared.options.Options.{Options}
use Rattle.auction_program.specs.Execution.{added_text, IsAnsweredBy}

asked_or_none : Result Asked ReadFault → Asked
asked_or_none (Ok asked) = asked
asked_or_none (Err fault) = record { rows = []; scripts = [] }

abbrev asks_for : List Opened → List (List Request) → Result Asked ReadFault
asks_for rows scripts = Ok (record { rows = rows; scripts = scripts })

-- there is a script for each worker
scripts_count : (workers : ℕ) (records : Result (List Record) ReadFault) (asked : Asked) → and_then records (λ all. Ok (asked_in workers all)) ≡ Ok asked → length asked.scripts ≡ workers
unfolding asked_or_none
scripts_count workers (Ok all) asked is =
    let same : length (map (λ w. script w all) (range_with_len 0 workers)) ≡ length asked.scripts = ap (λ r. length (asked_or_none r).scripts) is in
    sym same ∙ length-map-range_with_len (λ w. script w all) 0 workers
scripts_count workers (Err fault) asked is = absurd cc

-- of one script there is one run
same_runs : (opening : Opening) (book : Book) (policy : Policy) (scripts : List (List Request)) (hot others : List (List Object)) (history other : List Entry) → length scripts ≡ 1
    → IsAnswer opening book policy scripts hot history → IsAnswer opening book policy scripts others other → (history ≡ other) × (hot ≡ others)
same_runs opening book policy (asked ∷ []) hot others history other one first second = (same_history first second, same_hots first second)
same_runs opening book policy scripts hot others history other one first second = absurd (omega arith)

module _ (options : Options) (input text added other more : List ℕ) (one : options.workers ≡ 1)
    (first : IsAnsweredBy options input text added) (second : IsAnsweredBy options input other more) where
  reads_same : asks_for first.rows first.scripts ≡ asks_for second.rows second.scripts
  reads_same = sym first.asks.reads ∙ second.asks.reads

  rows_same : first.rows ≡ second.rows
  unfolding asked_or_none
  rows_same = ap (λ r. (asked_or_none r).rows) reads_same

  scripts_same : first.scripts ≡ second.scripts
  unfolding asked_or_none
  scripts_same = ap (λ r. (asked_or_none r).scripts) reads_same

  one_script : length first.scripts ≡ 1
  one_script =
      scripts_count options.workers (read_records options.workers 1 false (records_of input)) (record { rows = first.rows; scripts = first.scripts }) first.asks.reads ∙ one

  second_run : IsAnswer (opening_asked options) (opening_rows (opening_asked options) first.rows) (policy_of options) first.scripts second.hot second.history
  second_run =
      subst (λ ss. IsAnswer (opening_asked options) (opening_rows (opening_asked options) first.rows) (policy_of options) ss second.hot second.history) (sym scripts_same)
      (subst (λ rs. IsAnswer (opening_asked options) (opening_rows (opening_asked options) rs) (policy_of options) second.scripts second.hot second.history) (sym rows_same) second.runs)

  runs_same : (first.history ≡ second.history) × (first.hot ≡ second.hot)
  runs_same = same_runs (opening_asked options) (opening_rows (opening_asked options) first.rows) (policy_of options) first.scripts first.hot second.hot first.history second.history one_script first.runs second_run

  pub one_answer : (text ≡ other) × (added ≡ more)
  one_answer = (
    first.text_is ∙ (λ i. commits_text options (opening_rows (opening_asked options) (rows_same i)) (runs_same.0 i)) ∙ sym second.text_is,
    first.added_is ∙ (λ i. added_text options (opening_rows (opening_asked options) (rows_same i)) (runs_same.0 i) (runs_same.1 i)) ∙ sym second.added_is,
  )
