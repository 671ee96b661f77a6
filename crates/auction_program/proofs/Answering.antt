-- What is said of an input, from what its parts answered.
use Rattle.std.proofs.Common.{◌≡◌, ℕ, ◌<◌, List, length, Option, IfSome, Result, Ok, Err, sym, ap, subst, ◌∙◌}
use Rattle.std.{proofs.lemmas.Option.{IfSome_then}, specs.{Prelude.{◌↔◌}, Result.{IsErr, IsErrAnd}}}
use Rattle.auction_rows.specs.Book.{Book}
use Rattle.auction_rows.specs.declared.{limits.Policy.Policy, values.Opening.Opening, requests.Request.Request, requests.Opened.Opened}
use Rattle.auction_text.specs.Scripts.{input_of}
use Rattle.item_shards.specs.OpeningRows.{AreRows, IsFirstBad, IsTooLong, opening_rows}
use Rattle.item_shards.specs.declared.openings.ResumeFault.{ResumeFault}
use Rattle.item_shards.specs.declared.openings.ResumeFault.TheVariants as resume
use Rattle.run_laws.specs.Answers.{IsAnswer}
use Rattle.byte_texts.specs.declared.writing.WriteFault.{WriteFault}
use Rattle.program_opening.specs.Options.{commits_text, opening_asked, policy_of}
use Rattle.program_opening.specs.declared.faults.Fault.{TheVariants.{Make, Run, Write}, Fault}
use Rattle.program_opening.specs.declared.options.Options.{Options}
use Rattle.auction_program.specs.Execution.{added_text, Answers, IsAllowed, IsCausedBy, IsNotRun, IsRefused, OfInput}
use Rattle.auction_program.specs.declared.asked.Performed.{Performed}
use Rattle.auction_program.specs.inner.Performing.{IsNotPerformed, Performs}
use Rattle.auction_run.specs.Beginning.{HaveWorkers, HasShards, HasQuotas, AreShort}
use Rattle.auction_run.specs.{Phases.{hot_sets}, RunFault.{RunFault}}
use Rattle.auction_run.specs.RunFault.TheVariants as run

pub is_error : {T E : Type 0} (r : Result T E) (e x : E) → IsErr r × IsErrAnd r (λ y. y ≡ e) → r ≡ Err x → x ≡ e
is_error (Ok t) e x is same = absurd (let no = same in cc)
is_error (Err y) e x is same = let one : y ≡ x = cc in sym one ∙ is.1

-- the fault of writing that a fault is
pub write_is : {T : Type 0} (r : Result T Fault) (fault is : WriteFault) → IsErr r × IsErrAnd r (λ e. e ≡ Write fault) → r ≡ Err (Write is) → fault ≡ is
write_is r fault is told same = let one = is_error r (Write fault) (Write is) told same in cc

-- why the rows were refused
pub refused : {T : Type 0} (start : Opening) (rows : List Opened) (result : Result T ResumeFault) (fault : ResumeFault) → result ≡ Err fault
    → (result ≡ Err resume.TooLong ↔ IsTooLong rows) → ((n : ℕ) → result ≡ Err (resume.BadRow n) → IsFirstBad start rows n) → IsRefused start fault rows
refused start rows result resume.TooLong is long bad = long.0 is
refused start rows result (resume.BadRow n) is long bad = (λ many. absurd (let no = sym is ∙ long.1 many in cc), bad n is)
refused start rows result resume.Memory is long bad = λ many. absurd (let no = sym is ∙ long.1 many in cc)

-- rows of which there is a book are not too many
pub not_long : {T : Type 0} (rows : List Opened) (result : Result T ResumeFault) (book : T) → result ≡ Ok book → (result ≡ Err resume.TooLong ↔ IsTooLong rows) → ¬ IsTooLong rows
not_long rows result book is long = λ many. absurd (let no = sym is ∙ long.1 many in cc)

-- why the scripts were not performed
pub not_run : {T : Type 0} (policy : Policy) (book : Book) (scripts : List (List Request)) (result : Result T RunFault) (fault : RunFault) → result ≡ Err fault
    → (result ≡ Err run.Workers ↔ ¬ HaveWorkers book scripts)
    → (result ≡ Err run.Shards ↔ (HaveWorkers book scripts × ¬ HasShards policy))
    → (result ≡ Err run.Quota ↔ (HaveWorkers book scripts × (HasShards policy × ¬ HasQuotas policy)))
    → (result ≡ Err run.TooLong ↔ (HaveWorkers book scripts × (HasShards policy × (HasQuotas policy × ¬ AreShort book scripts))))
    → (result ≡ Err run.Spawn → 1 < length scripts)
    → ¬ (result ≡ Err run.NumberFull)
    → IsNotRun policy fault book scripts
not_run policy book scripts result run.Workers is workers shards quotas short spawn numbers = workers.0 is
not_run policy book scripts result run.Shards is workers shards quotas short spawn numbers = shards.0 is
not_run policy book scripts result run.Quota is workers shards quotas short spawn numbers = quotas.0 is
not_run policy book scripts result run.TooLong is workers shards quotas short spawn numbers = short.0 is
not_run policy book scripts result run.Spawn is workers shards quotas short spawn numbers = spawn is
not_run policy book scripts result run.Memory is workers shards quotas short spawn numbers = tt
not_run policy book scripts result run.NumberFull is workers shards quotas short spawn numbers = numbers is

-- the book of the rows, and the policy, are those of the options
module _ (options : Options) (rows : List Opened) (scripts : List (List Request)) (remaining : Option (List ℕ))
    (reads : IfSome remaining (λ input. input_of options.workers input ≡ Ok (record { rows = rows; scripts = scripts }))) where
  pub of_input : (Holds : List Opened → List (List Request) → Type 0) → Holds rows scripts → IfSome remaining (λ input. OfInput options input Holds)
  of_input Holds holds =
      IfSome_then remaining reads (λ input asks. record { rows = rows; scripts = scripts; reads = asks; holds = holds })

  -- why the scripts were not performed
  pub not_performed : (fault : Fault) → AreRows (opening_asked options) rows → IsNotPerformed options fault (opening_rows (opening_asked options) rows) scripts
      → IfSome remaining (λ input. IsCausedBy options input fault)
  not_performed (Make fault) are why =
      IfSome_then remaining (of_input (λ rs ss. AreRows (opening_asked options) rs) are) (λ input holds. (why, holds))
  not_performed (Run fault) are why = of_input (λ rs ss. AreRows (opening_asked options) rs × IsNotRun (policy_of options) fault (opening_rows (opening_asked options) rs) ss) (are, why)
  not_performed fault are why = absurd why

  module _ (start : Opening) (book shown : Book) (performed : Performed) (starts : start ≡ opening_asked options)
      (opens : book ≡ opening_rows start rows) (shows : shown ≡ book) (are : AreRows start rows)
      (few : ¬ IsTooLong rows) (performs : Performs options book scripts performed) where
    opened : book ≡ opening_rows (opening_asked options) rows
    opened = opens ∙ ap (λ o. opening_rows o rows) starts

    -- what holds of the texts, as what holds of the input
    pub answered : (Holds : List ℕ → List ℕ → Type 0)
        → Holds (commits_text options shown performed.history.entries) (added_text options shown performed.history.entries (hot_sets performed.hot.items))
        → IfSome remaining (λ input. Answers options input Holds)
    answered Holds holds =
        let history = performed.history.entries in let hot = hot_sets performed.hot.items in
        IfSome_then remaining reads (λ input asks. record {
          text = commits_text options shown history;
          added = added_text options shown history hot;
          answered = record {
            rows = rows;
            scripts = scripts;
            history = history;
            hot = hot;
            asks = record { reads = asks; are_rows = subst (λ o. AreRows o rows) starts are };
            few = few;
            allowed = subst (λ (b : Book). IsAllowed (policy_of options) b scripts) opened performs.allowed;
            runs = subst (λ (b : Book). IsAnswer (opening_asked options) b (policy_of options) scripts hot history) opened performs.answer;
            text_is = ap (λ (b : Book). commits_text options b history) (shows ∙ opened);
            added_is = ap (λ (b : Book). added_text options b history hot) (shows ∙ opened);
          };
          holds = holds;
        })
