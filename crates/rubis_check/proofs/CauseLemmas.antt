-- Why nothing is found of a history.
use Rattle.std.proofs.Common.{◌≡◌, ◌∙◌, ◌<◌, ◌+◌, ℕ, List, Option, IfErr, IfSome, Result, Ok, Err, length, subst, sym}
use Rattle.std.proofs.lemmas.Option.{IfSome_then}
use Rattle.std.specs.{Prelude.{◌↔◌}, Result.{IsErr, IsErrAnd}}
use Rattle.auction_rows.specs.{Book.{Book}, declared.limits.TheConstants.{MOST_ROWS}}
use Rattle.auction_rows.specs.declared.{values.Opening.Opening, requests.Request.Request, requests.Opened.Opened}
use Rattle.auction_text.specs.Scripts.{input_of}
use Rattle.item_shards.specs.OpeningRows.{IsFirstBad, IsTooLong, opening_rows}
use Rattle.item_shards.specs.declared.openings.ResumeFault.{ResumeFault}
use Rattle.item_shards.specs.declared.openings.ResumeFault.TheVariants as resume
use Rattle.history_check.specs.{Texts.{lines_of}, declared.lines.CheckFault.{CheckFault}}
use Rattle.history_check.specs.declared.lines.CheckFault.TheVariants as checking
use Rattle.rubis_check.specs.Causes.{IsNotChecked, IsRefused, OfRows}
use Rattle.rubis_check.specs.declared.options.Options.{Options}

-- what holds of an error
pub error_is : {T E : Type 0} (result : Result T E) (fault : E) (P : E → Type 0) → IsErr result × IsErrAnd result (λ x. x ≡ fault) → P fault → IfErr result P
error_is (Ok x) fault P is holds = tt
error_is (Err x) fault P is holds = subst P (sym is.1) holds

-- why the rows were refused
pub refused : {T : Type 0} (start : Opening) (rows : List Opened) (result : Result T ResumeFault) (fault : ResumeFault) → result ≡ Err fault
    → (result ≡ Err resume.TooLong ↔ IsTooLong rows) → ((n : ℕ) → result ≡ Err (resume.BadRow n) → IsFirstBad start rows n) → IsRefused start fault rows
refused start rows result resume.TooLong is long bad = long.0 is
refused start rows result (resume.BadRow n) is long bad = (λ many. absurd (let no = sym is ∙ long.1 many in cc), bad n is)
refused start rows result resume.Memory is long bad = λ many. absurd (let no = sym is ∙ long.1 many in cc)

-- why the history was not checked
pub not_checked : {T : Type 0} (opening : Opening) (rows : List Opened) (book : Book) (history : Option (List ℕ)) (result : Result T CheckFault) (fault : CheckFault) → result ≡ Err fault
    → (result ≡ Err checking.TooLong → IfSome history (λ text. MOST_ROWS < length book + length (lines_of text))) → book ≡ opening_rows opening rows → IsNotChecked opening fault rows history
not_checked opening rows book history result checking.TooLong is long opens = subst (λ b. IfSome history (λ text. MOST_ROWS < length b + length (lines_of text))) opens (long is)
not_checked opening rows book history result (checking.Read why) is long opens = tt
not_checked opening rows book history result checking.Memory is long opens = tt

-- what holds of the rows of an input
pub of_rows : (options : Options) (rows : List Opened) (scripts : List (List Request)) (remaining : Option (List ℕ))
    → IfSome remaining (λ input. input_of options.workers input ≡ Ok (record { rows = rows; scripts = scripts }))
    → (Holds : List Opened → Type 0) → Holds rows → IfSome remaining (λ input. OfRows options input Holds)
of_rows options rows scripts remaining reads Holds holds =
    IfSome_then remaining reads (λ input asks. record { rows = rows; scripts = scripts; reads = asks; holds = holds })
