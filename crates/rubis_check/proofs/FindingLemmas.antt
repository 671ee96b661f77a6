-- What is found of a history, by the text of its rows and scripts, and what is said of it.
use Rattle.std.{proofs.Common.{◌≡◌, ℕ, List, Option, Some, subst, sym}, specs.Prelude.{IfSome, Ok}}
use Rattle.auction_rows.specs.Book.{Book}
use Rattle.auction_rows.specs.declared.{values.Opening.Opening, requests.Request.Request, requests.Opened.Opened}
use Rattle.auction_text.specs.Scripts.{input_of}
use Rattle.item_shards.specs.OpeningRows.{AreRows, opening_rows}
use Rattle.history_check.specs.{Checking.{IsAccepted, IsVerdict}, declared.lines.Verdict.{Verdict}}
use Rattle.history_check.specs.declared.lines.Verdict.TheVariants.{Replays}
use Rattle.rubis_check.specs.{Finding.{IsFound, Tells}, VerdictLines.{Says}}
use Rattle.rubis_check.specs.declared.options.Options.{Options}

module _ (options : Options) (rows : List Opened) (scripts : List (List Request)) (opening : Opening) (start : Book) (line : List ℕ) (verdict : Verdict)
    (opening_is : opening ≡ options.opening) (start_is : start ≡ opening_rows options.opening rows) (are_rows : AreRows options.opening rows) where
  here : (input text : List ℕ) → input_of options.workers input ≡ Ok (record { rows = rows; scripts = scripts })
      → IsVerdict opening start scripts options.order text line verdict → (IsAccepted opening start scripts options.order text → verdict ≡ Replays) → IsFound options input text line verdict
  here input text reads found accepted = record {
    rows = rows;
    scripts = scripts;
    reads = reads;
    are_rows = are_rows;
    found = subst (λ o. IsVerdict o (opening_rows options.opening rows) scripts options.order text line verdict) opening_is
        (subst (λ b. IsVerdict opening b scripts options.order text line verdict) start_is found);
    accepted = subst (λ o. IsAccepted o (opening_rows options.opening rows) scripts options.order text → verdict ≡ Replays) opening_is
        (subst (λ b. IsAccepted opening b scripts options.order text → verdict ≡ Replays) start_is accepted);
  }

  known : (read left : Option (List ℕ)) → IfSome read (λ bytes. input_of options.workers bytes ≡ Ok (record { rows = rows; scripts = scripts }))
      → IfSome left (λ text. IsVerdict opening start scripts options.order text line verdict)
      → IfSome left (λ text. IsAccepted opening start scripts options.order text → verdict ≡ Replays)
      → IfSome read (λ input. IfSome left (λ text. IsFound options input text line verdict))
  known (Some input) (Some text) reads found accepted = here input text reads found accepted
  known read left reads found accepted = tt

  -- a text that says it of this line tells it
  pub tells : (read left : Option (List ℕ)) (asked : List (List Request)) → scripts ≡ asked
      → IfSome read (λ bytes. input_of options.workers bytes ≡ Ok (record { rows = rows; scripts = asked }))
      → IfSome left (λ text. IsVerdict opening start scripts options.order text line verdict)
      → IfSome left (λ text. IsAccepted opening start scripts options.order text → verdict ≡ Replays)
      → (seen : List ℕ) (Holds : List ℕ → Type 0) → seen ≡ line → Says seen verdict Holds → Tells options read left verdict Holds
  tells read left asked same reads found accepted seen Holds is says = record {
    line = line;
    found = known read left (subst (λ asked. IfSome read (λ bytes. input_of options.workers bytes ≡ Ok (record { rows = rows; scripts = asked }))) (sym same) reads) found accepted;
    says = subst (λ line. Says line verdict Holds) is says;
  }
