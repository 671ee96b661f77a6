-- What is told of a part, and how far at a fault.
use Rattle.std.proofs.Common.{◌≡◌, ◌∙◌, ◌⊎◌, ◌++◌, true, if◌then◌else◌, ℕ, List, [], ◌∷◌, Option, None, Some, IfErr, IfSome, Result, ap, inl, inr, length, refl, subst, sym}
use Rattle.std.proofs.KnownBytes.{Appends-kept, Appends-nil, Appends-trans, Keeps-refl}
use Rattle.std.{proofs.Math.Seq.{take-length}, specs.{Io.KnownBytes.{Appends}, List.{cons_option}}}
use Rattle.std.specs.Result.{IsErr, IsErrAnd}
use Rattle.auction_rows.specs.{Book.{Book}, History.{row_of_entry, rows_of}}
use Rattle.auction_rows.specs.declared.rows.Entry.{Entry}
use Rattle.auction_text.specs.{Moved.{Gone, all_moved}, Replies.{history_text, lines, replies_text}}
use Rattle.auction_text.specs.RowLines.{row_line, rows_text}
use Rattle.byte_texts.specs.{Writing.{IsPartWritten}, declared.writing.WriteFault.{WriteFault}}
use Rattle.byte_texts.specs.declared.writing.WriteFault.TheVariants as write
use Rattle.part_log.specs.{Telling.{IsToldSoFar}, declared.log.TellFault.{TellFault}}
use Rattle.part_log.specs.declared.log.Teller.{Teller}
use Rattle.part_log.specs.declared.log.TellFault.TheVariants as telling
use Rattle.program_opening.{proofs.ErrorLemmas.{error_is}, specs.Faults.{of_telling}}
use Rattle.program_opening.specs.{Options.{commits_text}, declared.faults.Fault.{Fault}}
use Rattle.program_opening.specs.declared.faults.Fault.TheVariants.{Write, Log}
use Rattle.program_opening.specs.declared.options.Options.{Options}
use Rattle.program_serving.{proofs.TextLemmas.{part_of_added}, specs.ServeFaults.{AreToldAt}}
use Rattle.program_serving.specs.Serving.{Telling, told_by}

-- what is appended to known bytes
pub appends_known : (old new : Option (List ℕ)) (bytes others : List ℕ) → IfSome old (λ _. bytes ≡ others) → Appends old new bytes → Appends old new others
appends_known None new bytes others are appends = tt
appends_known (Some known) new bytes others are appends = subst (Appends (Some known) new) are appends

pub same_appended : (old new : Option (List ℕ)) (bytes others : List ℕ) → Appends old new bytes → bytes ≡ others → Appends old new others
same_appended old new bytes others appends same = subst (Appends old new) same appends

rows_moved : (gone : Gone) (entries : List Entry) → rows_of (all_moved gone entries) ≡ rows_of entries
rows_moved gone [] = refl
rows_moved gone (entry ∷ entries) = ap (cons_option (row_of_entry entry)) (rows_moved gone entries)

-- if the options ask for rows, those that a part adds are what is asked for of it
pub rows_asked : (options : Options) (gone : Gone) (added : Book) (entries : List Entry) → options.rows ≡ true → rows_text added entries ≡ commits_text options added (all_moved gone entries)
rows_asked options gone added entries asked =
    ap (λ rows. lines row_line (added ++ rows)) (sym (rows_moved gone entries))
    ∙ sym (ap (λ b. if b then rows_text added (all_moved gone entries) else if options.history then history_text (all_moved gone entries) else replies_text (all_moved gone entries)) asked)

pub same_gone : (gone other : Gone) → gone.phases ≡ other.phases → ((worker : ℕ) → gone.requests worker ≡ other.requests worker) → gone ≡ other
same_gone gone other phases requests = λ i. record { phases = phases i; requests = λ worker. requests worker i }

-- what is so is so if bytes are known
pub if_known : (known : Option (List ℕ)) (P : Type 0) → P → IfSome known (λ _. P)
if_known None P holds = tt
if_known (Some bytes) P holds = holds

pub whole_part : (old new : Option (List ℕ)) (text : List ℕ) → Appends old new text → IsPartWritten old new text
whole_part old new text whole = (length text, subst (Appends old new) (sym (take-length text)) whole)

module _ {L W : Type 0} (accepted : L → Option (List ℕ)) (contents : W → Option (List ℕ)) where
  pub nothing_told : (teller : Teller L W) → (told_by accepted contents teller teller).nothing
  nothing_told teller = (Keeps-refl (accepted teller.log), Keeps-refl (contents teller.writer))

  pub told_none : (teller : Teller L W) → (told_by accepted contents teller teller).whole [] []
  told_none teller = (Appends-nil (accepted teller.log), Appends-nil (contents teller.writer))

  module _ (start old new : Teller L W) where
    pub told_more : (logs more_logs all_logs text more_text all_text : List ℕ) → logs ++ more_logs ≡ all_logs → text ++ more_text ≡ all_text
        → (told_by accepted contents start old).whole logs text → (told_by accepted contents old new).whole more_logs more_text → (told_by accepted contents start new).whole all_logs all_text
    told_more logs more_logs all_logs text more_text all_text logs_are text_is first second = (
      subst (Appends (accepted start.log) (accepted new.log)) logs_are (Appends-trans (accepted start.log) (accepted old.log) (accepted new.log) logs more_logs first.0 second.0),
      subst (Appends (contents start.writer) (contents new.writer)) text_is (Appends-trans (contents start.writer) (contents old.writer) (contents new.writer) text more_text first.1 second.1),
    )

    pub part_more : (logs more_logs all_logs text more_text all_text : List ℕ) → logs ++ more_logs ≡ all_logs → text ++ more_text ≡ all_text
        → (told_by accepted contents start old).whole logs text → (told_by accepted contents old new).part more_logs more_text → (told_by accepted contents start new).part all_logs all_text
    part_more logs more_logs all_logs text more_text all_text logs_are text_is first second = (
      subst (Appends (accepted start.log) (accepted new.log)) logs_are (Appends-trans (accepted start.log) (accepted old.log) (accepted new.log) logs more_logs first.0 second.0),
      subst (IsPartWritten (contents start.writer) (contents new.writer)) text_is (part_of_added (contents start.writer) (contents old.writer) (contents new.writer) text more_text first.1 second.1),
    )

    pub part_kept : (logs text : List ℕ) → (told_by accepted contents start old).whole logs text → (told_by accepted contents old new).nothing → (told_by accepted contents start new).part logs text
    part_kept logs text first kept = (
      Appends-kept (accepted start.log) (accepted old.log) (accepted new.log) logs first.0 kept.0,
      whole_part (contents start.writer) (contents new.writer) text (Appends-kept (contents start.writer) (contents old.writer) (contents new.writer) text first.1 kept.1),
    )

  -- a teller's fault says how far it told
  pub told_so_far : (old new : Teller L W) (fault : TellFault) (rows all_rows text all_text : List ℕ) → IsToldSoFar fault (accepted old.log) (accepted new.log) rows (contents old.writer) (contents new.writer) text
      → IfSome (accepted old.log) (λ _. rows ≡ all_rows) → text ≡ all_text → AreToldAt (told_by accepted contents old new) (of_telling fault) all_rows all_text
  told_so_far old new (telling.Log fault) rows all_rows text all_text far are same = far
  told_so_far old new (telling.Write fault) rows all_rows text all_text far are same =
      subst (λ (f : WriteFault). AreToldAt (told_by accepted contents old new) (Write f) all_rows all_text) (sym far.0)
      (appends_known (accepted old.log) (accepted new.log) rows all_rows are far.1.0, subst (IsPartWritten (contents old.writer) (contents new.writer)) same far.1.1)

  -- without memory for a text nothing is told
  pub not_told : {T : Type 0} (result : Result T Fault) (fault : Fault) (teller : Teller L W) (rows text : List ℕ) → IsErr result × IsErrAnd result (λ f. f ≡ fault) → fault ≡ Write write.Memory
      → IfErr result (λ f. AreToldAt (told_by accepted contents teller teller) f rows text)
  not_told result fault teller rows text is memory =
      error_is result fault (λ f. AreToldAt (told_by accepted contents teller teller) f rows text) is
      (subst (λ (f : Fault). AreToldAt (told_by accepted contents teller teller) f rows text) (sym memory) (nothing_told teller))

-- of what is told at a fault the rows are logged before a byte is written
pub told_at : (told : Telling) (fault : Fault) (rows text : List ℕ) → AreToldAt told fault rows text → told.part rows text ⊎ told.nothing
told_at told (Log fault) rows text at = inr at
told_at told (Write write.Memory) rows text at = inr at
told_at told (Write write.Write) rows text at = inl at
told_at told fault rows text at = absurd at
