-- What is told of faults, line after line.
use Rattle.std.proofs.Common.{◌≡◌, ◌++◌, ◌∷◌, ◌∙◌, List, [], Option, None, Some, ap, append_assoc, append-nil, refl, subst, sym}
use Rattle.std.proofs.lemmas.Grind.{flat_map-append}
use Rattle.auction_text.specs.{LineFault.{LineFault}, LiveReading.{records_said}, ReadFault.{ReadFault}}
use Rattle.auction_text.specs.{Record.{Record}, Said.{Said}}
use Rattle.auction_text.specs.Said.TheVariants as says
use Rattle.program_opening.specs.declared.options.Options.{Options}
use Rattle.program_serving.specs.{ErrorFaults.{AddsTold, unanswered, unanswered_fault}, inner.Sessions.{HasTold}}

-- nothing more is told
pub told_same : (told next : Option (List ReadFault)) → next ≡ told → AddsTold told next []
told_same None next same = tt
told_same (Some before) next same = same ∙ ap Some (sym (append-nil before))

-- more is told behind what was told
told_both : (first second third : Option (List ReadFault)) (faults more : List ReadFault) → AddsTold first second faults → AddsTold second third more → AddsTold first third (faults ++ more)
told_both None second third faults more one two = tt
told_both (Some before) second third faults more one two =
    subst (λ told. AddsTold told third more) one two ∙ ap Some (append_assoc before faults more)

-- records have no fault
no_faults : (options : Options) (said : List Record) → unanswered options (records_said said) ≡ []
no_faults options [] = refl
no_faults options (one ∷ said) = no_faults options said

records_have_none : (options : Options) (said : List Record) (behind : List Said) → unanswered options (records_said said ++ behind) ≡ unanswered options behind
records_have_none options said behind =
    flat_map-append _ (records_said said) behind ∙ ap (λ faults. faults ++ unanswered options behind) (no_faults options said)

-- nothing is told of a part
pub part_told : (told next : Option (List ReadFault)) (options : Options) (rest behind : List Said) (said : List Record) (GoesOn : List Said → Type 0) → next ≡ told → rest ≡ records_said said ++ behind
    → GoesOn behind → HasTold told next options rest GoesOn
part_told told next options rest behind said GoesOn same is on = record {
  faults = [];
  behind = behind;
  splits = ap (unanswered options) is ∙ records_have_none options said behind;
  adds = told_same told next same;
  goes_on = on;
}

-- a line with a fault is told, if it has no answer
pub line_told : (told next : Option (List ReadFault)) (options : Options) (rest behind : List Said) (met : LineFault) (GoesOn : List Said → Type 0) → rest ≡ says.Fault met ∷ behind
    → AddsTold told next (unanswered_fault options met.worker met.fault) → GoesOn behind → HasTold told next options rest GoesOn
line_told told next options rest behind met GoesOn is adds on = record {
  faults = unanswered_fault options met.worker met.fault;
  behind = behind;
  splits = ap (unanswered options) is;
  adds = adds;
  goes_on = on;
}

-- what is told first, and what then
pub told_then : (first second third : Option (List ReadFault)) (options : Options) (rest : List Said) (Between GoesOn : List Said → Type 0) → HasTold first second options rest Between
    → ((behind : List Said) → Between behind → HasTold second third options behind GoesOn) → HasTold first third options rest GoesOn
told_then first second third options rest Between GoesOn one each =
    let two = each one.behind one.goes_on in record {
      faults = one.faults ++ two.faults;
      behind = two.behind;
      splits = one.splits ∙ ap (λ more. one.faults ++ more) two.splits ∙ sym (append_assoc one.faults two.faults (unanswered options two.behind));
      adds = told_both first second third one.faults two.faults one.adds two.adds;
      goes_on = two.goes_on;
    }

-- all is told
pub all_told : (told next : Option (List ReadFault)) (options : Options) (rest : List Said) → HasTold told next options rest (λ behind. behind ≡ []) → AddsTold told next (unanswered options rest)
all_told told next options rest has =
    subst (AddsTold told next) (sym (has.splits ∙ ap (λ behind. has.faults ++ unanswered options behind) has.goes_on ∙ append-nil has.faults)) has.adds

-- more is told of nothing
pub told_and_none : (first second third : Option (List ReadFault)) (options : Options) (rest : List Said) (GoesOn : List Said → Type 0) → HasTold first second options rest GoesOn → AddsTold second third []
    → HasTold first third options rest GoesOn
told_and_none first second third options rest GoesOn has none = record {
  faults = has.faults ++ [];
  behind = has.behind;
  splits = has.splits ∙ ap (λ faults. faults ++ unanswered options has.behind) (sym (append-nil has.faults));
  adds = told_both first second third has.faults [] has.adds none;
  goes_on = has.goes_on;
}

-- what goes on goes on so
pub told_weaker : (told next : Option (List ReadFault)) (options : Options) (rest : List Said) (GoesOn So : List Said → Type 0) → HasTold told next options rest GoesOn → ((behind : List Said) → GoesOn behind → So behind)
    → HasTold told next options rest So
told_weaker told next options rest GoesOn So has so = record { faults = has.faults; behind = has.behind; splits = has.splits; adds = has.adds; goes_on = so has.behind has.goes_on }
