-- Why serving goes no further.
use Rattle.std.proofs.Common.{ℕ, List, inl, inr}
use Rattle.auction_rows.specs.Book.{Book}
use Rattle.auction_text.specs.{Moved.{Gone}, ReadFault.{ReadFault}, Said.{Said}, Scripts.{asked_in}}
use Rattle.program_opening.specs.declared.faults.Fault.{TheVariants.{Read}, Fault}
use Rattle.program_opening.specs.declared.options.Options.{Options}
use Rattle.program_serving.specs.{ServeFaults.{AreToldAt, IsPartFault, IsStop, StopsAtAnswer, StopsAtPart}, Serving.{Telling}}

module _ (told : Telling) (options : Options) (book : Book) (gone : Gone) (before : ℕ) (rest : List Said) where
  -- a line is not answered
  pub answer_stops : (fault : Fault) → StopsAtAnswer options book gone rest (AreToldAt told fault) → IsStop told options book gone before rest fault
  answer_stops (Read fault) stops = absurd stops.holds
  answer_stops fault stops = inl stops

  not_reading : (fault : ReadFault) (stops : StopsAtPart told options book gone before rest (Read fault))
      → IsPartFault told options book gone before (asked_in options.workers stops.next) (Read fault) → ⊥
  not_reading fault stops (inl why) = why.1
  not_reading fault stops (inr runs) = runs.holds

  -- a part is not served
  pub part_stops_all : (fault : Fault) → StopsAtPart told options book gone before rest fault → IsStop told options book gone before rest fault
  part_stops_all (Read fault) stops = absurd (not_reading fault stops stops.stops)
  part_stops_all fault stops = inr stops
