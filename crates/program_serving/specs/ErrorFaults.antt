-- Which faults of lines are told apart from the replies.
use Rattle.std.specs.Prelude.{ℕ, ◌≡◌, ◌++◌, ◌||◌, List, [], ◌∷◌, Option, None, Some, flat_map, if◌then◌else◌}
use Rattle.auction_text.specs.{ReadFault.{ReadFault}, Said.{Said}}
use Rattle.auction_text.specs.Said.TheVariants as says
use Rattle.program_opening.specs.declared.options.Options.{Options}
use Rattle.program_serving.specs.declared.fault_lines.Turned.{TheVariants.{Line, Past}, Turned}
use Rattle.program_serving.specs.declared.fault_lines.TurnedLine.{TurnedLine}

-- these faults were told behind those before, if they are known
abbrev pub AddsTold : Option (List ReadFault) → Option (List ReadFault) → List ReadFault → Type 0
AddsTold None after more = Unit {0}
AddsTold (Some before) after more = after ≡ Some (before ++ more)

-- the fault of a line, if it has no answer: it names no worker, or no replies are asked for
abbrev pub unanswered_fault : Options → Option ℕ → ReadFault → List ReadFault
unanswered_fault options None fault = fault ∷ []
unanswered_fault options (Some worker) fault =
    if options.rows || options.history then fault ∷ [] else []

-- the faults that are told of a line that is turned away
abbrev pub faults_if : Options → Option ℕ → Turned → List ReadFault
faults_if options worker (Line fault) = unanswered_fault options worker fault
faults_if options worker (Past limit) = []

abbrev pub turned_faults : Options → TurnedLine → List ReadFault
turned_faults options line = faults_if options line.worker line.turned

-- the fault of what a line says, if it has one and no answer
abbrev pub line_faults : Options → Said → List ReadFault
line_faults options (says.Fault met) = unanswered_fault options met.worker met.fault
line_faults options (says.Record one) = []

-- the faults of lines that have no answer
abbrev pub unanswered : Options → List Said → List ReadFault
unanswered options = flat_map (line_faults options)
