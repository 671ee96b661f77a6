-- The exit statuses of faults, and their words.
use Rattle.std.specs.Prelude.{ℕ, List, Option, None}
use Rattle.part_log.specs.declared.log.TellFault.{TellFault}
use Rattle.part_log.specs.declared.log.TellFault.TheVariants as telling
use Rattle.program_options.specs.Words.{usage_words}
use Rattle.program_opening.specs.declared.faults.Fault.{Fault}
use Rattle.program_opening.specs.declared.faults.Fault.TheVariants.{Usage, Read, Resume, Row, Make, Run, Limit, Write, Report, OpenLog, Log}

abbrev pub status : Fault → ℕ
status (Usage fault) = 1
status (Read fault) = 2
status (Resume fault) = 3
status (Row number fault) = 3
status (Make fault) = 3
status (Run fault) = 3
status (Limit most) = 3
status (Write fault) = 4
status Report = 1
status (OpenLog fault) = 5
status (Log fault) = 5

-- the words of the parser of options, if it refused the program's
abbrev pub parser_words : Fault → Option (List ℕ)
parser_words (Usage fault) = usage_words fault
parser_words (Read fault) = None
parser_words (Resume fault) = None
parser_words (Row number fault) = None
parser_words (Make fault) = None
parser_words (Run fault) = None
parser_words (Limit most) = None
parser_words (Write fault) = None
parser_words Report = None
parser_words (OpenLog fault) = None
parser_words (Log fault) = None

-- the fault of a part that was not told
abbrev pub of_telling : TellFault → Fault
of_telling (telling.Log fault) = Log fault
of_telling (telling.Write fault) = Write fault
