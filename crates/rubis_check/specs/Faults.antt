-- The exit statuses of faults and of what is found, and the words of faults.
use Rattle.std.specs.Prelude.{ℕ, List, Option, None}
use Rattle.history_check.specs.declared.lines.{CheckFault.{CheckFault}, Verdict.{Verdict}}
use Rattle.history_check.specs.declared.lines.Verdict.TheVariants.{Replays, WrongAt, Lacks}
use Rattle.history_check.specs.declared.lines.Wrong.{Wrong}
use Rattle.history_check.specs.declared.lines.Wrong.TheVariants.{Unreadable, NoRequest, Again, Late, Due}
use Rattle.history_check.specs.declared.lines.CheckFault.TheVariants as checking
use Rattle.program_options.specs.Words.{usage_words}
use Rattle.rubis_check.specs.declared.faults.Fault.{Fault}
use Rattle.rubis_check.specs.declared.faults.Fault.TheVariants.{Usage, Read, Resume, Check, History, Write}

abbrev pub check_status : CheckFault → ℕ
check_status checking.TooLong = 3
check_status (checking.Read why) = 2
check_status checking.Memory = 3

abbrev pub status : Fault → ℕ
status (Usage fault) = 1
status (Read fault) = 2
status (Resume fault) = 3
status (Check fault) = check_status fault
status (History name why) = 2
status (Write fault) = 4

abbrev pub wrong_status : Wrong → ℕ
wrong_status Unreadable = 8
wrong_status NoRequest = 6
wrong_status Again = 6
wrong_status Late = 7
wrong_status (Due reply) = 5

abbrev pub verdict_status : Verdict → ℕ
verdict_status Replays = 0
verdict_status (WrongAt number why) = wrong_status why
verdict_status (Lacks worker index) = 6

-- the words of the parser of options, where it refused the program's
abbrev pub parser_words : Fault → Option (List ℕ)
parser_words (Usage fault) = usage_words fault
parser_words (Read fault) = None
parser_words (Resume fault) = None
parser_words (Check fault) = None
parser_words (History name why) = None
parser_words (Write fault) = None
