use Rattle.std.proofs.Common.{[]}
use Rattle.engine_tests.proofs.view_tests.windows_show_whole_phases_and_never_go_back.Given as goal

-- the list that was just made, and an auction without rows
abbrev pub ghosts-show_commits : goal.ghosts-show_commits
ghosts-show_commits g a = record { log = a.log; opening = record { users = 10; categories = 2 }; rows = [] }
