use Rattle.example_bank.proofs.watching.watch_history.Given as goal

-- the list that was just made, and the table before the first part
abbrev pub ghosts-publish : goal.ghosts-publish
ghosts-publish g a = record { log = a.log; opened = a.opening.table.items }
