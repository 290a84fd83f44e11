use Rattle.order_conflicts.proofs.without.has_cycle_without.Given as goal

abbrev pub ghosts-find_return : goal.ghosts-find_return
ghosts-find_return a = record { name = a.blank.name; parts = a.blank.parts }
