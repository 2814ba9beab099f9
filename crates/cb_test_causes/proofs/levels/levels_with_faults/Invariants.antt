use Rattle.cb_test_causes.proofs.levels.levels_with_faults.Given as goal

abbrev pub ghosts-check_case : goal.ghosts-check_case
ghosts-check_case g a = record { name = a.blank.name; parts = a.blank.parts }
