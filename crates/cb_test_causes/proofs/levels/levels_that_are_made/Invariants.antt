use Rattle.cb_test_causes.proofs.levels.levels_that_are_made.Given as goal

abbrev pub ghosts-make_and_check : goal.ghosts-make_and_check
ghosts-make_and_check g a = record { name = a.blank.name; parts = a.blank.parts }
