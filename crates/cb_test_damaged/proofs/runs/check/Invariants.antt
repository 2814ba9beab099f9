use Rattle.cb_test_damaged.proofs.runs.check.Given as goal

abbrev pub ghosts-ran : goal.ghosts-ran
ghosts-ran g a = record { name = a.blank.name; parts = a.blank.parts }
