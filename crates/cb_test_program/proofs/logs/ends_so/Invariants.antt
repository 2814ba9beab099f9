use Rattle.cb_test_program.proofs.logs.ends_so.Given as goal

abbrev pub ghosts-ends : goal.ghosts-ends
ghosts-ends g a = record { name = a.blank.name; parts = a.blank.parts }
