use Rattle.cb_test_causes.proofs.chains.chains_over_a_diamond_and_a_cycle.Given as goal

abbrev pub ghosts-explain_cases : goal.ghosts-explain_cases
ghosts-explain_cases g a = record { name = a.blank.name; parts = a.blank.parts }
