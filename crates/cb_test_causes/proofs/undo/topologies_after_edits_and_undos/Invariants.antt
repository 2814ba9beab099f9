use Rattle.cb_test_causes.proofs.undo.topologies_after_edits_and_undos.Given as goal

abbrev pub ghosts-run_case : goal.ghosts-run_case
ghosts-run_case g a = record { name = a.blank.name; parts = a.blank.parts }
