use Rattle.cb_test_base.proofs.steps.two_steps_are_counted.Given as goal

abbrev pub ghosts-count_after_two : goal.ghosts-count_after_two
ghosts-count_after_two g a = record { name = a.blank.name; parts = a.blank.parts }
