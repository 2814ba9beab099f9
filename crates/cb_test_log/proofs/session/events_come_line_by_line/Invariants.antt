use Rattle.cb_test_log.proofs.session.events_come_line_by_line.Given as goal

abbrev pub ghosts-ran : goal.ghosts-ran
ghosts-ran g a = record { name = a.blank.name; parts = a.blank.parts }
