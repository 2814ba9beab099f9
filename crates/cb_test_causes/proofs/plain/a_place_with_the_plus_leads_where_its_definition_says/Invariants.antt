use Rattle.cb_test_causes.proofs.plain.a_place_with_the_plus_leads_where_its_definition_says.Given as goal

abbrev pub ghosts-is_right : goal.ghosts-is_right
ghosts-is_right g a = record { name = a.blank.name; parts = a.blank.parts }
