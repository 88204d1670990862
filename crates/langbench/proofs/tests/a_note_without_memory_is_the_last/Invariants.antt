use Rattle.langbench.proofs.tests.a_note_without_memory_is_the_last.Given as goal

abbrev pub ghosts-run_counted : goal.ghosts-run_counted
ghosts-run_counted g a = record { name = a.blank.name; parts = a.blank.parts }
