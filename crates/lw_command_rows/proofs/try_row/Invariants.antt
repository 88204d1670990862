use Rattle.lw_command_rows.proofs.try_row.Given as goal

abbrev pub ghosts-run_row : goal.ghosts-run_row
ghosts-run_row a = record { name = a.blank.name; parts = a.blank.parts }
