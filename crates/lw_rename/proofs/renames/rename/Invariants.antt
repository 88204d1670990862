use Rattle.lw_rename.proofs.renames.rename.Given as goal

abbrev pub ghosts-stands_nothing_against : goal.ghosts-stands_nothing_against
ghosts-stands_nothing_against a = record { name = a.blank.name; parts = a.blank.parts }
