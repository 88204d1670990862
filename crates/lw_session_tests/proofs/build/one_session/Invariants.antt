use Rattle.lw_session_tests.proofs.build.one_session.Given as goal

abbrev pub ghosts-session : goal.ghosts-session
ghosts-session g a = record { name = a.blank.name; parts = a.blank.parts }
