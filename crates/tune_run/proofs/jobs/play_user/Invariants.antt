use Rattle.tune_run.proofs.jobs.play_user.Given as goal

abbrev pub ghosts-counted_turns : goal.ghosts-counted_turns
ghosts-counted_turns t a = record { name = a.blank.name; parts = a.blank.parts }
