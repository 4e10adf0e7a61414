use Rattle.trace_writer_rows.proofs.stalls.stalls_for_ever.Given as goal

abbrev pub ghosts-stalled : goal.ghosts-stalled
ghosts-stalled g a = record { name = a.blank.name; parts = a.blank.parts }
