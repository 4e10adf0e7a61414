use Rattle.trace_writer_rows.proofs.images.completes_what_was_written.Given as goal

abbrev pub ghosts-packets : goal.ghosts-packets
ghosts-packets g a = record { name = a.blank.name; parts = a.blank.parts }
