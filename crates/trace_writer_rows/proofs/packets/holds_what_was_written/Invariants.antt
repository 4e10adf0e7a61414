use Rattle.trace_writer_rows.proofs.packets.holds_what_was_written.Given as goal

abbrev pub ghosts-packets : goal.ghosts-packets
ghosts-packets g a = record { name = a.blank.name; parts = a.blank.parts }
