use Rattle.trace_writer_rows.proofs.packets.refuses_calls.Given as goal

abbrev pub ghosts-refused : goal.ghosts-refused
ghosts-refused g a = record { name = a.blank.name; parts = a.blank.parts }
