use Rattle.trace_writer_rows.proofs.stalls.goes_on_where_chunks_are_freed.Given as goal

abbrev pub ghosts-helped : goal.ghosts-helped
ghosts-helped g a = record { name = a.blank.name; parts = a.blank.parts }
