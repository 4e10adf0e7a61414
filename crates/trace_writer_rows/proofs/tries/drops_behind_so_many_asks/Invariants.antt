use Rattle.trace_writer_rows.proofs.tries.drops_behind_so_many_asks.Given as goal

abbrev pub ghosts-tried : goal.ghosts-tried
ghosts-tried g a = record { name = a.blank.name; parts = a.blank.parts }
