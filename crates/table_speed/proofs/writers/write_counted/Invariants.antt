use Rattle.table_speed.proofs.writers.write_counted.Given as goal

abbrev pub ghosts-write_packets : goal.ghosts-write_packets
ghosts-write_packets a = record { name = a.blank.name; parts = a.blank.parts }
