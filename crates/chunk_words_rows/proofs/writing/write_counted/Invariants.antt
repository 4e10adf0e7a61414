use Rattle.chunk_words_rows.proofs.writing.write_counted.Given as goal

abbrev pub ghosts-write_packets : goal.ghosts-write_packets
ghosts-write_packets a = record { name = a.blank.name; parts = a.blank.parts }
