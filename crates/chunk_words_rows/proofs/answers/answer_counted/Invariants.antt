use Rattle.chunk_words_rows.proofs.answers.answer_counted.Given as goal

abbrev pub ghosts-answer_all : goal.ghosts-answer_all
ghosts-answer_all a = record { name = a.blank.name; parts = a.blank.parts }
