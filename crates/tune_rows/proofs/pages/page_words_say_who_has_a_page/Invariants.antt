use Rattle.tune_rows.proofs.pages.page_words_say_who_has_a_page.Given as goal

abbrev pub ghosts-found : goal.ghosts-found
ghosts-found g a = record { name = a.blank.name; parts = a.blank.parts }
