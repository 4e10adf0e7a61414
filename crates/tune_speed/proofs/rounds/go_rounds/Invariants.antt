use Rattle.tune_speed.proofs.rounds.go_rounds.Given as goal

abbrev pub ghosts-go : goal.ghosts-go
ghosts-go a = record { name = a.blank.name; parts = a.blank.parts }
