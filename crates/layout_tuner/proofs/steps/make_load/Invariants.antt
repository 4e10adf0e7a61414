use Rattle.layout_tuner.proofs.steps.make_load.Given as goal

-- the step is the one that the call names
abbrev pub ghosts-load_for : goal.ghosts-load_for
ghosts-load_for a = record { step = a.step.now }
