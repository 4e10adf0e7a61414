use Rattle.layout_tuner.proofs.steps.make_and.Given as goal

-- the step is the one that the call names
abbrev pub ghosts-and_for : goal.ghosts-and_for
ghosts-and_for a = record { step = a.step.now }
