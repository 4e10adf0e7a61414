use Rattle.layout_tuner.proofs.steps.make_or.Given as goal

-- the step is the one that the call names
abbrev pub ghosts-or_for : goal.ghosts-or_for
ghosts-or_for a = record { step = a.step.now }
