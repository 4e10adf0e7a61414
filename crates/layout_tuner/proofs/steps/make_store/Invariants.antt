use Rattle.layout_tuner.proofs.steps.make_store.Given as goal

-- the step is the one that the call names
abbrev pub ghosts-store_for : goal.ghosts-store_for
ghosts-store_for a = record { step = a.step.now }
