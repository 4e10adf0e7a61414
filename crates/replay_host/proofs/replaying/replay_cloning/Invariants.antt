-- The ledger is that of the blank.
use Rattle.replay_host.proofs.replaying.replay_cloning.Given as goal

abbrev pub ghosts-play_made : goal.ghosts-play_made
ghosts-play_made g a = record { name = a.blank.name; parts = a.blank.parts }
