-- Each ledger is that of its blank.
use Rattle.thread_host.proofs.writing.writer_job.Given as goal

abbrev pub ghosts-play_all : goal.ghosts-play_all
ghosts-play_all g a = record { name = a.blank.name; parts = a.blank.parts }

abbrev pub ghosts-play_all-2 : goal.ghosts-play_all-2
ghosts-play_all-2 g a = record { name = a.blank.name; parts = a.blank.parts }

abbrev pub ghosts-play_helped : goal.ghosts-play_helped
ghosts-play_helped g a = record { name = a.steps.name; parts = a.steps.parts }
