-- What the service of a session takes.
use Rattle.std.specs.Prelude.{◌≡◌, ℕ, ◌≤◌, Bool, true, false}
use Rattle.chunk_words.specs.Sits.{setup_in}
use Rattle.service_core.specs.Scraping.{TakesAndScrapes}
use Rattle.service_core.specs.Taking.{Takes, places_of}
use Rattle.tracesmb_c.specs.declared.session.OwnedSession.{OwnedSession}
use Rattle.tracesmb_c.specs.Sessions.{session_table, known_in}

-- the session goes on, and has a producer with this number, from 1
pub record MayCollect (producer : ℕ) (session : OwnedSession) : Type 0 where
  pub goes : session.stopped ≡ false
  pub least : 1 ≤ producer
  pub most : producer ≤ session.producers

-- So many chunks were taken: those that the producer's writers completed, and with `held` also the finished fragments of what they
-- hold.
abbrev pub TakesOrScrapes : (held : Bool) → (producer taken : ℕ) → OwnedSession → OwnedSession → Type 0
TakesOrScrapes false producer taken old new =
    Takes (setup_in (session_table old)) (places_of producer 0 (setup_in (session_table old)).writers) taken (known_in old) (known_in new)
TakesOrScrapes true producer taken old new = TakesAndScrapes (setup_in (session_table old)) producer taken (known_in old) (known_in new)
