-- What the seats of a table that threads share have between two calls.
use Rattle.std.specs.Prelude.{◌≡◌, ℕ, Option, [], ◌∷◌, length}
use Rattle.commit_body.specs.declared.body.CommitBody.{CommitBody}
use Rattle.chunk_plain.specs.Setup.{Setup}
use Rattle.chunk_plain.specs.Words.{IsAtRest, IsServing}
use Rattle.chunk_words.specs.Knows.{Writer, Service, hand_with, hand_of, view_of, service_of, watch_of, made_of, desk_of, joined_of, passed_of, Pass}
use Rattle.chunk_words.specs.Moves.{Mine, IsSeen}

-- the seat of the writer at this place has no slot out
abbrev pub IsIdle : ℕ → Mine → Type 0
IsIdle place me = me ≡ (Writer place 0 (view_of me.0), [])

-- the slot of a chunk is out with it, with this in it
abbrev pub HasOut : ℕ → ℕ → Option CommitBody → Mine → Type 0
HasOut place chunk body me = me ≡ (Writer place (hand_with chunk) (view_of me.0), (chunk, body) ∷ [])

-- the service's seat has no slot out
abbrev pub IsServiceIdle : Mine → Type 0
IsServiceIdle me = me ≡ (Service 0 (made_of me.0) (desk_of me.0) (watch_of me.0) (service_of me.0), [])

-- the slot of a chunk is out with it, with this in it
abbrev pub HasLifted : ℕ → Option CommitBody → Mine → Type 0
HasLifted chunk body me = me ≡ (Service (hand_with chunk) (made_of me.0) (desk_of me.0) (watch_of me.0) (service_of me.0), (chunk, body) ∷ [])

-- the seat is the service's
abbrev pub IsService : Mine → Type 0
IsService me = me ≡ (Service (hand_of me.0) (made_of me.0) (desk_of me.0) (watch_of me.0) (service_of me.0), me.1)

-- The seat of the writer at this place is between two calls.
pub record Rests (setup : Setup) (place : ℕ) (me : Mine) : Type 0 where
  pub idle : IsIdle place me
  pub rests : IsAtRest setup place (view_of me.0)

-- The service's seat is between two calls. It may watch anything.
pub record Waits (setup : Setup) (me : Mine) : Type 0 where
  pub idle : IsServiceIdle me
  pub serving : IsServing setup (service_of me.0)
  pub seen : IsSeen (service_of me.0)
  -- each writer has its seat
  pub all_made : made_of me.0 ≡ length setup.writers
  pub none_joined : joined_of me.0 ≡ []

-- the seat is the reading pass's
abbrev pub IsPass : Mine → Type 0
IsPass me = me ≡ (Pass (passed_of me.0), [])
