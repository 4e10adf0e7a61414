-- A session, and what its calls leave. After Perfetto's "Life of a tracing session"; that flush requests are numbered, and that a writer's
-- answer names its completed chunks, is this project's profile.
use Rattle.std.specs.Prelude.{◌≡◌, ℕ, ◌+◌, ◌<◌, ◌≤◌, Bool, true, false, ◌&&◌, nat_lt, nat_le, List, replicate, slice_set, slice_index_or, Option, Some, None, if◌then◌else◌}
use Rattle.trace_base.specs.declared.limits.TheConstants.{MAX_WRITERS}
use Rattle.session_core.specs.declared.answers.Answer.{Answer}
use Rattle.session_core.specs.declared.answers.SessionState.{SessionState}
use Rattle.session_core.specs.declared.answers.SessionState.TheVariants.{Idle, Configured}
use Rattle.session_core.specs.declared.answers.SessionFault.{SessionFault}
use Rattle.session_core.specs.declared.answers.SessionFault.TheVariants.{NoSuchFlush}
use Rattle.session_core.specs.States.{Acknowledge, refusal_in}

-- a session as its callers see it
pub record SessionValue : Type 0 where
  pub state : SessionState
  -- how many writers are configured
  pub writers : ℕ
  -- how many flush requests were made: they have the numbers from 1 on
  pub requests : ℕ
  -- in a place for each writer that there may be: the answer that is kept of it
  pub answers : List (Option Answer)

-- a session as it is made
abbrev pub new_session : SessionValue
new_session = record { state = Idle; writers = 0; requests = 0; answers = replicate MAX_WRITERS None }

-- what a call leaves that is refused so, or not at all
abbrev pub left_as : Option SessionFault → SessionValue → SessionValue → SessionValue
left_as None old new = new
left_as (Some fault) old new = old

-- the session in another state
abbrev pub moved : SessionState → SessionValue → SessionValue
moved state session = record session { state = state }

-- the session with so many writers
abbrev pub configured : ℕ → SessionValue → SessionValue
configured writers session = record session { state = Configured; writers = writers }

-- one request more
abbrev pub requested : SessionValue → SessionValue
requested session = record session { requests = session.requests + 1 }

-- a request with this number was made
abbrev pub has_request : SessionValue → ℕ → Bool
has_request session flush = nat_lt 0 flush && nat_le flush session.requests

-- why an answer is refused: by the state, and then by the number of its request
abbrev pub refusal_or : Option SessionFault → Bool → ℕ → Option SessionFault
refusal_or (Some fault) known flush = Some fault
refusal_or None true flush = None
refusal_or None false flush = Some (NoSuchFlush flush)

-- why an answer to a request is refused: the state first, then that there is no such request
abbrev pub acknowledge_refusal : SessionValue → ℕ → Option SessionFault
acknowledge_refusal session flush = refusal_or (refusal_in Acknowledge session.state) (has_request session flush) flush

-- of two answers of a writer that to the greater number is kept, and of equal ones the first
abbrev pub kept : Option Answer → Answer → Option Answer
kept None answer = Some answer
kept (Some before) answer = if nat_lt before.flush answer.flush then Some answer else Some before

-- the answer that is kept of the writer at this place
abbrev pub answer_at : SessionValue → ℕ → Option Answer
answer_at session place = slice_index_or session.answers place None

-- the session with an answer of the writer at this place, where it is one to keep
abbrev pub with_answer : SessionValue → ℕ → Answer → SessionValue
with_answer session place answer = record session { answers = slice_set session.answers place (kept (answer_at session place) answer) }

-- the answer is one to this request or a later one, and as many chunks were taken as it names
abbrev pub HasAnswered : Option Answer → (flush taken : ℕ) → Type 0
HasAnswered None flush taken = ⊥
HasAnswered (Some answer) flush taken = (flush ≤ answer.flush) × (answer.chunks ≤ taken)

-- A request is answered: by each writer whose producer isn't closed, of which so many chunks were taken.
abbrev pub IsAnswered : SessionValue → (flush : ℕ) → (taken : List ℕ) → (closed : List Bool) → Type 0
IsAnswered session flush taken closed = (place : ℕ) → place < session.writers → slice_index_or closed place false ≡ false
    → HasAnswered (answer_at session place) flush (slice_index_or taken place 0)
