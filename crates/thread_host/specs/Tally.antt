-- What is kept of the answers to flush requests that the service has read.
use Rattle.std.specs.Prelude.{◌≡◌, ℕ, zero, suc, ◌^◌, ◌<◌, ◌≤◌, ◌==◌, Option, Some, None, List, [], ◌∷◌, length, vec_len, slice_index, if◌then◌else◌}
use Rattle.std.specs.Coded.{Coded-set, codes}
use Rattle.std.proofs.Props.{props}
use Rattle.trace_base.specs.declared.limits.TheConstants.{MAX_WRITERS}
use Rattle.chunk_plain.specs.Setup.{Setup}
use Rattle.chunk_plain.specs.Views.{At, Letter, Asked, Heard, ServiceView, asked_in}
use Rattle.chunk_words.specs.Knows.{Desk, Tale, later}
use Rattle.session_core.specs.declared.answers.Answer.{Answer}
use Rattle.session_core.specs.Sessions.{SessionValue, answer_at}
use Rattle.service_core.specs.declared.service.ServiceCore.{ServiceCore}
use Rattle.service_core.specs.Agreement.{is_closed}
use Rattle.run_model.specs.Answered.{chunks_to, sum_to}
use Rattle.thread_host.specs.declared.tally.Tally.{Tally}

-- the newest request to which an answer of the writer at this place was read, 0 without one
abbrev pub newest_read : (place : ℕ) → List Letter → ℕ
newest_read place [] = 0
newest_read place (Asked events ∷ letters) = newest_read place letters
newest_read place (Heard other flush chunks ∷ letters) = if other == place then later flush (newest_read place letters) else newest_read place letters

-- There is room for so many requests of so many writers. Of each request the sum is that of the answers that were read, and of each writer the
-- newest request that it answered is kept. Each answer names a number of 32 bits.
pub record IsTally (requests writers : ℕ) (letters : List Letter) (tally : Tally) : Type 0 where
  pub few : writers ≤ MAX_WRITERS
  pub rows : vec_len tally.sums ≡ requests
  pub many : vec_len tally.answered ≡ writers
  pub small : (n place flush chunks : ℕ) → At letters n (Heard place flush chunks) → chunks < 2 ^ 32
  pub sums : (k : ℕ) → k < requests → slice_index tally.sums.items k ≡ sum_to (suc k) writers letters
  pub answered : (place : ℕ) → place < writers → slice_index tally.answered.items place ≡ newest_read place letters

-- There is at most one proof of it.
pub tally_prop : (requests writers : ℕ) (letters : List Letter) (tally : Tally) → IsProp (IsTally requests writers letters tally)
tally_prop requests writers letters tally = Prim.hlevel props

-- ---- which answers a session keeps

-- an answer to this request, with the chunks in the first answer of the writer at this place to it or a later one, of those that were read; none to 0,
-- which no request has
abbrev pub answer_to : (flush place : ℕ) → List Letter → Option Answer
answer_to zero place letters = None
answer_to (suc number) place letters = Some (record { flush = suc number; chunks = chunks_to (suc number) place letters })

-- the newest answer that was read of the writer at this place: the first one to the newest request, None without one
abbrev pub answer_read : (place : ℕ) → List Letter → Option Answer
answer_read place letters = answer_to (newest_read place letters) place letters

-- The session has a place for each of so many writers, and keeps there just the newest answer that was read of the writer.
pub record KeepsAnswers (writers : ℕ) (letters : List Letter) (session : SessionValue) : Type 0 where
  pub room : writers ≤ length session.answers
  pub each : (place : ℕ) → place < writers → answer_at session place ≡ answer_read place letters

Answer-set : IsSet (Option Answer)
Answer-set = Coded-set (Prim.hlevel codes)

-- There is at most one proof of it.
pub answers_prop : (writers : ℕ) (letters : List Letter) (session : SessionValue) → IsProp (KeepsAnswers writers letters session)
answers_prop writers letters session = Prim.hlevel (props, Answer-set)

-- The answers of each writer were read in order: none is to an older request than one that was read of it before, and what was read to the same request
-- is the same.
abbrev pub AreHeardInOrder : List Letter → Type 0
AreHeardInOrder letters =
    (n m place flush chunks number many : ℕ) → n < m → At letters n (Heard place flush chunks) → At letters m (Heard place number many)
    → 0 < flush → (flush ≤ number) × (flush ≡ number → chunks ≡ many)

-- ---- what the reading of answers leaves of a service

-- of a session nothing changed but which answers it keeps; these are told by what was read (`KeepsAnswers`)
pub record KeepsSession (old new : SessionValue) : Type 0 where
  pub state : new.state ≡ old.state
  pub writers : new.writers ≡ old.writers
  pub requests : new.requests ≡ old.requests

-- what no call changes while threads run, and which sequences are closed
pub record KeepsServing {S : Type 0} (setup : Setup) (old new : ServiceCore S) : Type 0 where
  pub layout : new.layout ≡ old.layout
  pub specs : new.specs.items ≡ old.specs.items
  pub writers : new.writers.items ≡ old.writers.items
  pub session : KeepsSession old.session new.session
  pub closed : (place : ℕ) → place < length setup.writers → is_closed setup new place ≡ is_closed setup old place

-- An answer of the writer at this place was read: to a request that was made, and to none older than the writer told of.
pub record HearsOf (view : ServiceView) (desk : Desk) (place : ℕ) : Type 0 where
  pub number : ℕ
  pub flush : ℕ
  pub chunks : ℕ
  pub there : At view.letters number (Heard place flush chunks)
  pub made : flush ≤ asked_in view.letters
  pub told : (i : ℕ) (tale : Tale) → At desk.told i tale → tale.place ≡ place → tale.flush ≤ flush
