-- What a flush request does to what the service and the reading pass know.
use Rattle.std.specs.Prelude.{◌≡◌, ℕ, ◌≤◌, [], Option, Some, None, Result}
use Rattle.session_core.specs.declared.answers.SessionFault.{SessionFault}
use Rattle.session_core.specs.States.{Flush, refusal_in, answered_as}
use Rattle.session_core.specs.Sessions.{SessionValue, left_as, requested}
use Rattle.chunk_plain.specs.Letters.{requests, hears_answer}
use Rattle.chunk_plain.specs.Views.{At, ServiceView}
use Rattle.chunk_words.specs.declared.host.HostTable.{HostTable}
use Rattle.chunk_words.specs.declared.seats.ReadPass.{ReadPass}
use Rattle.chunk_words.specs.GoesOn.{GoesOn}
use Rattle.chunk_words.specs.Knows.{Tale}
use Rattle.chunk_words.specs.Moves.{IsLastAnswer, IsNoOlder}
use Rattle.chunk_words.specs.Sits.{setup_in, known_by_pass}
use Rattle.thread_service.specs.declared.service.Service.{Service}
use Rattle.thread_service.specs.Serving.{core_of, view_in, desk_in}
use Rattle.thread_service.specs.Reading.{PassReads}

-- the service knows of one request more, where it isn't refused
abbrev pub Requests : Option SessionFault → ServiceView → ServiceView → Type 0
Requests None old new = new ≡ requests old
Requests (Some fault) old new = new ≡ old

-- and the pass knows all that the service knows then, or what it knew
abbrev pub PassRequests : Option SessionFault → (passed behind new : ServiceView) → Type 0
PassRequests None passed behind new = behind ≡ new
PassRequests (Some fault) passed behind new = behind ≡ passed

-- The session makes a flush request and answers its number, which is this one, or refuses it.
pub record MakesRequest (old new : SessionValue) (number : ℕ) (result : Result ℕ SessionFault) : Type 0 where
  pub answer : result ≡ answered_as (refusal_in Flush old.state) number
  pub after : new ≡ left_as (refusal_in Flush old.state) old (requested old)

-- A request is made with the pass, or refused: it comes behind all that the pass knew, and behind no read besides; and the pass knows of it.
pub record PassesRequest (table : HostTable) (old new : Service) (before after : ReadPass) : Type 0 where
  pub goes_on : GoesOn (known_by_pass before) (view_in old)
  pub view : Requests (refusal_in Flush (core_of old).session.state) (view_in old) (view_in new)
  pub knows : PassRequests (refusal_in Flush (core_of old).session.state) (known_by_pass before) (known_by_pass after) (view_in new)
  pub passes : PassReads (setup_in table) (core_of old) [] (known_by_pass before) (known_by_pass after)

-- The last answer of the writer at this place was read: to this request, with so many chunks, both 0 where none was given. It is to no older
-- request than the writer told of or than was read of it before, and what was read to the same request is the same.
pub record HearsAnswer (place flush chunks : ℕ) (old new : Service) : Type 0 where
  pub view : view_in new ≡ hears_answer (view_in old) place flush chunks
  pub asked : flush ≤ (core_of old).session.requests
  pub told : (i : ℕ) (tale : Tale) → At (desk_in old).told i tale → tale.place ≡ place → tale.flush ≤ flush
  pub none : flush ≡ 0 → chunks ≡ 0
  pub last : IsLastAnswer (view_in new) place flush chunks
  pub heard : IsNoOlder (view_in old) place flush chunks
