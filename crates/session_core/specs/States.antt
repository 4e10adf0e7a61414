-- The states of a session: which calls each of them allows, and which state they lead to. After Perfetto's "Life of a tracing session"; the
-- states and the table are this project's profile.
use Rattle.std.specs.Prelude.{Option, Some, None, Result, Ok, Err}
use Rattle.session_core.specs.declared.answers.SessionState.{SessionState}
use Rattle.session_core.specs.declared.answers.SessionState.TheVariants.{Idle, Configured, Started, Stopped, Freed}
use Rattle.session_core.specs.declared.answers.SessionFault.{SessionFault}
use Rattle.session_core.specs.declared.answers.SessionFault.TheVariants.{WrongState}

-- the calls of a session, after the service model of Perfetto's consumers
pub data SessionCall : Type 0 where
  Configure : SessionCall
  Start : SessionCall
  Flush : SessionCall
  Acknowledge : SessionCall
  Stop : SessionCall
  Read : SessionCall
  Free : SessionCall

-- the state behind a call, in each state that allows it
abbrev pub state_behind : SessionCall → SessionState → Option SessionState
state_behind Configure Idle = Some Configured
state_behind Start Configured = Some Started
state_behind Flush Started = Some Started
state_behind Acknowledge Started = Some Started
state_behind Stop Started = Some Stopped
state_behind Read Started = Some Started
state_behind Read Stopped = Some Stopped
state_behind Free Configured = Some Freed
state_behind Free Started = Some Freed
state_behind Free Stopped = Some Freed
state_behind _ _ = None

-- why a call is refused, if it is
abbrev pub refusal_where : SessionState → Option SessionState → Option SessionFault
refusal_where state None = Some (WrongState state)
refusal_where state (Some next) = None

-- why a call is refused in a state; None where it is allowed
abbrev pub refusal_in : SessionCall → SessionState → Option SessionFault
refusal_in call state = refusal_where state (state_behind call state)

-- what a call answers that is refused so, or not at all
abbrev pub answered_as : {T : Type 0} → Option SessionFault → T → Result T SessionFault
answered_as None value = Ok value
answered_as (Some fault) value = Err fault
