-- What the fields of a session mean.
use Rattle.std.specs.Prelude.{◌≡◌, ◌≤◌, length}
use Rattle.trace_base.specs.declared.limits.TheConstants.{MAX_WRITERS}
use Rattle.session_core.specs.Sessions.{SessionValue}
use Rattle.session_core.specs.declared.session.Session.TheInside.{Inside}

-- a session as its callers see it
abbrev pub session_view : Inside → SessionValue
session_view a = record { state = a.state; writers = a.writers; requests = a.requests; answers = a.answers }

-- the fields of a session hold together
pub record IsSession (a : Inside) : Type 0 where
  pub few : a.writers ≤ MAX_WRITERS
  pub places : length a.answers ≡ MAX_WRITERS
