-- A handle of a session, while the session is lent out of it.
use Rattle.std.specs.Prelude.{Some}
use Rattle.std.specs.Borrow.{MutBor, Lends}
use Rattle.tracesmb_c.specs.contracts.session.OwnedSession.{the_row as inner_row}
use Rattle.tracesmb_c.specs.contracts.session_handle.RawSession.{the_row as raw_row}
use base.Fml.{Fml}

-- the handle with this session in it
abbrev pub with_session : raw_row.Denot → inner_row.Denot → raw_row.Denot
with_session raw session = record raw { value = Some session }

-- the handle has what the borrow of its session leaves
abbrev pub raw_follows : MutBor raw_row.Denot → MutBor inner_row.Denot → Fml
raw_follows raw session = Lends raw_row inner_row raw session (with_session raw.now)
