-- What the room took comes behind what was given.
use Rattle.tracesmb_c.proofs.SessionLemmas.{waits_on}
use Rattle.tracesmb_c.proofs.ReadLemmas.{given_more}
use Rattle.tracesmb_c.proofs.session.OwnedSession.read.Goals as goal

pub returns-clause-session : goal.returns-clause-session
returns-clause-session c = waits_on c.fill_where_done.new.self c.hand_out.new.self c.fill_where_done.ensures.session

pub returns-clause-given : goal.returns-clause-given
returns-clause-given c bytes given =
    given_more c.fill_where_done.new.self c.hand_out.new.self bytes _ c.if-self-2.false c.hand_out.ensures.given
    (c.fill_where_done.ensures.given bytes given)
