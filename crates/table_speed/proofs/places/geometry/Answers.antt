use Rattle.table_speed.proofs.TimedLemmas.{room_of}
use Rattle.table_speed.proofs.places.geometry.Goals as goal

pub returns-clause-size : goal.returns-clause-size
returns-clause-size c = room_of c.in-Ok.geometry c.in-Ok.ensures.page_size c.in-Ok.ensures.chunks
