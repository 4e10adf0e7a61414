use Rattle.trace_base.specs.Ids.{position_of}
use Rattle.trace_buffer.specs.Calls.{from_in}
use Rattle.trace_buffer.proofs.ReadyLemmas.{after_image, open_after_image}
use Rattle.buffer_speed.proofs.arrivals.keeps.Goals as goal

pub returns-clause-takes : goal.returns-clause-takes
returns-clause-takes c =
    after_image c.args.buffer.now c.arrive.new.self 2 (position_of (from_in c.args.buffer.now 2) c.args.chunk_id) 0 _ c.arrive.ensures.after 304 2 c.requires.takes

pub returns-clause-open : goal.returns-clause-open
returns-clause-open c =
    open_after_image c.args.buffer.now c.arrive.new.self 2 (position_of (from_in c.args.buffer.now 2) c.args.chunk_id) 0 _ 2 c.arrive.ensures.after c.requires.takes.known c.requires.open
