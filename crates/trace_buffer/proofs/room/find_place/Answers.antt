use Rattle.std.proofs.Common.{◌∙◌}
use Rattle.trace_buffer.specs.Records.{is_at_key}
use Rattle.trace_buffer.proofs.FindLemmas.{at_place}
use Rattle.trace_buffer.proofs.room.find_place.Goals as goal

pub returns-clause-there : goal.returns-clause-there
returns-clause-there c =
    at_place (is_at_key c.args.sequence c.args.chunk_id) c.args.ring.now c.find.result c.requires.indexed.places_once
    (c.find.ensures ∙ c.requires.indexed.found c.args.sequence c.args.chunk_id c.ranges.sequence.fits c.ranges.chunk_id.fits)
