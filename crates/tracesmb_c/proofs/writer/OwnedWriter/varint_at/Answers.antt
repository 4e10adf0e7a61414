use Rattle.std.proofs.Common.{refl}
use Rattle.trace_model.specs.Calls as call
use Rattle.tracesmb_c.proofs.CallLemmas.{writes_field}
use Rattle.tracesmb_c.proofs.writer.OwnedWriter.varint_at.Goals as goal

pub varint-requires-clause-field : goal.varint-requires-clause-field
varint-requires-clause-field g c = (c.requires.field.least, c.requires.field.most)

pub returns-clause-writes : goal.returns-clause-writes
returns-clause-writes g c =
    writes_field c.drops_never_stall.ensures c.args.self.now c.varint.new.self (call.Number c.args.field c.args.value)
    c.varint.result c.requires.ready c.deref.ensures c.varint.ensures.call.1 refl c.varint.ensures.in_packet
