use Rattle.std.proofs.Common.{refl}
use Rattle.trace_model.specs.Calls as call
use Rattle.tracesmb_c.proofs.CallLemmas.{writes_field}
use Rattle.tracesmb_c.proofs.writer.OwnedWriter.bytes_at.Goals as goal

pub bytes-requires-clause-field : goal.bytes-requires-clause-field
bytes-requires-clause-field g c = (c.requires.field.least, c.requires.field.most)

pub returns-clause-writes : goal.returns-clause-writes
returns-clause-writes g c =
    writes_field c.drops_never_stall.ensures c.args.self.now c.bytes.new.self (call.Bytes c.args.field c.args.value.now 1)
    c.bytes.result c.requires.ready c.deref.ensures c.bytes.ensures.call.1 refl c.bytes.ensures.in_packet
