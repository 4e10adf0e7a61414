use Rattle.std.proofs.Common.{refl}
use Rattle.trace_model.specs.Calls as call
use Rattle.tracesmb_c.proofs.CallLemmas.{writes_field}
use Rattle.tracesmb_c.proofs.writer.OwnedWriter.begin_nested_at.Goals as goal

pub begin_nested-requires-clause-field : goal.begin_nested-requires-clause-field
begin_nested-requires-clause-field g c = (c.requires.field.least, c.requires.field.most)

pub returns : goal.returns
returns g c =
    writes_field c.drops_never_stall.ensures c.args.self.now c.begin_nested.new.self (call.Nested c.args.field)
    c.begin_nested.result c.requires.ready c.deref.ensures c.begin_nested.ensures.call.1 refl c.begin_nested.ensures.in_packet
