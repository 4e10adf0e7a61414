-- One field is noted or refused.
use Rattle.std.proofs.Common.{length}
use Rattle.trace_model.specs.Calls as call
use Rattle.trace_model.specs.Encoding.{number_field}
use Rattle.trace_writer.specs.Core.{field_fault}
use Rattle.tracesmb_c.specs.Lending.{view_of}
use Rattle.tracesmb_c.proofs.EventLemmas.{ok_one, err_one}
use Rattle.tracesmb_c.proofs.writer.OwnedWriter.event_number.Goals as goal

pub returns-clause-all : goal.returns-clause-all
returns-clause-all c = ok_one c.varint.result c.args.self.now c.varint.new.self
    (call.Number c.args.field c.args.value) c.varint.ensures.writes.notes

pub returns-clause-some : goal.returns-clause-some
returns-clause-some c =
    err_one c.varint.result c.args.self.now c.varint.new.self (call.Number c.args.field c.args.value)
    (field_fault (view_of c.args.self.now) c.args.field
    (length (number_field c.args.field c.args.value))) c.varint.ensures.writes.refused c.varint.ensures.writes.reason
    (λ fault is. (fault, is))

pub varint-requires-clause-field : goal.varint-requires-clause-field
varint-requires-clause-field c = record { least = c.requires.least; most = c.requires.most }
