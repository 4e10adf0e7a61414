-- One field is noted or refused.
use Rattle.trace_model.specs.Calls as call
use Rattle.trace_writer.specs.Core.{nested_fault}
use Rattle.tracesmb_c.specs.Lending.{view_of}
use Rattle.tracesmb_c.proofs.EventLemmas.{ok_one, err_one}
use Rattle.tracesmb_c.proofs.writer.OwnedWriter.event_nested.Goals as goal

pub returns-clause-all : goal.returns-clause-all
returns-clause-all c = ok_one c.begin_nested.result c.args.self.now c.begin_nested.new.self
    (call.Nested c.args.field) c.begin_nested.ensures.notes

pub returns-clause-some : goal.returns-clause-some
returns-clause-some c =
    err_one c.begin_nested.result c.args.self.now c.begin_nested.new.self (call.Nested c.args.field)
    (nested_fault (view_of c.args.self.now) c.args.field) c.begin_nested.ensures.refused c.begin_nested.ensures.reason
    (λ fault is. (fault, is))

pub begin_nested-requires-clause-field : goal.begin_nested-requires-clause-field
begin_nested-requires-clause-field c = record { least = c.requires.least; most = c.requires.most }
