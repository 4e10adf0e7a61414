-- The head, and then the rest.
use Rattle.std.proofs.Common.{◌++◌}
use Rattle.tracesmb_c.specs.Eventing.{head_calls, name_calls, value_calls}
use Rattle.tracesmb_c.proofs.CallLemmas.{if_ok_map}
use Rattle.tracesmb_c.proofs.EventLemmas.{notes_both, refuses_later, refuses_before, on_err_map, on_err_given}
use Rattle.tracesmb_c.proofs.writer.OwnedWriter.event_fields.Goals as goal

pub returns-in_err-event_head-clause-some : goal.returns-in_err-event_head-clause-some
returns-in_err-event_head-clause-some c =
    on_err_given c.from_residual.result
    (refuses_before c.args.self.now c.event_head.new.self (head_calls c.args.kind c.args.time c.args.track)
    (name_calls c.args.name.now ++ value_calls c.args.kind c.args.value) c.in_err-event_head.ensures.some)

pub returns-clause-all : goal.returns-clause-all
returns-clause-all c =
    if_ok_map c.event_rest.result
    (notes_both c.args.self.now c.event_head.new.self c.event_rest.new.self (head_calls c.args.kind c.args.time c.args.track)
    (name_calls c.args.name.now ++ value_calls c.args.kind c.args.value) c.in_ok-event_head.ensures.all)
    c.event_rest.ensures.all

pub returns-clause-some : goal.returns-clause-some
returns-clause-some c =
    on_err_map c.event_rest.result
    (refuses_later c.args.self.now c.event_head.new.self c.event_rest.new.self (head_calls c.args.kind c.args.time c.args.track)
    (name_calls c.args.name.now ++ value_calls c.args.kind c.args.value) c.in_ok-event_head.ensures.all)
    c.event_rest.ensures.some
