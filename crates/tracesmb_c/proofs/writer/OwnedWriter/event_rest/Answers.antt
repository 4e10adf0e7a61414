-- The name, and then the value.
use Rattle.tracesmb_c.specs.Eventing.{name_calls, value_calls}
use Rattle.tracesmb_c.proofs.CallLemmas.{if_ok_map}
use Rattle.tracesmb_c.proofs.EventLemmas.{notes_both, refuses_later, refuses_before, on_err_map, on_err_given}
use Rattle.tracesmb_c.proofs.writer.OwnedWriter.event_rest.Goals as goal

pub returns-in_err-event_name-clause-some : goal.returns-in_err-event_name-clause-some
returns-in_err-event_name-clause-some c =
    on_err_given c.from_residual.result
    (refuses_before c.args.self.now c.event_name.new.self (name_calls c.args.name.now)
    (value_calls c.args.kind c.args.value) c.in_err-event_name.ensures.some)

pub returns-clause-all : goal.returns-clause-all
returns-clause-all c =
    if_ok_map c.event_value.result
    (notes_both c.args.self.now c.event_name.new.self c.event_value.new.self (name_calls c.args.name.now)
    (value_calls c.args.kind c.args.value) c.in_ok-event_name.ensures.all)
    c.event_value.ensures.all

pub returns-clause-some : goal.returns-clause-some
returns-clause-some c =
    on_err_map c.event_value.result
    (refuses_later c.args.self.now c.event_name.new.self c.event_value.new.self (name_calls c.args.name.now)
    (value_calls c.args.kind c.args.value) c.in_ok-event_name.ensures.all)
    c.event_value.ensures.some
