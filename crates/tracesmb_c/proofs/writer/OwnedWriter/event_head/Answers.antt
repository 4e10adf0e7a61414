-- The time, and then the event.
use Rattle.std.proofs.Common.{[], ◌∷◌}
use Rattle.trace_model.specs.Calls as call
use Rattle.tracesmb_c.specs.Eventing.{body_calls}
use Rattle.tracesmb_c.proofs.CallLemmas.{if_ok_map}
use Rattle.tracesmb_c.proofs.EventLemmas.{notes_both, refuses_later, refuses_before, on_err_map, on_err_given}
use Rattle.tracesmb_c.proofs.writer.OwnedWriter.event_head.Goals as goal

pub returns-in_err-event_number-clause-some : goal.returns-in_err-event_number-clause-some
returns-in_err-event_number-clause-some c =
    on_err_given c.from_residual.result
    (refuses_before c.args.self.now c.event_number.new.self (call.Number 8 c.args.time ∷ [])
    (body_calls c.args.kind c.args.track) c.in_err-event_number.ensures.some)

pub returns-clause-all : goal.returns-clause-all
returns-clause-all c =
    if_ok_map c.event_body.result
    (notes_both c.args.self.now c.event_number.new.self c.event_body.new.self (call.Number 8 c.args.time ∷ [])
    (body_calls c.args.kind c.args.track) c.in_ok-event_number.ensures.all)
    c.event_body.ensures.all

pub returns-clause-some : goal.returns-clause-some
returns-clause-some c =
    on_err_map c.event_body.result
    (refuses_later c.args.self.now c.event_number.new.self c.event_body.new.self (call.Number 8 c.args.time ∷ [])
    (body_calls c.args.kind c.args.track) c.in_ok-event_number.ensures.all)
    c.event_body.ensures.some
