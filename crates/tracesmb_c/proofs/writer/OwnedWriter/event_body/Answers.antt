-- The message, and then what is in it.
use Rattle.std.proofs.Common.{[], ◌∷◌}
use Rattle.trace_model.specs.Calls as call
use Rattle.tracesmb_c.specs.Eventing.{kind_calls}
use Rattle.tracesmb_c.proofs.CallLemmas.{if_ok_map}
use Rattle.tracesmb_c.proofs.EventLemmas.{notes_both, refuses_later, refuses_before, on_err_map, on_err_given}
use Rattle.tracesmb_c.proofs.writer.OwnedWriter.event_body.Goals as goal

pub returns-in_err-event_nested-clause-some : goal.returns-in_err-event_nested-clause-some
returns-in_err-event_nested-clause-some c =
    on_err_given c.from_residual.result
    (refuses_before c.args.self.now c.event_nested.new.self (call.Nested 11 ∷ [])
    (kind_calls c.args.kind c.args.track) c.in_err-event_nested.ensures.some)

pub returns-clause-all : goal.returns-clause-all
returns-clause-all c =
    if_ok_map c.event_kind.result
    (notes_both c.args.self.now c.event_nested.new.self c.event_kind.new.self (call.Nested 11 ∷ [])
    (kind_calls c.args.kind c.args.track) c.in_ok-event_nested.ensures.all)
    c.event_kind.ensures.all

pub returns-clause-some : goal.returns-clause-some
returns-clause-some c =
    on_err_map c.event_kind.result
    (refuses_later c.args.self.now c.event_nested.new.self c.event_kind.new.self (call.Nested 11 ∷ [])
    (kind_calls c.args.kind c.args.track) c.in_ok-event_nested.ensures.all)
    c.event_kind.ensures.some
