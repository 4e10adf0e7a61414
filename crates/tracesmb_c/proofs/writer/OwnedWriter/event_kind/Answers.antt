-- The kind, and then the track.
use Rattle.std.proofs.Common.{[], ◌∷◌}
use Rattle.trace_model.specs.Calls as call
use Rattle.tracesmb_c.proofs.CallLemmas.{if_ok_map}
use Rattle.tracesmb_c.proofs.EventLemmas.{notes_both, refuses_later, refuses_before, on_err_map, on_err_given}
use Rattle.tracesmb_c.proofs.writer.OwnedWriter.event_kind.Goals as goal

pub returns-in_err-event_number-clause-some : goal.returns-in_err-event_number-clause-some
returns-in_err-event_number-clause-some c =
    on_err_given c.from_residual.result
    (refuses_before c.args.self.now c.event_number.new.self (call.Number 9 c.args.kind ∷ [])
    (call.Number 11 c.args.track ∷ []) c.in_err-event_number.ensures.some)

pub returns-clause-all : goal.returns-clause-all
returns-clause-all c =
    if_ok_map c.event_number-2.result
    (notes_both c.args.self.now c.event_number.new.self c.event_number-2.new.self (call.Number 9 c.args.kind ∷ [])
    (call.Number 11 c.args.track ∷ []) c.in_ok-event_number.ensures.all)
    c.event_number-2.ensures.all

pub returns-clause-some : goal.returns-clause-some
returns-clause-some c =
    on_err_map c.event_number-2.result
    (refuses_later c.args.self.now c.event_number.new.self c.event_number-2.new.self (call.Number 9 c.args.kind ∷ [])
    (call.Number 11 c.args.track ∷ []) c.in_ok-event_number.ensures.all)
    c.event_number-2.ensures.some
