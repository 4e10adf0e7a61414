use Rattle.std.proofs.Common.{◌∷◌, []}
use Rattle.trace_base.proofs.Choices.{on_ok}
use Rattle.trace_model.specs.Calls as call
use Rattle.scenario_check.specs.Progress.{Takes}
use Rattle.scenario_check.proofs.CallLemmas.{packet_may, packet_ends, packet_takes}
use Rattle.scenario_check.proofs.emit.emit_packet.Goals as goal

pub emit_fields-requires : goal.emit_fields-requires
emit_fields-requires c = packet_may c.args.fields.now c.args.emitter.now c.requires

pub emit_end-requires : goal.emit_end-requires
emit_end-requires c =
    packet_ends c.args.fields.now c.args.emitter.now c.emit_fields.new.emitter c.requires c.in_ok-emit_fields.ensures

pub returns : goal.returns
returns c =
    on_ok c.emit_end.result (Takes (call.Finished ∷ []) 0 1 c.emit_fields.new.emitter c.emit_end.new.emitter) _
    (λ ends. packet_takes c.args.fields.now c.args.emitter.now c.emit_fields.new.emitter c.emit_end.new.emitter c.in_ok-emit_fields.ensures ends) c.emit_end.ensures
