use Rattle.trace_base.proofs.Choices.{on_ok}
use Rattle.scenario_check.proofs.KindLemmas.{BeginsMessage, EndsMessage, nest_may, nest_takes, unnest_may, unnest_takes, rest_takes}
use Rattle.scenario_check.proofs.emit.emit_line.Goals as goal

pub emit_node-requires : goal.emit_node-requires
emit_node-requires c = nest_may c.args.what.now c.in-Nest.writer c.in-Nest.field c.args.emitter.now c.in-Nest.is c.requires

pub emit_node-requires-in-Unnest : goal.emit_node-requires-in-Unnest
emit_node-requires-in-Unnest c = unnest_may c.args.what.now c.in-Unnest.writer c.args.emitter.now c.in-Unnest.is c.requires

pub returns-in-Nest : goal.returns-in-Nest
returns-in-Nest c =
    on_ok c.emit_node.result (BeginsMessage c.in-Nest.field c.args.emitter.now c.emit_node.new.emitter) _
    (λ takes. nest_takes c.args.what.now c.in-Nest.writer c.in-Nest.field c.args.emitter.now c.emit_node.new.emitter c.in-Nest.is takes) c.emit_node.ensures

pub returns-in-Unnest : goal.returns-in-Unnest
returns-in-Unnest c =
    on_ok c.emit_node-in-Unnest.result (EndsMessage c.args.emitter.now c.emit_node-in-Unnest.new.emitter) _
    (λ takes. unnest_takes c.args.what.now c.in-Unnest.writer c.args.emitter.now c.emit_node-in-Unnest.new.emitter c.in-Unnest.is takes) c.emit_node-in-Unnest.ensures

pub returns-in_default : goal.returns-in_default
returns-in_default c =
    rest_takes c.args.what.now c.args.emitter.now c.in_default.not-Packet c.in_default.not-Add c.in_default.not-Nest c.in_default.not-Unnest c.in_default.not-End
