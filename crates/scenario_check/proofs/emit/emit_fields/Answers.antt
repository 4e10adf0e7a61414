use Rattle.std.proofs.Common.{List, subst}
use Rattle.field_tree.specs.Nodes.{Shown}
use Rattle.scenario_check.proofs.CallLemmas.{HasTakenNodes, no_node, node_may, node_more, nodes_all}
use Rattle.scenario_check.proofs.emit.emit_fields.Goals as goal

pub nodes-init : goal.nodes-init
nodes-init c = rw c.fields-coming.ensures (no_node c.args.fields.now c.args.emitter.now)

pub emit_node-requires : goal.emit_node-requires
emit_node-requires c =
    node_may c.args.fields.now c.next.new.self _ c.args.emitter.now c.nodes.emitter
    (subst (λ (ns : List Shown). HasTakenNodes c.args.fields.now ns c.args.emitter.now c.nodes.emitter) c.in-Some.ensures.first c.nodes.invariant) c.requires

pub nodes-preserved : goal.nodes-preserved
nodes-preserved c =
    node_more c.args.fields.now c.next.new.self _ c.args.emitter.now c.nodes.emitter c.emit_node.new.emitter
    (subst (λ (ns : List Shown). HasTakenNodes c.args.fields.now ns c.args.emitter.now c.nodes.emitter) c.in-Some.ensures.first c.nodes.invariant)
    c.in_ok-emit_node.ensures

pub returns : goal.returns
returns c =
    let none = rw c.in_default.is at c.next.ensures.none in
    nodes_all c.args.fields.now c.args.emitter.now c.nodes.emitter
    (subst (λ (ns : List Shown). HasTakenNodes c.args.fields.now ns c.args.emitter.now c.nodes.emitter) none.0 c.nodes.invariant)
