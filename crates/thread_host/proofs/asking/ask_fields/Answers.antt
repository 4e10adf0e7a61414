-- Each node is asked for behind those before it.
use Rattle.std.proofs.Common.{◌≡◌, ◌∙◌, List, [], ◌∷◌, ◌++◌, map, sym, ap, subst, append-nil, append_assoc}
use Rattle.trace_model.specs.Calls.{Call}
use Rattle.field_tree.specs.Nodes.{Shown}
use Rattle.scenario_text.specs.Accepted.{node_call}
use Rattle.trace_model.specs.Packets.{account_of}
use Rattle.replay_host.specs.Asking.{IsShortCall}
use Rattle.replay_host.proofs.FieldLemmas.{short_is}
use Rattle.thread_host.specs.Playing.{WasAsked}
use Rattle.thread_host.proofs.Going.{asked_none, node_next, nodes_more}
use Rattle.thread_host.proofs.Helped.{helps_none, helps_both}
use Rattle.thread_host.proofs.asking.ask_fields.Goals as goal

pub nodes-init : goal.nodes-init
nodes-init g c = record {
  before = [];
  cut = sym c.fields-left.ensures;
  asked = asked_none g.H.Helper.helps g.H.Helper.of_table c.args.table.now c.args.help.now c.args.writer.now;
  going = rw c.fields-left.ensures c.requires.going;
  helped = helps_none g.H.Helper.helps c.args.help.now c.args.writer.now;
}

pub ask-requires-clause-short : goal.ask-requires-clause-short
ask-requires-clause-short g c =
    let next = node_next g.H.Helper.helps g.H.Helper.of_table c.args.table.now c.nodes.left (c.in-Some.node, c.in-Some.text.now) c.next.new.self
    c.nodes.help c.nodes.writer c.in-Some.ensures.first c.nodes.invariant.going.0 c.nodes.invariant.going.1 c.nodes.invariant.going.2 c.nodes.invariant.going.3 in
    subst IsShortCall (sym c.call_of_node-call.ensures)
    (short_is (account_of next.ready.asked).packets c.in-Some.node c.in-Some.text.now c.in-Some.ensures.fit next.ready.accepted.0)

pub nodes-preserved : goal.nodes-preserved
nodes-preserved g c =
    let one : Shown = (c.in-Some.node, c.in-Some.text.now) in
    let others : List Shown = c.next.new.self in
    let before : List Shown = c.nodes.invariant.before in
    let coming : List Call = c.nodes.invariant.going.2 in
    let asked : WasAsked g.H.Helper.helps g.H.Helper.of_table c.args.table.now (node_call one ∷ []) c.nodes.help c.nodes.writer c.ask.new.help c.ask.new.writer =
    subst (λ (call : Call). WasAsked g.H.Helper.helps g.H.Helper.of_table c.args.table.now (call ∷ []) c.nodes.help c.nodes.writer c.ask.new.help c.ask.new.writer)
    c.call_of_node-call.ensures c.ask.ensures.asked in
    record {
      before = before ++ one ∷ [];
      cut = c.nodes.invariant.cut ∙ ap (λ (nodes : List Shown). before ++ nodes) c.in-Some.ensures.first ∙ sym (append_assoc before (one ∷ []) others);
      asked = nodes_more g.H.Helper.helps g.H.Helper.of_table c.args.table.now before one c.args.help.now c.nodes.help c.ask.new.help
          c.args.writer.now c.nodes.writer c.ask.new.writer c.nodes.invariant.asked asked;
      helped = helps_both g.H.Helper.helps c.args.help.now c.nodes.help c.ask.new.help c.args.writer.now c.nodes.writer c.ask.new.writer
          c.nodes.invariant.helped c.ask.ensures.helped;
      going = (
        c.nodes.invariant.going.0,
        c.nodes.invariant.going.1 ++ node_call one ∷ [],
        coming,
        asked c.nodes.invariant.going.0 c.nodes.invariant.going.1 (map node_call others ++ coming)
            (node_next g.H.Helper.helps g.H.Helper.of_table c.args.table.now c.nodes.left one others c.nodes.help c.nodes.writer c.in-Some.ensures.first
            c.nodes.invariant.going.0 c.nodes.invariant.going.1 coming c.nodes.invariant.going.3),
      );
    }

pub returns : goal.returns
returns g c =
    let before : List Shown = c.nodes.invariant.before in
    let none = rw c.in_default.is at c.next.ensures.none in
    let all : c.args.fields.now ≡ before =
    c.nodes.invariant.cut ∙ ap (λ (nodes : List Shown). before ++ nodes) none.0 ∙ append-nil before in
    record {
      asked = subst (λ (nodes : List Shown). WasAsked g.H.Helper.helps g.H.Helper.of_table c.args.table.now (map node_call nodes)
          c.args.help.now c.args.writer.now c.nodes.help c.nodes.writer) (sym all) c.nodes.invariant.asked;
      helped = c.nodes.invariant.helped;
    }
