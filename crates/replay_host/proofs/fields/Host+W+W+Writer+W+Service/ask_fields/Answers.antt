-- Each node is asked for behind those before it.
use Rattle.std.proofs.Common.{◌≡◌, ◌∙◌, ℕ, ◌==◌, List, [], ◌∷◌, ◌++◌, map, refl, sym, ap, subst, arith, rules, append_assoc}
use Rattle.std.specs.Prelude.{Err}
use Rattle.std.proofs.lemmas.List.{append-nil}
use Rattle.trace_model.specs.Calls.{Call}
use Rattle.field_tree.specs.Nodes.{Shown}
use Rattle.scenario_text.specs.Accepted.{node_call}
use Rattle.replay_host.specs.Asking.{AreReady, IsShortCall}
use Rattle.replay_model.specs.Acts.{asks}
use Rattle.replay_host.specs.Playing.{HasAsked, asked_all}
use Rattle.replay_host.specs.Stopping.{Stalls, StopsIn}
use Rattle.std.proofs.lemmas.Bool.{eq-eqb}
use Rattle.trace_base.proofs.Lists.{some_there}
use Rattle.trace_model.specs.Packets.{account_of}
use Rattle.world_model.specs.FirstBuffers.{payload_at}
use Rattle.replay_host.proofs.FieldLemmas.{if_err_is, calls_before, calls_all, short_is}
use Rattle.replay_host.proofs.HostLemmas.{ready_own, ready_both, asked_none, asked_both}
use Rattle.replay_host.proofs.RowLemmas.{AreLaws}
use Rattle.replay_host.proofs.StopLemmas.{stopped_one, stopped_calls}
use Rattle.replay_host.proofs.fields.Host+W+W+Writer+W+Service.ask_fields.Goals as goal

pub nodes-init : goal.nodes-init
nodes-init g c = record {
  host = c.requires.host;
  before = [];
  cut = sym c.fields-left.ensures;
  asked = asked_none g.W.Words.means c.args.place c.args.self.now;
  ready = rw c.fields-left.ensures c.requires.ready;
}

pub ask-requires-clause-ready : goal.ask-requires-clause-ready
ask-requires-clause-ready g c =
    let one : Shown = (c.in-Some.node, c.in-Some.text.now) in
    let others : List Shown = c.next.new.self in
    let means = g.W.Words.means in
    let cores = c.nodes.self.writers.items in
    let coming = c.nodes.invariant.ready.0 in
    let next : AreReady means c.nodes.self.table cores (asked_all c.args.place (node_call one ∷ map node_call others) coming) =
    subst (λ (nodes : List Shown). AreReady means c.nodes.self.table cores (asked_all c.args.place (map node_call nodes) coming)) c.in-Some.ensures.first c.nodes.invariant.ready.1 in (
      asked_all c.args.place (map node_call others) coming,
      subst (λ (call : Call). AreReady means c.nodes.self.table cores (asked_all c.args.place (call ∷ []) (asked_all c.args.place (map node_call others) coming)))
          (sym c.call_of_node-call.ensures)
          (ready_both means c.nodes.self.table cores c.args.place (node_call one ∷ []) (map node_call others) coming next),
    )

pub ask-requires-clause-short : goal.ask-requires-clause-short
ask-requires-clause-short g c =
    let one : Shown = (c.in-Some.node, c.in-Some.text.now) in
    let others : List Shown = c.next.new.self in
    let means = g.W.Words.means in
    let cores = c.nodes.self.writers.items in
    let coming = c.nodes.invariant.ready.0 in
    let next : AreReady means c.nodes.self.table cores (asked_all c.args.place (node_call one ∷ map node_call others) coming) =
    subst (λ (nodes : List Shown). AreReady means c.nodes.self.table cores (asked_all c.args.place (map node_call nodes) coming)) c.in-Some.ensures.first c.nodes.invariant.ready.1 in
    let place : ℕ = c.args.place in
    let stays = c.nodes.invariant.asked.many in
    let many = c.requires.host.stands.many in
    let below = c.requires.place in
    let core = some_there cores place (omega (arith, stays, many, below)) in
    let here = ready_own (place == place) (payload_at (means.setup c.nodes.self.table) place) (means.view c.nodes.self.table core.0.seat) (node_call one)
    (map node_call others) (coming place) (next place core.0 core.1) (eq-eqb place place refl) in
    subst IsShortCall (sym c.call_of_node-call.ensures) (short_is (account_of here.asked).packets c.in-Some.node c.in-Some.text.now c.in-Some.ensures.fit here.accepted.0)

pub nodes-preserved : goal.nodes-preserved
nodes-preserved g c =
    let one : Shown = (c.in-Some.node, c.in-Some.text.now) in
    let others : List Shown = c.next.new.self in
    let means = g.W.Words.means in
    let cores = c.nodes.self.writers.items in
    let coming = c.nodes.invariant.ready.0 in
    let next : AreReady means c.nodes.self.table cores (asked_all c.args.place (node_call one ∷ map node_call others) coming) =
    subst (λ (nodes : List Shown). AreReady means c.nodes.self.table cores (asked_all c.args.place (map node_call nodes) coming)) c.in-Some.ensures.first c.nodes.invariant.ready.1 in
    let before : List Shown = c.nodes.invariant.before in
    let asked : HasAsked means c.args.place (node_call one ∷ []) c.nodes.self c.ask.new.self =
    subst (λ (call : Call). HasAsked means c.args.place (call ∷ []) c.nodes.self c.ask.new.self) c.call_of_node-call.ensures c.in_ok-ask.ensures.asked in
    record {
      host = c.in_ok-ask.ensures.host;
      before = before ++ one ∷ [];
      cut = c.nodes.invariant.cut ∙ ap (λ (nodes : List Shown). before ++ nodes) c.in-Some.ensures.first ∙ sym (append_assoc before (one ∷ []) others);
      asked = subst (λ (calls : List Call). HasAsked means c.args.place calls c.args.self.now c.ask.new.self) (sym (calls_before before one))
          (asked_both means c.args.place (map node_call before) (node_call one ∷ []) c.args.self.now c.nodes.self c.ask.new.self c.nodes.invariant.asked asked);
      ready = (
        coming,
        asked.ready (asked_all c.args.place (map node_call others) coming)
            (ready_both means c.nodes.self.table cores c.args.place (node_call one ∷ []) (map node_call others) coming next),
      );
    }

pub returns-in_err-ask-clause-stops : goal.returns-in_err-ask-clause-stops
returns-in_err-ask-clause-stops g c taken =
    let laws : AreLaws g.W.Words.means = record {
      told_view = g.met.W.Words.told_view;
      told_service_view = g.met.W.Words.told_service_view;
      told_writers = g.met.W.Words.told_writers;
      told_owned = g.met.W.Words.told_owned;
    } in
    let one : Shown = (c.in-Some.node, c.in-Some.text.now) in
    let others : List Shown = c.next.new.self in
    let before : List Shown = c.nodes.invariant.before in
    let means = g.W.Words.means in
    let found = c.in_err-ask.field-0.0 in
    let result_is : c.from_residual.result ≡ Err found = search rules in
    let stalled : Stalls means c.args.place (node_call one) c.nodes.self c.ask.new.self found =
    subst (λ (call : Call). Stalls means c.args.place call c.nodes.self c.ask.new.self found) c.call_of_node-call.ensures c.in_err-ask.ensures.stalls in
    let whole : c.args.fields.now ≡ before ++ one ∷ others =
    c.nodes.invariant.cut ∙ ap (λ (nodes : List Shown). before ++ nodes) c.in-Some.ensures.first in
    if_err_is c.from_residual.result found _ result_is
    (subst (λ (calls : List Call). StopsIn means (asks c.args.place calls) c.args.self.now taken found taken) (sym (calls_all c.args.fields.now before others one whole))
    (stopped_calls means c.args.place (map node_call before) (node_call one ∷ []) (map node_call others) c.args.self.now c.nodes.self taken found taken
    c.nodes.invariant.asked (stopped_one means laws c.args.place (node_call one) c.nodes.self c.ask.new.self found c.nodes.invariant.host stalled taken)))

pub returns-clause-asked : goal.returns-clause-asked
returns-clause-asked g c =
    let before : List Shown = c.nodes.invariant.before in
    let none = rw c.in_default.is at c.next.ensures.none in
    let all : c.args.fields.now ≡ before =
    c.nodes.invariant.cut ∙ ap (λ (nodes : List Shown). before ++ nodes) none.0 ∙ append-nil before in
    subst (λ (nodes : List Shown). HasAsked g.W.Words.means c.args.place (map node_call nodes) c.args.self.now c.nodes.self) (sym all) c.nodes.invariant.asked
