-- A packet's begin, its fields and its end come one behind another.
use Rattle.std.proofs.Common.{◌≡◌, true, List, [], ◌∷◌, ◌++◌, map, subst, append-nil, rules}
use Rattle.std.specs.Prelude.{Err}
use Rattle.trace_model.specs.Calls.{Call, Begun, Finished}
use Rattle.scenario_text.specs.Accepted.{node_call}
use Rattle.replay_model.specs.Acts.{asks}
use Rattle.replay_host.specs.declared.fault.HostFault.{HostFault}
use Rattle.replay_host.specs.Playing.{HasAsked, asked_all}
use Rattle.replay_host.specs.Stopping.{Stalls, StopsIn}
use Rattle.replay_host.proofs.FieldLemmas.{on_ok_map, if_err_map, if_err_is}
use Rattle.replay_host.proofs.HostLemmas.{ready_both, asked_none, asked_both}
use Rattle.replay_host.proofs.RowLemmas.{AreLaws}
use Rattle.replay_host.proofs.StopLemmas.{stopped_one, stopped_calls}
use Rattle.replay_host.proofs.fields.Host+W+W+Writer+W+Service.ask_packet.Goals as goal

pub ask-requires-clause-ready : goal.ask-requires-clause-ready
ask-requires-clause-ready g c =
    let fields : List Call = map node_call c.args.fields.now in (
      asked_all c.args.place (fields ++ Finished ∷ []) c.requires.ready.0,
      ready_both g.W.Words.means c.args.self.now.table c.args.self.now.writers.items c.args.place (Begun true ∷ []) (fields ++ Finished ∷ []) c.requires.ready.0 c.requires.ready.1,
    )

pub ask_fields-requires-clause-ready : goal.ask_fields-requires-clause-ready
ask_fields-requires-clause-ready g c =
    let fields : List Call = map node_call c.args.fields.now in (
      asked_all c.args.place (Finished ∷ []) c.requires.ready.0,
      ready_both g.W.Words.means c.ask.new.self.table c.ask.new.self.writers.items c.args.place fields (Finished ∷ []) c.requires.ready.0
          (c.in_ok-ask.ensures.asked.ready (asked_all c.args.place (fields ++ Finished ∷ []) c.requires.ready.0)
          (ready_both g.W.Words.means c.args.self.now.table c.args.self.now.writers.items c.args.place (Begun true ∷ []) (fields ++ Finished ∷ []) c.requires.ready.0 c.requires.ready.1)),
    )

pub ask-requires-2-clause-ready : goal.ask-requires-2-clause-ready
ask-requires-2-clause-ready g c =
    let fields : List Call = map node_call c.args.fields.now in (
      c.requires.ready.0,
      c.in_ok-ask_fields.ensures.asked.ready (asked_all c.args.place (Finished ∷ []) c.requires.ready.0)
          (ready_both g.W.Words.means c.ask.new.self.table c.ask.new.self.writers.items c.args.place fields (Finished ∷ []) c.requires.ready.0
          (c.in_ok-ask.ensures.asked.ready (asked_all c.args.place (fields ++ Finished ∷ []) c.requires.ready.0)
          (ready_both g.W.Words.means c.args.self.now.table c.args.self.now.writers.items c.args.place (Begun true ∷ []) (fields ++ Finished ∷ []) c.requires.ready.0 c.requires.ready.1))),
    )

pub returns-clause-asked : goal.returns-clause-asked
returns-clause-asked g c =
    let fields : List Call = map node_call c.args.fields.now in
    on_ok_map c.ask-2.result _ _ c.ask-2.ensures.asked
    (λ (last : HasAsked g.W.Words.means c.args.place (Finished ∷ []) c.ask_fields.new.self c.ask-2.new.self).
    asked_both g.W.Words.means c.args.place (Begun true ∷ []) (fields ++ Finished ∷ []) c.args.self.now c.ask.new.self c.ask-2.new.self c.in_ok-ask.ensures.asked
    (asked_both g.W.Words.means c.args.place fields (Finished ∷ []) c.ask.new.self c.ask_fields.new.self c.ask-2.new.self c.in_ok-ask_fields.ensures.asked last))

pub returns-in_err-ask-clause-stops : goal.returns-in_err-ask-clause-stops
returns-in_err-ask-clause-stops g c taken =
    let laws : AreLaws g.W.Words.means = record {
      told_view = g.met.W.Words.told_view;
      told_service_view = g.met.W.Words.told_service_view;
      told_writers = g.met.W.Words.told_writers;
      told_owned = g.met.W.Words.told_owned;
    } in
    let means = g.W.Words.means in
    let fields : List Call = map node_call c.args.fields.now in
    let found = c.in_err-ask.field-0.0 in
    let result_is : c.from_residual.result ≡ Err found = search rules in
    if_err_is c.from_residual.result found _ result_is
    (stopped_calls means c.args.place [] (Begun true ∷ []) (fields ++ Finished ∷ []) c.args.self.now c.args.self.now taken found taken
    (asked_none means c.args.place c.args.self.now) (stopped_one means laws c.args.place (Begun true) c.args.self.now c.ask.new.self found c.requires.host c.in_err-ask.ensures.stalls taken))

pub returns-in_err-ask_fields-clause-stops : goal.returns-in_err-ask_fields-clause-stops
returns-in_err-ask_fields-clause-stops g c taken =
    let fields : List Call = map node_call c.args.fields.now in
    let found = c.in_err-ask_fields.field-0.0 in
    let result_is : c.from_residual-in_err-ask_fields.result ≡ Err found = search rules in
    if_err_is c.from_residual-in_err-ask_fields.result found _ result_is
    (stopped_calls g.W.Words.means c.args.place (Begun true ∷ []) fields (Finished ∷ []) c.args.self.now c.ask.new.self taken found taken
    c.in_ok-ask.ensures.asked (c.in_err-ask_fields.ensures.stops taken))

pub returns-clause-stops : goal.returns-clause-stops
returns-clause-stops g c taken =
    let laws : AreLaws g.W.Words.means = record {
      told_view = g.met.W.Words.told_view;
      told_service_view = g.met.W.Words.told_service_view;
      told_writers = g.met.W.Words.told_writers;
      told_owned = g.met.W.Words.told_owned;
    } in
    let means = g.W.Words.means in
    let fields : List Call = map node_call c.args.fields.now in
    if_err_map c.ask-2.result _ _ c.ask-2.ensures.stalls
    (λ (fault : HostFault) (stalled : Stalls means c.args.place Finished c.ask_fields.new.self c.ask-2.new.self fault).
    subst (λ (calls : List Call). StopsIn means (asks c.args.place calls) c.args.self.now taken fault taken) (append-nil (Begun true ∷ fields ++ Finished ∷ []))
    (stopped_calls means c.args.place (Begun true ∷ fields) (Finished ∷ []) [] c.args.self.now c.ask_fields.new.self taken fault taken
    (asked_both means c.args.place (Begun true ∷ []) fields c.args.self.now c.ask.new.self c.ask_fields.new.self c.in_ok-ask.ensures.asked c.in_ok-ask_fields.ensures.asked)
    (stopped_one means laws c.args.place Finished c.ask_fields.new.self c.ask-2.new.self fault c.in_ok-ask_fields.ensures.host stalled taken)))
