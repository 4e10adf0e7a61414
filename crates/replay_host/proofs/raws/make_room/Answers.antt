-- The sizes are those of whatever set-up of the scenario.
use Rattle.std.proofs.Common.{◌∙◌, ℕ, List, sym, ap, subst}
use Rattle.std.specs.List.{AllByRecursion, AllZip}
use Rattle.std.proofs.lemmas.Result.{IfOk-weaker}
use Rattle.scenario_text.specs.Limits.{IsProducer}
use Rattle.scenario_text.specs.Scenario.{parts_of}
use Rattle.scenario_text.proofs.LimitLemmas.{scenario_is_set_up}
use Rattle.chunk_plain.specs.declared.setup.ProducerSpec.{ProducerSpec}
use Rattle.chunk_plain.specs.Laying.{sizes_of}
use Rattle.chunk_plain.specs.Setup.{Setup}
use Rattle.replay_model.specs.Played.{IsSetupOf, IsSpecOf}
use Rattle.replay_host.specs.Raws.{HasRoom}
use Rattle.replay_host.proofs.CloneMadeLemmas.{same_sizes}
use Rattle.replay_host.proofs.SetUpLemmas.{made_as_asked}
use Rattle.replay_host.proofs.raws.make_room.Goals as goal

pub producer_specs-requires : goal.producer_specs-requires
producer_specs-requires c = subst (AllByRecursion IsProducer) (sym c.deref.ensures.value)
    (scenario_is_set_up c.args.scenario.now c.requires).are_producers

pub returns : goal.returns
returns c =
    let scenario = c.args.scenario.now in
    let specs : List ProducerSpec = c.in_ok-producers.producers.items in
    let made : AllZip IsSpecOf scenario.producers.items specs =
    made_as_asked scenario c.requires c.deref.result.now specs c.deref.ensures.value c.in_ok-producers.ensures in
    IfOk-weaker c.make.result (λ room. HasRoom (sizes_of c.deref-2.result.now) room)
    (λ room. (setup : Setup) → IsSetupOf (parts_of scenario) setup → HasRoom setup.sizes room)
    (λ room has setup is.
    subst (λ (sizes : List ℕ). HasRoom sizes room)
    (ap (λ (ps : List ProducerSpec). sizes_of ps) c.deref-2.ensures.value
    ∙ same_sizes scenario.producers.items specs is.specs made is.made ∙ ap (λ (s : Setup). s.sizes) (sym is.laid)) has)
    c.make.ensures
