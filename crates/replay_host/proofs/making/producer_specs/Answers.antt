use Rattle.std.proofs.Common.{◌+◌, List, take, sym, subst}
use Rattle.std.specs.List.{AllZip}
use Rattle.std.proofs.lemmas.Option.{slice_get-get_or}
use Rattle.scenario_text.specs.declared.scenario.ProducerLine.{ProducerLine}
use Rattle.scenario_text.specs.Limits.{IsProducer}
use Rattle.chunk_plain.specs.declared.setup.ProducerSpec.{ProducerSpec}
use Rattle.replay_model.specs.Played.{IsSpecOf}
use Rattle.replay_model.proofs.BalanceLemmas.{each_is}
use Rattle.replay_host.proofs.MakingLemmas.{specs_more}
use Rattle.replay_host.proofs.making.producer_specs.Goals as goal

pub producer_spec-requires : goal.producer_spec-requires
producer_spec-requires c =
    let lines = c.args.producers.now in
    let i = c.loop-producer.producer-index in
    let none : ProducerLine = record { pages = 0; page_size = 0; chunks = 0 } in
    each_is IsProducer lines i _ c.requires (slice_get-get_or lines i none c.loop-producer-test.true)

pub loop-producer-preserved : goal.loop-producer-preserved
loop-producer-preserved c =
    let lines = c.args.producers.now in
    let i = c.loop-producer.producer-index in
    let none : ProducerLine = record { pages = 0; page_size = 0; chunks = 0 } in
    subst (λ (specs : List ProducerSpec). AllZip IsSpecOf (take (i + 1) lines) specs) (sym c.in_ok-push.ensures.items)
    (specs_more lines c.loop-producer.specs.items i none c.producer_spec.result c.loop-producer-test.true c.loop-producer.invariant
    c.producer_spec.ensures)
