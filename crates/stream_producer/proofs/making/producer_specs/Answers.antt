-- One producer at a time.
use Rattle.std.proofs.Common.{◌≡◌, ◌+◌, ◌<◌, List, length, take, get_or, refl, sym, subst, rules}
use Rattle.std.specs.List.{AllZip}
use Rattle.chunk_plain.specs.declared.setup.ProducerSpec.{ProducerSpec}
use Rattle.config_text.specs.declared.config.ConfigProducer.{ConfigProducer}
use Rattle.config_text.specs.Writing.{IsProducer}
use Rattle.stream_producer.specs.Setups.{IsSpecOf}
use Rattle.stream_producer.proofs.MakingLemmas.{specs_more}
use Rattle.stream_producer.proofs.making.producer_specs.Goals as goal

pub geometry_of-requires : goal.geometry_of-requires
geometry_of-requires c =
    let i = c.loop-producer.producer-index in
    let item = c.producer-item.result in
    let there : item ≡ get_or c.args.producers.now i item = search rules in
    let below = subst (λ (ps : List ConfigProducer). i < length ps) (sym c.requires.2) c.loop-producer-test.true in
    subst IsProducer (sym there)
    (subst (λ (ps : List ConfigProducer). IsProducer (get_or ps i item)) c.requires.2 (c.requires.1.producers i item below))

pub loop-producer-preserved : goal.loop-producer-preserved
loop-producer-preserved c =
    let producers = c.args.producers.now in
    let i = c.loop-producer.producer-index in
    let item = c.producer-item.result in
    let there : item ≡ get_or c.args.producers.now i item = search rules in
    let spec : ProducerSpec = record { pages = 1; geometry = c.geometry_of.result } in
    subst (λ (specs : List ProducerSpec). AllZip IsSpecOf (take (i + 1) producers) specs) (sym c.in_ok-push.ensures.items)
    (specs_more producers c.loop-producer.specs.items i item spec c.loop-producer-test.true c.loop-producer.invariant
    (subst (λ (p : ConfigProducer). IsSpecOf p spec) there
    (record { pages = refl; page_size = c.geometry_of.ensures.page_size; chunks = c.geometry_of.ensures.chunks })))
