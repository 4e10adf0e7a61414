-- One source at a time.
use Rattle.std.proofs.Common.{◌≡◌, ℕ, ◌-◌, ◌*◌, ◌<◌, length, get_or, sym, ap, ◌∙◌, subst, arith, rules}
use Rattle.trace_base.specs.declared.limits.TheConstants.{BYTES_PER_KB, MAX_CHUNKS_PER_PAGE, MAX_WRITERS}
use Rattle.page_geometry.specs.Sizes.{payload_size}
use Rattle.config_text.specs.Configs.{ConfigOf, parts_of}
use Rattle.config_text.specs.Writing.{IsProducer, IsSource}
use Rattle.stream_producer.specs.Setups.{payload_asked}
use Rattle.stream_producer.proofs.LimitLemmas.{source_there, producer_below, size_asked, sizes_more, sizes_below}
use Rattle.stream_producer.proofs.making.frame_limits.Goals as goal

pub geometry_of-requires : goal.geometry_of-requires
geometry_of-requires c =
    let config : ConfigOf = parts_of c.args.config.now in
    let i = c.loop-source.source-index in
    let source = c.source-item.result in
    let producer = c.index-producer.result.now in
    let there : source ≡ get_or config.sources i source = search rules in
    let inside : i < length config.sources = search rules in
    let is : IsSource config source = source_there config i source c.requires inside there in
    let found : producer ≡ get_or config.producers (source.producer - 1) producer =
    c.index-producer.ensures ∙ ap (λ (n : ℕ). get_or config.producers (n - 1) producer) c.from.ensures in
    subst IsProducer (sym found) (c.requires.producers (source.producer - 1) producer (producer_below config source is))

pub push-requires : goal.push-requires
push-requires c =
    let config : ConfigOf = parts_of c.args.config.now in
    let inside : c.loop-source.source-index < length config.sources = search rules in
    let below : length c.loop-source.payload_sizes.items < MAX_WRITERS =
    sizes_below config.producers config.sources c.loop-source.payload_sizes.items c.loop-source.source-index inside
    c.requires.few_sources c.loop-source.invariant in
    ((omega arith), below)

pub loop-source-preserved : goal.loop-source-preserved
loop-source-preserved c =
    let config : ConfigOf = parts_of c.args.config.now in
    let i = c.loop-source.source-index in
    let source = c.source-item.result in
    let producer = c.index-producer.result.now in
    let there : source ≡ get_or config.sources i source = search rules in
    let inside : i < length config.sources = search rules in
    let is : IsSource config source = source_there config i source c.requires inside there in
    let found : producer ≡ get_or config.producers (source.producer - 1) producer =
    c.index-producer.ensures ∙ ap (λ (n : ℕ). get_or config.producers (n - 1) producer) c.from.ensures in
    let sized : c.payload_size.result ≡ payload_size (producer.page_size_kb * BYTES_PER_KB) MAX_CHUNKS_PER_PAGE =
    c.payload_size.ensures.value ∙ ap (λ (n : ℕ). payload_size n c.geometry_of.result.chunks) c.geometry_of.ensures.page_size
    ∙ ap (λ (n : ℕ). payload_size (producer.page_size_kb * BYTES_PER_KB) n) c.geometry_of.ensures.chunks in
    let asked : c.payload_size.result ≡ payload_asked config.producers source =
    sized ∙ size_asked config.producers source producer producer (producer_below config source is) found in
    c.push.ensures.items
    ∙ sizes_more config.producers config.sources c.loop-source.payload_sizes.items i c.payload_size.result source inside there
    c.loop-source.invariant asked
