-- What frames may name is found source by source.
use Rattle.std.proofs.Common.{◌≡◌, ℕ, ◌+◌, ◌-◌, ◌*◌, ◌<◌, ◌≤◌, List, [], ◌∷◌, ◌++◌, length, map, take, get_or, sym, ap, ◌∙◌}
use Rattle.std.proofs.Common.{arith, length-take-le}
use Rattle.std.proofs.lemmas.List.{get_or_default, length-map, map_more}
use Rattle.std.proofs.lemmas.Option.{slice_get_within}
use Rattle.trace_base.specs.declared.limits.TheConstants.{BYTES_PER_KB, MAX_CHUNKS_PER_PAGE, MAX_WRITERS}
use Rattle.page_geometry.specs.Sizes.{payload_size}
use Rattle.config_text.specs.declared.config.ConfigProducer.{ConfigProducer}
use Rattle.config_text.specs.declared.config.ConfigSource.{ConfigSource}
use Rattle.config_text.specs.Configs.{ConfigOf}
use Rattle.config_text.specs.Writing.{IsSource, IsWritable}
use Rattle.stream_producer.specs.Setups.{payload_asked}

-- a source that is read at a place is one of the configuration
pub source_there : (config : ConfigOf) (i : ℕ) (source : ConfigSource) → IsWritable config → i < length config.sources
    → source ≡ get_or config.sources i source → IsSource config source
source_there config i source writable below there =
    let is : IsSource config (get_or config.sources i source) = writable.sources i source below in
    rw (sym there) at is

-- its producer is there
pub producer_below : (config : ConfigOf) (source : ConfigSource) → IsSource config source
    → source.producer - 1 < length config.producers
producer_below config source is = slice_get_within config.producers (source.producer - 1) is.producer is.has_producer

-- the payload size of a source from its producer
pub size_asked : (producers : List ConfigProducer) (source : ConfigSource) (producer d : ConfigProducer)
    → source.producer - 1 < length producers → producer ≡ get_or producers (source.producer - 1) d
    → payload_size (producer.page_size_kb * BYTES_PER_KB) MAX_CHUNKS_PER_PAGE ≡ payload_asked producers source
size_asked producers source producer d below there =
    let none : ConfigProducer = record { name = []; shm_size_kb = 0; page_size_kb = 0 } in
    let same : producer ≡ get_or producers (source.producer - 1) none =
    there ∙ get_or_default producers (source.producer - 1) d none below in
    ap (λ (p : ConfigProducer). payload_size (p.page_size_kb * BYTES_PER_KB) MAX_CHUNKS_PER_PAGE) same

-- one source more
pub sizes_more : (producers : List ConfigProducer) (sources : List ConfigSource) (sizes : List ℕ) (i size : ℕ) (source : ConfigSource)
    → i < length sources → source ≡ get_or sources i source → sizes ≡ map (payload_asked producers) (take i sources)
    → size ≡ payload_asked producers source
    → sizes ++ size ∷ [] ≡ map (payload_asked producers) (take (i + 1) sources)
sizes_more producers sources sizes i size source below there before is =
    let last : size ≡ payload_asked producers (get_or sources i source) = is ∙ ap (payload_asked producers) there in
    ap (λ (front : List ℕ). front ++ size ∷ []) before
    ∙ ap (λ (n : ℕ). map (payload_asked producers) (take i sources) ++ n ∷ []) last
    ∙ sym (map_more (payload_asked producers) sources i source below)

-- and there is room for it
pub sizes_below : (producers : List ConfigProducer) (sources : List ConfigSource) (sizes : List ℕ) (i : ℕ) → i < length sources
    → length sources ≤ MAX_WRITERS → sizes ≡ map (payload_asked producers) (take i sources) → length sizes < MAX_WRITERS
sizes_below producers sources sizes i below few before =
    let count : length sizes ≡ length (take i sources) = ap length before ∙ length-map (take i sources) (payload_asked producers) in
    omega (arith, length-take-le i sources)
