-- What a configuration is written as spells it.
use Rattle.std.proofs.Common.{◌≡◌, ◌∙◌, ℕ, suc, ◌+◌, ◌-◌, ◌*◌, ◌^◌, ◌<◌, ◌≤◌, Bool, true, false, List, [], ◌∷◌, ◌++◌, length, get_or, map, Option, Some, None, Ok, refl, sym, ap, subst, arith, length-append, inl}
use Rattle.std.specs.Prelude.{codes, slice_get, unwrap_or, option_map}
use Rattle.std.specs.List.{All, flat_map, filter_map, list_all}
use Rattle.std.proofs.lemmas.Bool.{and_from}
use Rattle.std.proofs.lemmas.Nat.{mul-le}
use Rattle.std.proofs.lemmas.List.{append-nil}
use Rattle.std.proofs.lemmas.List.Elements.{All-head, All-tail, All-weaker, filter_map-append}
use Rattle.std.proofs.lemmas.List.Folds.{list_all-append}
use Rattle.std.proofs.lemmas.Option.{slice_get_within, slice_get-get_or}
use Rattle.trace_base.specs.declared.limits.TheConstants.{MAX_BUFFERS, MAX_PRODUCERS, MAX_WRITERS}
use Rattle.text_form.specs.Entries.{Entries, NoEntries}
use Rattle.text_form.specs.Grammar.{spot, NoGap, Plain, NoField}
use Rattle.config_text.specs.declared.config.ConfigBuffer.{ConfigBuffer}
use Rattle.config_text.specs.declared.config.ConfigProducer.{ConfigProducer}
use Rattle.config_text.specs.declared.config.ConfigSource.{ConfigSource}
use Rattle.config_text.specs.declared.kept.BufferSaid.{BufferSaid}
use Rattle.trace_base.specs.declared.numeral.Numeral.{Numeral}
use Rattle.trace_base.specs.declared.numeral.Numeral.TheVariants.{Fits}
use Rattle.config_text.specs.Ranges.{value}
use Rattle.config_text.specs.Blocks.{Block, ProducerSaid, SourceSaid, blocks_of}
use Rattle.config_text.specs.Configs.{ConfigOf}
use Rattle.config_text.specs.Reasons.{Known, buffer_in, producer_in, source_in, buffers_said, producers_said, sources_said, size_in, counted_size, sizes_in, is_fit_producer, or_default, known_in, producer_place, first_refusal}
use Rattle.config_text.specs.Grammar.{buffer_of, producer_of, source_of, config_in, unless, judged}
use Rattle.config_text.specs.Writing.{name_of, buffer_line, producer_line, source_line, written_config, IsQuotable, IsBuffer, IsProducer, IsSource, IsWritable}
use Rattle.config_text.specs.Laws.{WrittenIsRead}
use Rattle.config_text.proofs.WrittenEntries.{Goes, Each, buffer_inner, producer_inner, source_inner, lines_then, line_after, lines_go, buffer_goes, producer_goes, source_goes}
use Rattle.config_text.proofs.WrittenBlocks.{buffer_written, producer_written, source_written, buffer_block, producer_block, source_block, buffer_top, producer_top, source_top, blocks_from, blocks_lines, said_some, said_none, three_parts, all_pass, buffer_passes, producer_passes, source_passes, place_written, known_written, none_through}

-- ---- what is known of each

each_from : {T : Type 0} (P : T → Type 0) (xs : List T) → All P xs → Each P xs
each_from P [] all = tt
each_from P (x ∷ xs) all = (All-head P x xs all, each_from P xs (All-tail P x xs all))

buffer_small : (buffer : ConfigBuffer) → IsBuffer buffer → buffer.size_kb < 2 ^ 64
buffer_small buffer fits = omega (arith, fits.1)

page_small : (producer : ConfigProducer) → IsProducer producer → producer.page_size_kb < 2 ^ 64
page_small producer fits = omega (arith, fits.most)

-- the memory of a producer is at most 64 pages of at most 64 KB
memory_most : (pages page : ℕ) → pages ≤ 64 → page ≤ 64 → pages * page ≤ 4096
memory_most pages page few small = omega (arith, mul-le pages page 64 64 few small)

shm_small : (producer : ConfigProducer) → IsProducer producer → producer.shm_size_kb < 2 ^ 64
shm_small producer fits = omega (arith, fits.memory, memory_most fits.pages producer.page_size_kb fits.few_pages fits.most)

target_small : (config : ConfigOf) → length config.buffers ≤ MAX_BUFFERS → (source : ConfigSource) → IsSource config source → source.target_buffer < 2 ^ 64
target_small config few source is = omega (arith, few, slice_get_within config.buffers source.target_buffer is.buffer is.has_buffer)

owner_quotable : (config : ConfigOf) → All IsProducer config.producers → (source : ConfigSource) → IsSource config source → IsQuotable (name_of config.producers source.producer)
owner_quotable config all source is =
    let inside = slice_get_within config.producers (source.producer - 1) is.producer is.has_producer in
    let fits : IsProducer (get_or config.producers (source.producer - 1) is.producer) = all (source.producer - 1) is.producer inside in
    let here : slice_get config.producers (source.producer - 1) ≡ Some (get_or config.producers (source.producer - 1) is.producer) =
    slice_get-get_or config.producers (source.producer - 1) is.producer inside in
    let P : Option ConfigProducer → Type 0 = λ o. IsQuotable (unwrap_or (option_map (λ (p : ConfigProducer). p.name) o) []) in
    subst P (sym here) fits.quotable

-- ---- the fields

abbrev sources_then : ConfigOf → ℕ → Entries
sources_then config line = lines_then (codes "data_sources") (source_inner config.producers) line config.sources (λ _. NoEntries)

abbrev producers_then : ConfigOf → ℕ → Entries
producers_then config line = lines_then (codes "producers") producer_inner line config.producers (sources_then config)

abbrev fields_written : ConfigOf → Entries
fields_written config = lines_then (codes "buffers") buffer_inner 1 config.buffers (producers_then config)

abbrev producers_line : ConfigOf → ℕ
producers_line config = line_after 1 config.buffers

abbrev sources_line : ConfigOf → ℕ
sources_line config = line_after (producers_line config) config.producers

abbrev last_line : ConfigOf → ℕ
last_line config = line_after (sources_line config) config.sources

-- the number of a target is known by the buffers of the configuration
record SourceGoes (config : ConfigOf) (source : ConfigSource) : Type 0 where
  is : IsSource config source
  owner : IsQuotable (name_of config.producers source.producer)
  small : source.target_buffer < 2 ^ 64

source_known : (config : ConfigOf) → IsWritable config → All (SourceGoes config) config.sources
source_known config writable =
    All-weaker (IsSource config) (SourceGoes config)
    (λ source is. record { is = is; owner = owner_quotable config writable.producers source is; small = target_small config writable.few_buffers source is })
    config.sources writable.sources

nothing_goes : (after : Bool) (line : ℕ) → Goes after line [] NoEntries line
nothing_goes after line here gap = NoField after here (spot line []) (Plain after here (spot line []) gap)

all_go : (config : ConfigOf) → IsWritable config → Goes false 1 (written_config config) (fields_written config) (last_line config)
all_go config writable =
    let sources_text : List ℕ = flat_map (source_line config.producers) config.sources in
    let sources : (after : Bool) → Goes after (sources_line config) (sources_text ++ []) (sources_then config (sources_line config)) (last_line config) = λ after.
    lines_go (SourceGoes config) (source_line config.producers) (codes "data_sources") (source_inner config.producers) [] (λ _. NoEntries) (last_line config)
    (λ line source rest known. source_goes config.producers line source rest known.is.quotable known.owner known.small)
    config.sources (sources_line config) after (each_from (SourceGoes config) config.sources (source_known config writable))
    (λ behind. nothing_goes behind (last_line config)) in
    let P : List ℕ → Type 0 = λ bytes. (after : Bool) → Goes after (sources_line config) bytes (sources_then config (sources_line config)) (last_line config) in
    let producers : (after : Bool) → Goes after (producers_line config) (flat_map producer_line config.producers ++ sources_text) (producers_then config (producers_line config)) (last_line config) = λ after.
    lines_go IsProducer producer_line (codes "producers") producer_inner sources_text (sources_then config) (last_line config)
    (λ line producer rest fits. producer_goes line producer rest fits.quotable (shm_small producer fits) (page_small producer fits))
    config.producers (producers_line config) after (each_from IsProducer config.producers writable.producers)
    (subst P (append-nil sources_text) sources) in
    lines_go IsBuffer buffer_line (codes "buffers") buffer_inner (flat_map producer_line config.producers ++ sources_text) (producers_then config) (last_line config)
    (λ line buffer rest fits. buffer_goes line buffer rest (buffer_small buffer fits))
    config.buffers 1 false (each_from IsBuffer config.buffers writable.buffers) producers

-- ---- the blocks

abbrev buffers_part : ConfigOf → List Block
buffers_part config = blocks_from buffer_block 1 config.buffers

abbrev producers_part : ConfigOf → List Block
producers_part config = blocks_from producer_block (producers_line config) config.producers

abbrev sources_part : ConfigOf → List Block
sources_part config = blocks_from (source_block config.producers) (sources_line config) config.sources

abbrev blocks_written : ConfigOf → List Block
blocks_written config = buffers_part config ++ (producers_part config ++ sources_part config)

blocks_are : (config : ConfigOf) → IsWritable config → blocks_of (fields_written config) ≡ blocks_written config
blocks_are config writable =
    let sources : blocks_of (sources_then config (sources_line config)) ≡ sources_part config =
    blocks_lines (SourceGoes config) (codes "data_sources") (source_inner config.producers) (source_block config.producers) (λ _. NoEntries)
    (λ line source known. source_top config.producers line source known.small)
    config.sources (sources_line config) (each_from (SourceGoes config) config.sources (source_known config writable))
    ∙ append-nil (sources_part config) in
    let producers : blocks_of (producers_then config (producers_line config)) ≡ producers_part config ++ sources_part config =
    blocks_lines IsProducer (codes "producers") producer_inner producer_block (sources_then config)
    (λ line producer fits. producer_top line producer (shm_small producer fits) (page_small producer fits))
    config.producers (producers_line config) (each_from IsProducer config.producers writable.producers)
    ∙ ap (λ (bs : List Block). producers_part config ++ bs) sources in
    blocks_lines IsBuffer (codes "buffers") buffer_inner buffer_block (producers_then config)
    (λ line buffer fits. buffer_top line buffer (buffer_small buffer fits))
    config.buffers 1 (each_from IsBuffer config.buffers writable.buffers)
    ∙ ap (λ (bs : List Block). buffers_part config ++ bs) producers

-- ---- what they say

buffers_are : (config : ConfigOf) → buffers_said (blocks_written config) ≡ map buffer_written config.buffers
unfolding buffer_in
buffers_are config =
    three_parts (λ (block : Block). buffer_in block.what) (buffers_part config) (producers_part config) (sources_part config) (map buffer_written config.buffers) [] []
    (said_some (λ (block : Block). buffer_in block.what) buffer_block buffer_written (λ line x. refl) config.buffers 1)
    (said_none (λ (block : Block). buffer_in block.what) producer_block (λ line x. refl) config.producers (producers_line config))
    (said_none (λ (block : Block). buffer_in block.what) (source_block config.producers) (λ line x. refl) config.sources (sources_line config))
    ∙ append-nil (map buffer_written config.buffers)

producers_are : (config : ConfigOf) → producers_said (blocks_written config) ≡ map producer_written config.producers
unfolding producer_in
producers_are config =
    three_parts (λ (block : Block). producer_in block.what) (buffers_part config) (producers_part config) (sources_part config) [] (map producer_written config.producers) []
    (said_none (λ (block : Block). producer_in block.what) buffer_block (λ line x. refl) config.buffers 1)
    (said_some (λ (block : Block). producer_in block.what) producer_block producer_written (λ line x. refl) config.producers (producers_line config))
    (said_none (λ (block : Block). producer_in block.what) (source_block config.producers) (λ line x. refl) config.sources (sources_line config))
    ∙ append-nil (map producer_written config.producers)

sources_are : (config : ConfigOf) → sources_said (blocks_written config) ≡ map (source_written config.producers) config.sources
unfolding source_in
sources_are config =
    three_parts (λ (block : Block). source_in block.what) (buffers_part config) (producers_part config) (sources_part config) [] [] (map (source_written config.producers) config.sources)
    (said_none (λ (block : Block). source_in block.what) buffer_block (λ line x. refl) config.buffers 1)
    (said_none (λ (block : Block). source_in block.what) producer_block (λ line x. refl) config.producers (producers_line config))
    (said_some (λ (block : Block). source_in block.what) (source_block config.producers) (source_written config.producers) (λ line x. refl) config.sources (sources_line config))

sizes_are : (config : ConfigOf) → sizes_in (blocks_written config) ≡ map (λ (buffer : ConfigBuffer). Some (Fits buffer.size_kb)) config.buffers
unfolding size_in counted_size
sizes_are config =
    let size : ConfigBuffer → Option Numeral = λ buffer. Some (Fits buffer.size_kb) in
    three_parts (λ (block : Block). size_in block.fits block.what) (buffers_part config) (producers_part config) (sources_part config) (map size config.buffers) [] []
    (said_some (λ (block : Block). size_in block.fits block.what) buffer_block size (λ line x. refl) config.buffers 1)
    (said_none (λ (block : Block). size_in block.fits block.what) producer_block (λ line x. refl) config.producers (producers_line config))
    (said_none (λ (block : Block). size_in block.fits block.what) (source_block config.producers) (λ line x. refl) config.sources (sources_line config))
    ∙ append-nil (map size config.buffers)

fit_is : (config : ConfigOf) → list_all (λ (block : Block). is_fit_producer block.fits block.what) (blocks_written config) ≡ true
unfolding is_fit_producer
fit_is config =
    let test : Block → Bool = λ block. is_fit_producer block.fits block.what in
    list_all-append test (buffers_part config) (producers_part config ++ sources_part config)
    ∙ and_from (list_all test (buffers_part config)) (list_all test (producers_part config ++ sources_part config))
    (all_pass test buffer_block (λ line x. refl) config.buffers 1)
    (list_all-append test (producers_part config) (sources_part config)
    ∙ and_from (list_all test (producers_part config)) (list_all test (sources_part config))
    (all_pass test producer_block (λ line x. refl) config.producers (producers_line config))
    (all_pass test (source_block config.producers) (λ line x. refl) config.sources (sources_line config)))

some_said : (producers : List ConfigProducer) → 0 < length producers → or_default (map producer_written producers) ≡ map producer_written producers
unfolding or_default
some_said [] some = absurd (omega (arith, some))
some_said (producer ∷ producers) some = refl

defaults_are : (config : ConfigOf) → IsWritable config → or_default (producers_said (blocks_written config)) ≡ map producer_written config.producers
defaults_are config writable = ap or_default (producers_are config) ∙ some_said config.producers writable.some_producer

known_is : (config : ConfigOf) → IsWritable config → known_in (blocks_written config) ≡ known_written config
unfolding known_in
known_is config writable =
    ap (λ (sizes : List (Option Numeral)). record {
      sizes = sizes;
      producers = or_default (producers_said (blocks_written config));
      fit = list_all (λ (block : Block). is_fit_producer block.fits block.what) (blocks_written config);
    }) (sizes_are config)
    ∙ ap (λ (producers : List ProducerSaid). record {
      sizes = map (λ (buffer : ConfigBuffer). Some (Fits buffer.size_kb)) config.buffers;
      producers = producers;
      fit = list_all (λ (block : Block). is_fit_producer block.fits block.what) (blocks_written config);
    }) (defaults_are config writable)
    ∙ ap (λ (fit : Bool). record { sizes = map (λ (buffer : ConfigBuffer). Some (Fits buffer.size_kb)) config.buffers; producers = map producer_written config.producers; fit = fit }) (fit_is config)

-- ---- none is refused

push_len : {T : Type 0} (xs : List T) (x : T) → length (xs ++ x ∷ []) ≡ suc (length xs)
push_len xs x = omega (arith, length-append xs (x ∷ []))

-- one more of a kind
more_said : {Y : Type 0} (h : Block → Option Y) (before : List Block) (block : Block) (y : Y) → h block ≡ Some y
    → length (filter_map h (before ++ block ∷ [])) ≡ suc (length (filter_map h before))
more_said h before block y is =
    ap length (filter_map-append h before (block ∷ []))
    ∙ ap (λ ys. length (filter_map h before ++ ys)) (let one : filter_map h (block ∷ []) ≡ y ∷ [] = rw is refl in one)
    ∙ push_len (filter_map h before) y

buffers_pass : (config : ConfigOf) → IsWritable config
    → first_refusal (known_written config) [] (blocks_written config) ≡ first_refusal (known_written config) (buffers_part config) (producers_part config ++ sources_part config)
unfolding buffer_in
buffers_pass config writable =
    let h : Block → Option BufferSaid = λ block. buffer_in block.what in
    none_through IsBuffer buffer_block (λ (bs : List Block). length (buffers_said bs)) MAX_BUFFERS (known_written config)
    (λ before line x fits few. buffer_passes (known_written config) before line x fits few)
    (λ before line x. more_said h before (buffer_block line x) (buffer_written x) refl)
    config.buffers 1 [] (producers_part config ++ sources_part config) (each_from IsBuffer config.buffers writable.buffers) (omega (arith, writable.few_buffers))

producers_pass : (config : ConfigOf) → IsWritable config
    → first_refusal (known_written config) (buffers_part config) (producers_part config ++ sources_part config)
    ≡ first_refusal (known_written config) (buffers_part config ++ producers_part config) (sources_part config)
unfolding producer_in
producers_pass config writable =
    let h : Block → Option ProducerSaid = λ block. producer_in block.what in
    let none : producers_said (buffers_part config) ≡ [] = said_none h buffer_block (λ line x. refl) config.buffers 1 in
    none_through IsProducer producer_block (λ (bs : List Block). length (producers_said bs)) MAX_PRODUCERS (known_written config)
    (λ before line x fits few. producer_passes (known_written config) before line x fits few)
    (λ before line x. more_said h before (producer_block line x) (producer_written x) refl)
    config.producers (producers_line config) (buffers_part config) (sources_part config) (each_from IsProducer config.producers writable.producers)
    (omega (arith, ap length none, writable.few_producers))

sources_pass : (config : ConfigOf) → IsWritable config
    → first_refusal (known_written config) (buffers_part config ++ producers_part config) (sources_part config) ≡ None
unfolding source_in
sources_pass config writable =
    let h : Block → Option SourceSaid = λ block. source_in block.what in
    let before_all : List Block = buffers_part config ++ producers_part config in
    let none : sources_said before_all ≡ [] =
    filter_map-append h (buffers_part config) (producers_part config)
    ∙ ap (λ (ys : List SourceSaid). ys ++ filter_map h (producers_part config)) (said_none h buffer_block (λ line x. refl) config.buffers 1)
    ∙ said_none h producer_block (λ line x. refl) config.producers (producers_line config) in
    ap (first_refusal (known_written config) before_all) (sym (append-nil (sources_part config)))
    ∙ none_through (IsSource config) (source_block config.producers) (λ (bs : List Block). length (sources_said bs)) MAX_WRITERS (known_written config)
    (λ before line x fits few. source_passes config before line x fits few)
    (λ before line x. more_said h before (source_block config.producers line x) (source_written config.producers x) refl)
    config.sources (sources_line config) before_all [] (each_from (IsSource config) config.sources writable.sources)
    (omega (arith, ap length none, writable.few_sources))

none_refused : (config : ConfigOf) → IsWritable config → first_refusal (known_written config) [] (blocks_written config) ≡ None
none_refused config writable = buffers_pass config writable ∙ producers_pass config writable ∙ sources_pass config writable

-- ---- the configuration

map_back : {T U : Type 0} (f : U → T) (g : T → U) → ((x : T) → f (g x) ≡ x) → (xs : List T) → map f (map g xs) ≡ xs
map_back f g back [] = refl
map_back f g back (x ∷ xs) = ap (λ y. y ∷ map f (map g xs)) (back x) ∙ ap (λ ys. x ∷ ys) (map_back f g back xs)

map_back_each : {T U : Type 0} (P : T → Type 0) (f : U → T) (g : T → U) → ((x : T) → P x → f (g x) ≡ x) → (xs : List T) → Each P xs → map f (map g xs) ≡ xs
map_back_each P f g back [] each = refl
map_back_each P f g back (x ∷ xs) each = ap (λ y. y ∷ map f (map g xs)) (back x each.0) ∙ ap (λ ys. x ∷ ys) (map_back_each P f g back xs each.1)

source_back : (config : ConfigOf) (source : ConfigSource) → IsSource config source
    → source_of (map producer_written config.producers) (source_written config.producers source) ≡ source
unfolding source_of value
source_back config source is =
    let number : producer_place (map producer_written config.producers) (name_of config.producers source.producer ∷ []) + 1 ≡ source.producer =
    omega (arith, place_written config source is, is.numbered) in
    ap (λ (n : ℕ). record { name = source.name; target_buffer = source.target_buffer; producer = n }) number

buffer_back : (buffer : ConfigBuffer) → buffer_of (buffer_written buffer) ≡ buffer
unfolding buffer_of value
buffer_back buffer = refl

producer_back : (producer : ConfigProducer) → producer_of (producer_written producer) ≡ producer
unfolding producer_of value
producer_back producer = refl

config_back : (config : ConfigOf) → IsWritable config → config_in (blocks_written config) ≡ config
unfolding config_in
config_back config writable =
    let made : List ProducerSaid = map producer_written config.producers in
    ap (λ (bs : List ConfigBuffer). record {
      buffers = bs;
      producers = map producer_of (or_default (producers_said (blocks_written config)));
      sources = map (source_of (or_default (producers_said (blocks_written config)))) (sources_said (blocks_written config));
    })
    (ap (map buffer_of) (buffers_are config) ∙ map_back buffer_of buffer_written buffer_back config.buffers)
    ∙ ap (λ (ps : List ProducerSaid). record { buffers = config.buffers; producers = map producer_of ps; sources = map (source_of ps) (sources_said (blocks_written config)) })
    (defaults_are config writable)
    ∙ ap (λ (ps : List ConfigProducer). record { buffers = config.buffers; producers = ps; sources = map (source_of made) (sources_said (blocks_written config)) })
    (map_back producer_of producer_written producer_back config.producers)
    ∙ ap (λ (ss : List ConfigSource). record { buffers = config.buffers; producers = config.producers; sources = ss })
    (ap (map (source_of made)) (sources_are config)
    ∙ map_back_each (IsSource config) (source_of made) (source_written config.producers) (source_back config) config.sources (each_from (IsSource config) config.sources writable.sources))

judged_written : (config : ConfigOf) → IsWritable config → judged (blocks_of (fields_written config)) ≡ Ok config
unfolding judged unless
judged_written config writable =
    ap judged (blocks_are config writable)
    ∙ ap (λ (known : Known). unless (first_refusal known [] (blocks_written config)) (config_in (blocks_written config))) (known_is config writable)
    ∙ ap (λ o. unless o (config_in (blocks_written config))) (none_refused config writable)
    ∙ ap (λ (made : ConfigOf). Ok made) (config_back config writable)

pub written_is_read : WrittenIsRead
written_is_read config writable = record {
  entries = fields_written config;
  text_of = record {
    last = spot (last_line config) [];
    fields = all_go config writable (spot 1 (written_config config)) (NoGap (spot 1 (written_config config)));
    ends = inl refl;
  };
  says = judged_written config writable;
}
