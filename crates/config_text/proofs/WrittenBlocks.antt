-- The blocks that the lines of a configuration say, none of which is refused.
use Rattle.std.proofs.Common.{◌≡◌, ◌∙◌, ℕ, suc, ◌+◌, ◌-◌, ◌*◌, ◌/◌, ◌%◌, ◌^◌, ◌<◌, ◌≤◌, ◌==◌, nat_lt, nat_le, Bool, true, false, not, ◌&&◌, ◌||◌, List, [], ◌∷◌, ◌++◌, length, get_or, map, Option, Some, None, refl, sym, ap, subst, arith, append_assoc}
use Rattle.std.specs.Prelude.{codes, decimal, slice_get, option_map, unwrap_or, ◌≢◌}
use Rattle.std.specs.List.{filter_map, list_all}
use Rattle.std.specs.Str.{bytes_eq}
use Rattle.std.proofs.lemmas.Bool.{and_from, and_right, le-leb, lt-leb, le-ltb, eq-eqb, not_from_true, false_from_ne_true}
use Rattle.std.proofs.lemmas.List.{append-nil, get_or-map, length-map}
use Rattle.std.proofs.lemmas.List.Elements.{filter_map-append}
use Rattle.std.proofs.lemmas.Option.{slice_get-map, slice_get_within, get_or_from_slice_get}
use Rattle.std.proofs.lemmas.Slice.Eq.{bytes_eq-Decides}
use Rattle.std.proofs.Math.Nat.{mul-mod_left, mul-div_cancel}
use Rattle.trace_base.specs.declared.limits.TheConstants.{BYTES_PER_KB, MAX_BUFFERS, MAX_BUFFER_KB, MAX_CHUNKS_PER_PAGE, MAX_PAGES, MAX_PRODUCERS, MAX_WRITERS, MIN_BUFFER_KB}
use Rattle.trace_base.specs.declared.policy.FullPolicy.{FullPolicy}
use Rattle.trace_base.specs.declared.policy.FullPolicy.TheVariants.{Ring, Discard}
use Rattle.trace_base.proofs.Choices.{more_isnt_none}
use Rattle.page_geometry.specs.Sizes.{payload_size, record_size}
use Rattle.text_form.specs.Entries.{Word, Entries, NoEntries, ValueEntry}
use Rattle.config_text.specs.declared.config.ConfigBuffer.{ConfigBuffer}
use Rattle.config_text.specs.declared.config.ConfigProducer.{ConfigProducer}
use Rattle.config_text.specs.declared.config.ConfigSource.{ConfigSource}
use Rattle.config_text.specs.declared.kept.BufferSaid.{BufferSaid}
use Rattle.trace_base.specs.declared.numeral.Numeral.TheVariants.{Fits}
use Rattle.trace_base.specs.Numerals.{numeral_of}
use Rattle.config_text.specs.Ranges.{is_between, is_within, is_page_kb, is_whole_pages, is_shared_memory}
use Rattle.config_text.specs.Blocks.{Block, Buffer, Producer, Source, ProducerSaid, SourceSaid, kind_of, begun, top_block, blocks_of, with_value, with_config_value, saying, what_with, what_with_config, buffer_with, producer_with, source_with, config_with, number_in, text_in, policy_in, policy_of, with_size, with_policy, with_producer_name, with_shm_size, with_page_size, with_filter, with_source_name, with_target, no_buffer, no_producer, no_source, opens_config}
use Rattle.config_text.specs.Configs.{ConfigOf}
use Rattle.config_text.specs.Reasons.{Known, buffers_said, producers_said, sources_said, lacks_size, is_size_out, is_out_of_range, is_too_many, lacks_buffer, item_at, is_named, producer_place, producer_of, is_larger, is_larger_for, has_larger_chunks, refusal_of, or_later, first_refusal}
use Rattle.config_text.specs.Writing.{policy_word, name_of, IsBuffer, IsProducer, IsSource}
use Rattle.trace_base.proofs.DecimalLemmas.{numeral_read}
use Rattle.config_text.proofs.FindingLemmas.{place_found, place_none}
use Rattle.config_text.proofs.WrittenEntries.{buffer_inner, producer_inner, source_inner, lines_then, line_after, Each}

-- ---- what the lines say

abbrev pub buffer_written : ConfigBuffer → BufferSaid
buffer_written buffer = record { size_kb = Some (Fits buffer.size_kb); policy = buffer.policy }

abbrev pub producer_written : ConfigProducer → ProducerSaid
producer_written producer = record { name = producer.name; shm_size_kb = Fits producer.shm_size_kb; page_size_kb = Fits producer.page_size_kb }

abbrev pub source_written : List ConfigProducer → ConfigSource → SourceSaid
source_written producers source = record { name = source.name; target = Fits source.target_buffer; filters = name_of producers source.producer ∷ [] }

abbrev pub buffer_block : ℕ → ConfigBuffer → Block
buffer_block line buffer = record { line = line; fits = true; what = Buffer (buffer_written buffer) }

abbrev pub producer_block : ℕ → ConfigProducer → Block
producer_block line producer = record { line = line; fits = true; what = Producer (producer_written producer) }

abbrev pub source_block : List ConfigProducer → ℕ → ConfigSource → Block
source_block producers line source = record { line = line; fits = true; what = Source (source_written producers source) }

buffer_says : (line size : ℕ) (policy : FullPolicy) → numeral_of (decimal size) ≡ Some (Fits size)
    → top_block line (kind_of (codes "buffers")) (ValueEntry line (codes "size_kb") (Word (decimal size)) (ValueEntry line (codes "fill_policy") (Word (policy_word policy)) NoEntries))
    ≡ buffer_block line (record { size_kb = size; policy = policy }) ∷ []
unfolding kind_of top_block begun with_value saying what_with buffer_with number_in policy_in policy_of with_size with_policy no_buffer
buffer_says line size Ring read = rw read refl
buffer_says line size Discard read = rw read refl

pub buffer_top : (line : ℕ) (buffer : ConfigBuffer) → buffer.size_kb < 2 ^ 64
    → top_block line (kind_of (codes "buffers")) (buffer_inner line buffer) ≡ buffer_block line buffer ∷ []
buffer_top line buffer small = buffer_says line buffer.size_kb buffer.policy (numeral_read buffer.size_kb small)

pub producer_top : (line : ℕ) (producer : ConfigProducer) → producer.shm_size_kb < 2 ^ 64 → producer.page_size_kb < 2 ^ 64
    → top_block line (kind_of (codes "producers")) (producer_inner line producer) ≡ producer_block line producer ∷ []
unfolding kind_of top_block begun with_value saying what_with producer_with number_in text_in with_producer_name with_shm_size with_page_size no_producer
producer_top line producer shm_small page_small =
    simp (numeral_read producer.shm_size_kb shm_small, numeral_read producer.page_size_kb page_small)

pub source_top : (producers : List ConfigProducer) (line : ℕ) (source : ConfigSource) → source.target_buffer < 2 ^ 64
    → top_block line (kind_of (codes "data_sources")) (source_inner producers line source) ≡ source_block producers line source ∷ []
unfolding kind_of top_block begun with_value with_config_value saying what_with what_with_config source_with config_with number_in text_in with_filter with_source_name with_target no_source opens_config
source_top producers line source small = simp (numeral_read source.target_buffer small)

-- ---- all lines of a kind

abbrev pub blocks_from : {T : Type 0} → (ℕ → T → Block) → ℕ → List T → List Block
blocks_from block line [] = []
blocks_from block line (x ∷ xs) = block line x ∷ blocks_from block (suc line) xs

pub blocks_lines : {T : Type 0} (P : T → Type 0) (name : List ℕ) (inner : ℕ → T → Entries) (block : ℕ → T → Block) (others : ℕ → Entries)
    → ((line : ℕ) (x : T) → P x → top_block line (kind_of name) (inner line x) ≡ block line x ∷ [])
    → (xs : List T) (line : ℕ) → Each P xs
    → blocks_of (lines_then name inner line xs others) ≡ blocks_from block line xs ++ blocks_of (others (line_after line xs))
blocks_lines P name inner block others one [] line each = refl
blocks_lines P name inner block others one (x ∷ xs) line each =
    ap (λ (bs : List Block). bs ++ blocks_of (lines_then name inner (suc line) xs others)) (one line x each.0)
    ∙ ap (λ (bs : List Block). block line x ∷ bs) (blocks_lines P name inner block others one xs (suc line) each.1)

-- what is said of each, and of none
pub said_some : {T Y : Type 0} (h : Block → Option Y) (block : ℕ → T → Block) (g : T → Y) → ((line : ℕ) (x : T) → h (block line x) ≡ Some (g x))
    → (xs : List T) (line : ℕ) → filter_map h (blocks_from block line xs) ≡ map g xs
said_some h block g one [] line = refl
said_some h block g one (x ∷ xs) line = rw (one line x) (ap (λ ys. g x ∷ ys) (said_some h block g one xs (suc line)))

pub said_none : {T Y : Type 0} (h : Block → Option Y) (block : ℕ → T → Block) → ((line : ℕ) (x : T) → h (block line x) ≡ None)
    → (xs : List T) (line : ℕ) → filter_map h (blocks_from block line xs) ≡ []
said_none h block one [] line = refl
said_none h block one (x ∷ xs) line = rw (one line x) (said_none h block one xs (suc line))

pub three_parts : {Y : Type 0} (h : Block → Option Y) (a b c : List Block) (x y z : List Y) → filter_map h a ≡ x → filter_map h b ≡ y → filter_map h c ≡ z
    → filter_map h (a ++ (b ++ c)) ≡ x ++ (y ++ z)
three_parts h a b c x y z ax by cz =
    filter_map-append h a (b ++ c)
    ∙ ap (λ ys. filter_map h a ++ ys) (filter_map-append h b c)
    ∙ ap (λ ys. ys ++ (filter_map h b ++ filter_map h c)) ax
    ∙ ap (λ ys. x ++ (ys ++ filter_map h c)) by
    ∙ ap (λ ys. x ++ (y ++ ys)) cz

-- each passes
pub all_pass : {T : Type 0} (test : Block → Bool) (block : ℕ → T → Block) → ((line : ℕ) (x : T) → test (block line x) ≡ true)
    → (xs : List T) (line : ℕ) → list_all test (blocks_from block line xs) ≡ true
all_pass test block one [] line = refl
all_pass test block one (x ∷ xs) line = and_from (test (block line x)) (list_all test (blocks_from block (suc line) xs)) (one line x) (all_pass test block one xs (suc line))

-- ---- none is refused

not_refused : (known : Known) (before : List Block) (block : Block) → block.fits ≡ true → lacks_size block.what ≡ false → is_out_of_range block.what ≡ false
    → is_too_many before block.what ≡ false → lacks_buffer known.sizes block.what ≡ false → has_larger_chunks known block.what ≡ false
    → refusal_of known before block ≡ None
unfolding refusal_of
not_refused known before block fits sized ranged few there small = rw (fits, sized, ranged, few, there, small) refl

between_from : (low high n : ℕ) → low ≤ n → n ≤ high → is_between low high n ≡ true
unfolding is_between
between_from low high n from to = and_from (nat_le low n) (nat_le n high) (le-leb low n from) (le-leb n high to)

pub buffer_passes : (known : Known) (before : List Block) (line : ℕ) (buffer : ConfigBuffer) → IsBuffer buffer → suc (length (buffers_said before)) ≤ MAX_BUFFERS
    → refusal_of known before (buffer_block line buffer) ≡ None
unfolding lacks_size is_out_of_range is_size_out is_within is_too_many lacks_buffer has_larger_chunks
buffer_passes known before line buffer ranged few =
    not_refused known before (buffer_block line buffer) refl refl
    (not_from_true (is_between MIN_BUFFER_KB MAX_BUFFER_KB buffer.size_kb) (between_from MIN_BUFFER_KB MAX_BUFFER_KB buffer.size_kb ranged.0 ranged.1))
    (lt-leb MAX_BUFFERS (length (buffers_said before)) (omega (arith, few))) refl refl

memory_from : (producer : ConfigProducer) → IsProducer producer → is_shared_memory (Fits producer.shm_size_kb) (Fits producer.page_size_kb) ≡ true
unfolding is_shared_memory is_page_kb is_whole_pages
memory_from producer fits =
    let page : ℕ = producer.page_size_kb in
    let shm : ℕ = producer.shm_size_kb in
    let rest : shm % page ≡ 0 = ap (λ (n : ℕ). n % page) fits.memory ∙ mul-mod_left fits.pages page in
    let pages : shm / page ≡ fits.pages = ap (λ (n : ℕ). n / page) fits.memory ∙ mul-div_cancel fits.pages {n = page} (omega (arith, fits.least)) in
    and_from (is_between 4 64 page && (page % 4 == 0)) ((shm % page == 0) && is_between 1 MAX_PAGES (shm / page))
    (and_from (is_between 4 64 page) (page % 4 == 0) (between_from 4 64 page fits.least fits.most) (eq-eqb (page % 4) 0 fits.whole))
    (and_from (shm % page == 0) (is_between 1 MAX_PAGES (shm / page)) (eq-eqb (shm % page) 0 rest)
    (between_from 1 MAX_PAGES (shm / page) (omega (arith, pages, fits.some_page)) (omega (arith, pages, fits.few_pages))))

pub producer_passes : (known : Known) (before : List Block) (line : ℕ) (producer : ConfigProducer) → IsProducer producer → suc (length (producers_said before)) ≤ MAX_PRODUCERS
    → refusal_of known before (producer_block line producer) ≡ None
unfolding lacks_size is_out_of_range is_too_many lacks_buffer has_larger_chunks
producer_passes known before line producer fits few =
    not_refused known before (producer_block line producer) refl refl
    (not_from_true (is_shared_memory (Fits producer.shm_size_kb) (Fits producer.page_size_kb)) (memory_from producer fits))
    (lt-leb MAX_PRODUCERS (length (producers_said before)) (omega (arith, few))) refl refl

-- ---- the producer of a source

same_name : (a b : List ℕ) → a ≡ b → bytes_eq a b ≡ true
same_name a b same = (bytes_eq-Decides a b).1 same

other_name : (a b : List ℕ) → a ≢ b → bytes_eq a b ≡ false
other_name a b other = false_from_ne_true (bytes_eq a b) (λ e. other ((bytes_eq-Decides a b).0 e))

or_none : (b : Bool) → (b || false) ≡ b
or_none true = refl
or_none false = refl

named_first : (name : List ℕ) (said : ProducerSaid) → name ≢ [] → said.name ≡ name → is_named (name ∷ []) said ≡ true
unfolding is_named
named_first [] said some same = absurd (some refl)
named_first (byte ∷ bytes) said some same =
    let P : List ℕ → Type 0 = λ n. (not (length n == 0) && (bytes_eq n (byte ∷ bytes) || false)) ≡ true in
    subst P (sym same) (and_from (not (length (byte ∷ bytes) == 0)) (bytes_eq (byte ∷ bytes) (byte ∷ bytes) || false)
    (rw (more_isnt_none (length bytes)) refl) (or_none (bytes_eq (byte ∷ bytes) (byte ∷ bytes)) ∙ same_name (byte ∷ bytes) (byte ∷ bytes) refl))

named_other : (name : List ℕ) (said : ProducerSaid) → said.name ≢ name → is_named (name ∷ []) said ≡ false
unfolding is_named
named_other name said other = and_right (not (length said.name == 0)) (bytes_eq said.name name || false) (or_none (bytes_eq said.name name) ∙ other_name said.name name other)

empty_name : (said : List ℕ) → (not (length said == 0) && (bytes_eq said [] || false)) ≡ false
empty_name [] = refl
empty_name (byte ∷ bytes) = and_right (not (length (byte ∷ bytes) == 0)) (bytes_eq (byte ∷ bytes) [] || false) (or_none (bytes_eq (byte ∷ bytes) []) ∙ other_name (byte ∷ bytes) [] (λ e. absurd (cc)))

-- the empty name names none
named_nothing : (said : ProducerSaid) → is_named ([] ∷ []) said ≡ false
unfolding is_named
named_nothing said = empty_name said.name

place_by : (config : ConfigOf) (source : ConfigSource) (is : IsSource config source) (name : List ℕ) → is.producer.name ≡ name
    → producer_place (map producer_written config.producers) (name ∷ []) ≡ source.producer - 1
unfolding producer_place
place_by config source is [] same =
    let all : List ProducerSaid = map producer_written config.producers in
    let one : source.producer ≡ 1 = is.unnamed same in
    let zero_place : 0 ≡ source.producer - 1 = omega (arith, one) in
    sym (place_none (is_named ([] ∷ [])) all no_producer (λ k inside. named_nothing (get_or all k no_producer))) ∙ zero_place
place_by config source is (byte ∷ bytes) same =
    let producers : List ConfigProducer = config.producers in
    let name : List ℕ = byte ∷ bytes in
    let i : ℕ = source.producer - 1 in
    let all : List ProducerSaid = map producer_written producers in
    let d : ProducerSaid = producer_written is.producer in
    let inside : i < length producers = slice_get_within producers i is.producer is.has_producer in
    let at : (k : ℕ) → k < length producers → get_or all k d ≡ producer_written (get_or producers k is.producer) = λ k low. get_or-map producer_written producers k is.producer d low in
    let here : get_or producers i is.producer ≡ is.producer = get_or_from_slice_get producers i is.producer is.producer is.has_producer in
    let named : is_named (name ∷ []) (get_or all i d) ≡ true =
    named_first name (get_or all i d) (λ e. absurd (cc)) (ap (λ (p : ProducerSaid). p.name) (at i inside) ∙ ap (λ (p : ConfigProducer). p.name) here ∙ same) in
    let earlier : (k : ℕ) → k < i → is_named (name ∷ []) (get_or all k d) ≡ false = λ k low.
    named_other name (get_or all k d) (λ e. is.first k is.producer low (sym (ap (λ (p : ProducerSaid). p.name) (at k (omega (arith, low, inside)))) ∙ e ∙ sym same)) in
    sym (place_found (is_named (name ∷ [])) all i d (omega (arith, inside, length-map producers producer_written)) earlier named)

owner_is : (config : ConfigOf) (source : ConfigSource) (is : IsSource config source) → name_of config.producers source.producer ≡ is.producer.name
owner_is config source is = ap (λ (o : Option ConfigProducer). unwrap_or (option_map (λ (p : ConfigProducer). p.name) o) []) is.has_producer

pub place_written : (config : ConfigOf) (source : ConfigSource) → IsSource config source
    → producer_place (map producer_written config.producers) (name_of config.producers source.producer ∷ []) ≡ source.producer - 1
place_written config source is = place_by config source is (name_of config.producers source.producer) (sym (owner_is config source is))

-- what is known of a configuration that was written
abbrev pub known_written : ConfigOf → Known
known_written config = record {
  sizes = map (λ (buffer : ConfigBuffer). Some (Fits buffer.size_kb)) config.buffers;
  producers = map producer_written config.producers;
  fit = true;
}

pub source_passes : (config : ConfigOf) (before : List Block) (line : ℕ) (source : ConfigSource) → IsSource config source → suc (length (sources_said before)) ≤ MAX_WRITERS
    → refusal_of (known_written config) before (source_block config.producers line source) ≡ None
unfolding lacks_size is_out_of_range is_too_many lacks_buffer has_larger_chunks item_at producer_of is_larger_for is_larger
source_passes config before line source is few =
    let known : Known = known_written config in
    let target : slice_get known.sizes source.target_buffer ≡ Some (Some (Fits is.buffer.size_kb)) =
    slice_get-map (λ (buffer : ConfigBuffer). Some (Fits buffer.size_kb)) config.buffers source.target_buffer
    ∙ ap (option_map (λ (buffer : ConfigBuffer). Some (Fits buffer.size_kb))) is.has_buffer in
    let owner : slice_get known.producers (producer_place known.producers (name_of config.producers source.producer ∷ [])) ≡ Some (producer_written is.producer) =
    ap (slice_get known.producers) (place_written config source is)
    ∙ slice_get-map producer_written config.producers (source.producer - 1)
    ∙ ap (option_map producer_written) is.has_producer in
    let small : nat_lt (is.buffer.size_kb * BYTES_PER_KB) (record_size (payload_size (is.producer.page_size_kb * BYTES_PER_KB) MAX_CHUNKS_PER_PAGE)) ≡ false =
    le-ltb (is.buffer.size_kb * BYTES_PER_KB) (record_size (payload_size (is.producer.page_size_kb * BYTES_PER_KB) MAX_CHUNKS_PER_PAGE)) is.fits in
    not_refused known before (source_block config.producers line source) refl refl refl
    (lt-leb MAX_WRITERS (length (sources_said before)) (omega (arith, few)))
    (rw target refl)
    (rw (target, owner) (and_right (is_shared_memory (Fits is.producer.shm_size_kb) (Fits is.producer.page_size_kb)) _ small))

-- ---- from line to line

pub none_through : {T : Type 0} (P : T → Type 0) (block : ℕ → T → Block) (count : List Block → ℕ) (limit : ℕ) (known : Known)
    → ((before : List Block) (line : ℕ) (x : T) → P x → suc (count before) ≤ limit → refusal_of known before (block line x) ≡ None)
    → ((before : List Block) (line : ℕ) (x : T) → count (before ++ block line x ∷ []) ≡ suc (count before))
    → (xs : List T) (line : ℕ) (before rest : List Block) → Each P xs → count before + length xs ≤ limit
    → first_refusal known before (blocks_from block line xs ++ rest) ≡ first_refusal known (before ++ blocks_from block line xs) rest
unfolding or_later
none_through P block count limit known one grows [] line before rest each few = ap (λ (bs : List Block). first_refusal known bs rest) (sym (append-nil before))
none_through P block count limit known one grows (x ∷ xs) line before rest each few =
    let more : count (before ++ block line x ∷ []) ≡ suc (count before) = grows before line x in
    rw (one before line x each.0 (omega (arith, few)))
    (none_through P block count limit known one grows xs (suc line) (before ++ block line x ∷ []) rest each.1 (omega (arith, few, more))
    ∙ ap (λ (bs : List Block). first_refusal known bs rest) (append_assoc before (block line x ∷ []) (blocks_from block (suc line) xs)))
