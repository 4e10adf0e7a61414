-- Each configuration that blocks say of which none is refused can be written.
use Rattle.std.proofs.Common.{◌≡◌, ◌∙◌, ℕ, zero, suc, ◌+◌, ◌-◌, ◌*◌, ◌/◌, ◌%◌, ◌<◌, ◌≤◌, ◌==◌, nat_lt, Bool, true, false, not, ◌&&◌, List, [], ◌∷◌, ◌++◌, length, get_or, map, Option, Some, None, refl, sym, ap, subst, arith}
use Rattle.std.specs.Prelude.{slice_get, option_map, unwrap_or, position, ◌≢◌}
use Rattle.std.specs.List.{All, filter_map, list_all, list_any, cons_option}
use Rattle.std.specs.Str.{bytes_eq}
use Rattle.std.proofs.lemmas.Bool.{and_parts, and_from, ltb-false, leb-false, eqb-true, both_ways}
use Rattle.std.proofs.lemmas.List.{get_or-map, length-map}
use Rattle.std.proofs.lemmas.List.Elements.{All-nil, All-cons}
use Rattle.std.proofs.lemmas.List.Quantifiers.{position-Some}
use Rattle.std.proofs.lemmas.Option.{slice_get-map, slice_get_within, get_or_from_slice_get}
use Rattle.std.proofs.Math.Nat.{div-add-mod}
use Rattle.trace_base.specs.declared.limits.TheConstants.{BYTES_PER_KB, MAX_CHUNKS_PER_PAGE, MAX_PAGES, MAX_WRITERS}
use Rattle.trace_base.proofs.Lists.{some_there}
use Rattle.page_geometry.specs.Sizes.{payload_size, record_size}
use Rattle.config_text.specs.declared.config.ConfigProducer.{ConfigProducer}
use Rattle.config_text.specs.declared.kept.BufferSaid.{BufferSaid}
use Rattle.trace_base.specs.declared.numeral.Numeral.{Numeral}
use Rattle.trace_base.specs.declared.numeral.Numeral.TheVariants.{Fits}
use Rattle.config_text.specs.Ranges.{is_between, is_page_kb, is_whole_pages, is_shared_memory, value}
use Rattle.config_text.specs.Blocks.{Block, What, Buffer, Producer, Source, ProducerSaid, SourceSaid, no_producer}
use Rattle.config_text.specs.Reasons.{Known, producer_of as known_producer, buffer_in, producer_in, source_in, buffers_said, producers_said, sources_said, size_in, counted_size, sizes_in, or_default, known_in, is_fit_producer, is_too_many, lacks_buffer, item_at, is_named, producer_place, is_larger, is_larger_for, has_larger_chunks, first_refusal}
use Rattle.config_text.specs.Grammar.{buffer_of, producer_of, source_of, config_in}
use Rattle.config_text.specs.Writing.{IsQuotable, IsBuffer, IsProducer, IsSource, IsWritable}
use Rattle.config_text.proofs.RangeLemmas.{between_means, page_means}
use Rattle.config_text.proofs.WrittenEntries.{Each}
use Rattle.config_text.proofs.QuotedLemmas.{IsNamed, NamedBlock}
use Rattle.config_text.proofs.PassedLemmas.{ArePassed, all_passed, cons_each, each_said, few_said, IsSized, buffers_sized, buffers_few, IsPaged, producers_paged, producers_few, HasTarget, source_by, as_many_sizes, place_inside, some_default}

-- ---- each of a list

each_map : {X Y : Type 0} (P : X → Type 0) (Q : Y → Type 0) (f : X → Y) → ((x : X) → P x → Q (f x)) → (xs : List X) → Each P xs → All Q (map f xs)
each_map P Q f leads [] each = All-nil Q
each_map P Q f leads (x ∷ xs) each = All-cons Q (f x) (map f xs) (leads x each.0) (each_map P Q f leads xs each.1)

each_at : {T : Type 0} (P : T → Type 0) (xs : List T) (i : ℕ) (x : T) → Each P xs → slice_get xs i ≡ Some x → P x
each_at P [] i x each is = absurd (cc)
each_at P (y ∷ ys) zero x each is = let same : y ≡ x = cc in subst P same each.0
each_at P (y ∷ ys) (suc i) x each is = each_at P ys i x each.1 is

-- ---- names

each_named : {Y : Type 0} (P : Y → Type 0) (h : What → Option Y) → ((what : What) (y : Y) → h what ≡ Some y → IsNamed what → P y)
    → (blocks : List Block) → Each NamedBlock blocks → Each P (filter_map (λ (block : Block). h block.what) blocks)
each_named P h one [] each = tt
each_named P h one (block ∷ blocks) each =
    cons_each P (h block.what) (filter_map (λ (b : Block). h b.what) blocks) (λ y is. one block.what y is each.0) (each_named P h one blocks each.1)

producer_quotable : (what : What) (said : ProducerSaid) → producer_in what ≡ Some said → IsNamed what → IsQuotable said.name
unfolding producer_in
producer_quotable (Buffer other) said is named = absurd (cc)
producer_quotable (Producer other) said is named =
    let same : other ≡ said = cc in
    let P : ProducerSaid → Type 0 = λ s. IsQuotable s.name in
    subst P same named
producer_quotable (Source other) said is named = absurd (cc)

source_quotable : (what : What) (said : SourceSaid) → source_in what ≡ Some said → IsNamed what → IsQuotable said.name
unfolding source_in
source_quotable (Buffer other) said is named = absurd (cc)
source_quotable (Producer other) said is named = absurd (cc)
source_quotable (Source other) said is named =
    let same : other ≡ said = cc in
    let P : SourceSaid → Type 0 = λ s. IsQuotable s.name in
    subst P same named

default_quotable : (producers : List ProducerSaid) → Each (λ (s : ProducerSaid). IsQuotable s.name) producers → Each (λ (s : ProducerSaid). IsQuotable s.name) (or_default producers)
unfolding or_default no_producer
default_quotable [] each = (tt, tt)
default_quotable (said ∷ others) each = each

-- ---- buffers and producers

buffer_fits : (said : BufferSaid) → IsSized said → IsBuffer (buffer_of said)
unfolding buffer_of value
buffer_fits said sized =
    let P : Option Numeral → Type 0 = λ o. IsBuffer (record { size_kb = value (unwrap_or o (Fits 0)); policy = said.policy }) in
    subst P (sym sized.size_is) (sized.least, sized.most)

producer_fits : (said : ProducerSaid) → IsPaged said → IsQuotable said.name → IsProducer (producer_of said)
unfolding producer_of value is_whole_pages
producer_fits said paged quotable =
    let parts = and_parts (paged.shm % paged.page == 0) (is_between 1 MAX_PAGES (paged.shm / paged.page)) paged.memory_fits in
    let range = between_means 1 MAX_PAGES (paged.shm / paged.page) parts.1 in
    let rest = eqb-true (paged.shm % paged.page) 0 parts.0 in
    let page = page_means paged.page paged.page_fits in
    let P : Numeral → Type 0 = λ n. IsProducer (record { name = said.name; shm_size_kb = value said.shm_size_kb; page_size_kb = value n }) in
    let Q : Numeral → Type 0 = λ n. IsProducer (record { name = said.name; shm_size_kb = value n; page_size_kb = paged.page }) in
    subst P (sym paged.page_is) (subst Q (sym paged.shm_is) (record {
      quotable = quotable;
      least = page.0;
      most = page.1;
      whole = page.2;
      pages = paged.shm / paged.page;
      some_page = range.0;
      few_pages = range.1;
      memory = omega (arith, div-add-mod paged.shm paged.page, rest);
    }))

each_both : {T : Type 0} (P Q : T → Type 0) (xs : List T) → Each P xs → Each Q xs → Each (λ (x : T). P x × Q x) xs
each_both P Q [] a b = tt
each_both P Q (x ∷ xs) a b = ((a.0, b.0), each_both P Q xs a.1 b.1)

-- ---- sources

fit_when : (what : What) → is_fit_producer true what ≡ true
unfolding is_fit_producer
fit_when (Buffer said) = refl
fit_when (Producer said) = refl
fit_when (Source said) = refl

all_fit : (known : Known) (before blocks : List Block) → ArePassed known before blocks → list_all (λ (block : Block). is_fit_producer block.fits block.what) blocks ≡ true
all_fit known before [] passes = refl
all_fit known before (block ∷ blocks) passes =
    and_from (is_fit_producer block.fits block.what) (list_all (λ (b : Block). is_fit_producer b.fits b.what) blocks)
    (ap (λ (fits : Bool). is_fit_producer fits block.what) passes.0.fits ∙ fit_when block.what)
    (all_fit known (before ++ block ∷ []) blocks passes.1)

size_when : (what : What) (sizes : List (Option Numeral)) (said : List BufferSaid) → sizes ≡ map (λ (s : BufferSaid). s.size_kb) said
    → cons_option (size_in true what) sizes ≡ map (λ (s : BufferSaid). s.size_kb) (cons_option (buffer_in what) said)
unfolding size_in counted_size buffer_in
size_when (Buffer one) sizes said rest = ap (λ (ss : List (Option Numeral)). one.size_kb ∷ ss) rest
size_when (Producer one) sizes said rest = rest
size_when (Source one) sizes said rest = rest

sizes_said : (known : Known) (before blocks : List Block) → ArePassed known before blocks → sizes_in blocks ≡ map (λ (s : BufferSaid). s.size_kb) (buffers_said blocks)
sizes_said known before [] passes = refl
sizes_said known before (block ∷ blocks) passes =
    ap (λ (fits : Bool). cons_option (size_in fits block.what) (sizes_in blocks)) passes.0.fits
    ∙ size_when block.what (sizes_in blocks) (buffers_said blocks) (sizes_said known (before ++ block ∷ []) blocks passes.1)

-- a source whose target is there, and whose records fit
record IsFitting (known : Known) (said : SourceSaid) : Type 0 where
  target : HasTarget known.sizes said
  small : has_larger_chunks known (Source said) ≡ false

fitting_by : (known : Known) (what : What) (said : SourceSaid) → source_in what ≡ Some said → lacks_buffer known.sizes what ≡ false → has_larger_chunks known what ≡ false
    → IsFitting known said
unfolding source_in
fitting_by known (Buffer other) said is there small = absurd (cc)
fitting_by known (Producer other) said is there small = absurd (cc)
fitting_by known (Source other) said is there small =
    let same : other ≡ said = cc in
    subst (IsFitting known) same (record { target = source_by known.sizes (Source other) other refl there; small = small })

few_sources_by : (before : List Block) (what : What) (said : SourceSaid) → source_in what ≡ Some said → is_too_many before what ≡ false
    → length (sources_said before) < MAX_WRITERS
unfolding source_in is_too_many
few_sources_by before (Buffer other) said is few = absurd (cc)
few_sources_by before (Producer other) said is few = absurd (cc)
few_sources_by before (Source other) said is few = leb-false MAX_WRITERS (length (sources_said before)) few

-- the first that is named, or the first of all
record IsOwner (producers : List ProducerSaid) (filters : List (List ℕ)) (place : ℕ) (owner : ProducerSaid) : Type 0 where
  first : (k : ℕ) (d : ProducerSaid) → k < place → (get_or producers k d).name ≢ owner.name
  unnamed : owner.name ≡ [] → place ≡ 0

named_some : (filters : List (List ℕ)) (said : ProducerSaid) → is_named filters said ≡ true → said.name ≢ []
unfolding is_named
named_some filters said named empty =
    let P : List ℕ → Type 0 = λ name. (not (length name == 0) && list_any (bytes_eq name) filters) ≡ true in
    let none : (false && list_any (bytes_eq []) filters) ≡ true = subst P empty named in
    absurd (cc)

named_alike : (filters : List (List ℕ)) (a b : ProducerSaid) → a.name ≡ b.name → is_named filters a ≡ is_named filters b
unfolding is_named
named_alike filters a b same = ap (λ (name : List ℕ). not (length name == 0) && list_any (bytes_eq name) filters) same

owner_by : (producers : List ProducerSaid) (filters : List (List ℕ)) (owner : ProducerSaid) (found : Option ℕ) → position (is_named filters) producers ≡ found
    → slice_get producers (unwrap_or found 0) ≡ Some owner → IsOwner producers filters (unwrap_or found 0) owner
owner_by producers filters owner None is there = record { first = λ k d low. absurd (omega (arith, low)); unnamed = λ empty. refl }
owner_by producers filters owner (Some i) is there =
    let parts = position-Some (is_named filters) producers i owner is in
    let here : get_or producers i owner ≡ owner = get_or_from_slice_get producers i owner owner there in
    let named : is_named filters owner ≡ true = ap (is_named filters) (sym here) ∙ parts.1 in
    record {
      first = λ k d low same.
          let earlier = position-Some (is_named filters) producers i d is in
          both_ways (is_named filters (get_or producers k d)) (earlier.2 k low) (named_alike filters (get_or producers k d) owner same ∙ named);
      unnamed = λ empty. absurd (named_some filters owner named empty);
    }

-- a record that isn't larger than its buffer
small_is : (known : Known) (said : SourceSaid) (target size page : ℕ) (owner : ProducerSaid) → known.fit ≡ true → said.target ≡ Fits target
    → slice_get known.sizes target ≡ Some (Some (Fits size)) → slice_get known.producers (producer_place known.producers said.filters) ≡ Some owner
    → is_shared_memory owner.shm_size_kb owner.page_size_kb ≡ true → owner.page_size_kb ≡ Fits page → has_larger_chunks known (Source said) ≡ false
    → record_size (payload_size (page * BYTES_PER_KB) MAX_CHUNKS_PER_PAGE) ≤ size * BYTES_PER_KB
unfolding has_larger_chunks known_producer item_at is_larger_for is_larger
small_is known said target size page owner fit target_is sized there shared page_is larger =
    let record_bytes : ℕ = record_size (payload_size (page * BYTES_PER_KB) MAX_CHUNKS_PER_PAGE) in
    let is_small : nat_lt (size * BYTES_PER_KB) record_bytes ≡ false = rw (target_is, sized, fit, there, shared, page_is) at larger in
    ltb-false (size * BYTES_PER_KB) record_bytes is_small

known_fit : (blocks : List Block) → ArePassed (known_in blocks) [] blocks → (known_in blocks).fit ≡ true
unfolding known_in
known_fit blocks passes = all_fit (known_in blocks) [] blocks passes

memory_by : (said : ProducerSaid) (paged : IsPaged said) → is_shared_memory said.shm_size_kb said.page_size_kb ≡ true
unfolding is_shared_memory
memory_by said paged = rw (paged.shm_is, paged.page_is) (and_from (is_page_kb paged.page) (is_whole_pages paged.shm paged.page) paged.page_fits paged.memory_fits)

source_fits : (blocks : List Block) → ArePassed (known_in blocks) [] blocks → (said : SourceSaid) → IsFitting (known_in blocks) said → IsQuotable said.name
    → IsSource (config_in blocks) (source_of (or_default (producers_said blocks)) said)
unfolding known_in config_in source_of buffer_of producer_of value producer_place
source_fits blocks passes said fitting quotable =
    let known : Known = known_in blocks in
    let producers : List ProducerSaid = or_default (producers_said blocks) in
    let buffers : List BufferSaid = buffers_said blocks in
    let place : ℕ = producer_place producers said.filters in
    let target : ℕ = fitting.target.target in
    let size_of : BufferSaid → Option Numeral = λ s. s.size_kb in
    let owner = some_there producers place (place_inside producers said.filters (some_default (producers_said blocks))) in
    let inside : target < length buffers = omega (arith, fitting.target.inside, as_many_sizes blocks) in
    let buffer = some_there buffers target inside in
    let sized : IsSized buffer.0 = each_at IsSized buffers target buffer.0 (buffers_sized known blocks passes) buffer.1 in
    let paged : IsPaged owner.0 = each_at IsPaged producers place owner.0 (producers_paged known blocks passes) owner.1 in
    let own : IsOwner producers said.filters place owner.0 = owner_by producers said.filters owner.0 (position (is_named said.filters) producers) refl owner.1 in
    let at_size : slice_get (sizes_in blocks) target ≡ Some (Some (Fits sized.size)) =
    ap (λ (ss : List (Option Numeral)). slice_get ss target) (sizes_said known [] blocks passes)
    ∙ slice_get-map size_of buffers target ∙ ap (option_map size_of) buffer.1 ∙ ap (λ (o : Option Numeral). Some o) sized.size_is in
    let small = small_is known said target sized.size paged.page owner.0 (known_fit blocks passes) fitting.target.target_is at_size owner.1
    (memory_by owner.0 paged) paged.page_is fitting.small in
    let P : Numeral → Type 0 = λ n. record_size (payload_size (value n * BYTES_PER_KB) MAX_CHUNKS_PER_PAGE) ≤ sized.size * BYTES_PER_KB in
    let Q : Option Numeral → Type 0 = λ o. record_size (payload_size (value owner.0.page_size_kb * BYTES_PER_KB) MAX_CHUNKS_PER_PAGE) ≤ value (unwrap_or o (Fits 0)) * BYTES_PER_KB in
    let back : place + 1 - 1 ≡ place = omega arith in
    record {
      quotable = quotable;
      buffer = buffer_of buffer.0;
      has_buffer = ap (λ (n : Numeral). slice_get (map buffer_of buffers) (value n)) fitting.target.target_is ∙ slice_get-map buffer_of buffers target ∙ ap (option_map buffer_of) buffer.1;
      producer = producer_of owner.0;
      numbered = omega arith;
      has_producer = ap (slice_get (map producer_of producers)) back ∙ slice_get-map producer_of producers place ∙ ap (option_map producer_of) owner.1;
      first = λ k d low same.
          let before : k < place = omega (arith, low) in
          let long : k < length producers = omega (arith, before, slice_get_within producers place owner.0 owner.1) in
          own.first k owner.0 before (sym (ap (λ (p : ConfigProducer). p.name) (get_or-map producer_of producers k owner.0 d long)) ∙ same);
      unnamed = λ empty. omega (arith, own.unnamed empty);
      fits = subst Q (sym sized.size_is) (subst P (sym paged.page_is) small);
    }

pub is_writable : (blocks : List Block) → first_refusal (known_in blocks) [] blocks ≡ None → Each NamedBlock blocks → IsWritable (config_in blocks)
unfolding config_in
is_writable blocks none named =
    let known : Known = known_in blocks in
    let passes = all_passed known [] blocks none in
    let producers : List ProducerSaid = or_default (producers_said blocks) in
    let quotable = default_quotable (producers_said blocks) (each_named (λ (s : ProducerSaid). IsQuotable s.name) producer_in producer_quotable blocks named) in
    let sources_named = each_named (λ (s : SourceSaid). IsQuotable s.name) source_in source_quotable blocks named in
    let fitting = each_said (IsFitting known) source_in known (λ before block s is p. fitting_by known block.what s is p.there p.small) [] blocks passes in
    record {
      some_producer = omega (arith, some_default (producers_said blocks), length-map producers producer_of);
      few_buffers = omega (arith, buffers_few known blocks passes, length-map (buffers_said blocks) buffer_of);
      few_producers = omega (arith, producers_few known blocks passes, length-map producers producer_of);
      few_sources = omega (
        arith,
        few_said source_in MAX_WRITERS known (λ before block s is p. few_sources_by before block.what s is p.few) [] blocks (omega arith) passes,
        length-map (sources_said blocks) (source_of producers),
      );
      buffers = each_map IsSized IsBuffer buffer_of buffer_fits (buffers_said blocks) (buffers_sized known blocks passes);
      producers = each_map (λ (s : ProducerSaid). IsPaged s × IsQuotable s.name) IsProducer producer_of (λ s both. producer_fits s both.0 both.1) producers
          (each_both IsPaged (λ (s : ProducerSaid). IsQuotable s.name) producers (producers_paged known blocks passes) quotable);
      sources = each_map (λ (s : SourceSaid). IsFitting known s × IsQuotable s.name) (IsSource (config_in blocks)) (source_of producers)
          (λ s both. source_fits blocks passes s both.0 both.1) (sources_said blocks)
          (each_both (IsFitting known) (λ (s : SourceSaid). IsQuotable s.name) (sources_said blocks) fitting sources_named);
    }
