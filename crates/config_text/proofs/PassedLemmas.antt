-- What holds of blocks of which none is refused.
use Rattle.std.proofs.Common.{◌≡◌, ◌∙◌, ℕ, zero, suc, ◌+◌, ◌/◌, ◌%◌, ◌<◌, ◌≤◌, ◌==◌, Bool, true, false, not, List, [], ◌∷◌, ◌++◌, length, map, Option, Some, None, refl, sym, ap, subst, arith, append_assoc, length-append}
use Rattle.std.specs.Prelude.{slice_get, unwrap_or, is_none, position}
use Rattle.std.specs.List.{filter_map, cons_option}
use Rattle.std.proofs.lemmas.Nat.{mul-le}
use Rattle.std.proofs.Math.Nat.{div-add-mod}
use Rattle.trace_base.specs.declared.policy.FullPolicy.{FullPolicy}
use Rattle.config_text.specs.declared.config.ConfigBuffer.{ConfigBuffer}
use Rattle.config_text.specs.declared.config.ConfigProducer.{ConfigProducer}
use Rattle.config_text.specs.declared.config.ConfigSource.{ConfigSource}
use Rattle.std.proofs.lemmas.Bool.{and_parts, leb-false, eqb-true, lt-ltb, not-false}
use Rattle.std.proofs.lemmas.List.{append-nil}
use Rattle.std.proofs.lemmas.List.Elements.{filter_map-append}
use Rattle.std.proofs.lemmas.List.Quantifiers.{position-Some}
use Rattle.trace_base.specs.declared.limits.TheConstants.{MAX_BUFFERS, MAX_BUFFER_KB, MAX_PAGES, MAX_PRODUCERS, MIN_BUFFER_KB}
use Rattle.config_text.specs.declared.kept.BufferSaid.{BufferSaid}
use Rattle.trace_base.specs.declared.numeral.Numeral.{Numeral}
use Rattle.trace_base.specs.declared.numeral.Numeral.TheVariants.{Fits, TooLarge}
use Rattle.config_text.specs.declared.reason.ConfigReason.{ConfigReason}
use Rattle.config_text.specs.declared.reason.ConfigReason.TheVariants as reasons
use Rattle.config_text.specs.Ranges.{is_between, is_within, is_page_kb, is_whole_pages, is_shared_memory, value}
use Rattle.config_text.specs.Blocks.{Block, What, Buffer, Producer, Source, ProducerSaid, SourceSaid, no_producer}
use Rattle.config_text.specs.Reasons.{Known, buffer_in, producer_in, source_in, buffers_said, producers_said, sources_said, size_in, sizes_in, or_default, known_in, lacks_size, is_size_out, is_out_of_range, is_too_many, lacks_buffer, item_at, is_named, producer_place, has_larger_chunks, when, first, refusal_of, or_later, first_refusal}
use Rattle.config_text.specs.Grammar.{buffer_of, producer_of, source_of, config_in}
use Rattle.config_text.specs.Narrow.{narrow, narrow_place, buffer_of as narrow_buffer, producer_of as narrow_producer, source_of as narrow_source, config_known}
use Rattle.config_text.proofs.RangeLemmas.{between_means, page_means}
use Rattle.config_text.proofs.WrittenEntries.{Each}

-- ---- a block that isn't refused

when_none : (test : Bool) (reason : ConfigReason) (more : List (Option ConfigReason)) → first (when test reason ∷ more) ≡ None → (test ≡ false) × (first more ≡ None)
when_none true reason more none = absurd (cc)
when_none false reason more none = (refl, none)

pub record IsPassed (known : Known) (before : List Block) (block : Block) : Type 0 where
  pub fits : block.fits ≡ true
  pub sized : lacks_size block.what ≡ false
  pub ranged : is_out_of_range block.what ≡ false
  pub few : is_too_many before block.what ≡ false
  pub there : lacks_buffer known.sizes block.what ≡ false
  pub small : has_larger_chunks known block.what ≡ false

pub passed : (known : Known) (before : List Block) (block : Block) → refusal_of known before block ≡ None → IsPassed known before block
unfolding refusal_of
passed known before block none =
    let what : What = block.what in
    let six : List (Option ConfigReason) = when (has_larger_chunks known what) reasons.ChunkLargerThanBuffer ∷ [] in
    let five : List (Option ConfigReason) = when (lacks_buffer known.sizes what) reasons.NoSuchBuffer ∷ six in
    let four : List (Option ConfigReason) = when (is_too_many before what) reasons.TooMany ∷ five in
    let three : List (Option ConfigReason) = when (is_out_of_range what) reasons.OutOfRange ∷ four in
    let two : List (Option ConfigReason) = when (lacks_size what) reasons.MissingSize ∷ three in
    let a = when_none (not block.fits) reasons.WrongKind two none in
    let b = when_none (lacks_size what) reasons.MissingSize three a.1 in
    let c = when_none (is_out_of_range what) reasons.OutOfRange four b.1 in
    let d = when_none (is_too_many before what) reasons.TooMany five c.1 in
    let e = when_none (lacks_buffer known.sizes what) reasons.NoSuchBuffer six d.1 in
    let f = when_none (has_larger_chunks known what) reasons.ChunkLargerThanBuffer [] e.1 in
    record { fits = not-false block.fits a.0; sized = b.0; ranged = c.0; few = d.0; there = e.0; small = f.0 }

-- ---- blocks of which none is

-- each of these, behind those before it
abbrev pub ArePassed : Known → List Block → List Block → Type 0
ArePassed known before [] = Unit {0}
ArePassed known before (block ∷ blocks) = IsPassed known before block × ArePassed known (before ++ block ∷ []) blocks

later_none : (line : ℕ) (found : Option ConfigReason) (later : Option (ℕ × ConfigReason)) → or_later line found later ≡ None → (found ≡ None) × (later ≡ None)
unfolding or_later
later_none line None later none = (refl, none)
later_none line (Some reason) later none = absurd (cc)

pub all_passed : (known : Known) (before blocks : List Block) → first_refusal known before blocks ≡ None → ArePassed known before blocks
all_passed known before [] none = tt
all_passed known before (block ∷ blocks) none =
    let parts = later_none block.line (refusal_of known before block) (first_refusal known (before ++ block ∷ []) blocks) none in
    (passed known before block parts.0, all_passed known (before ++ block ∷ []) blocks parts.1)

pub cons_each : {Y : Type 0} (P : Y → Type 0) (found : Option Y) (rest : List Y) → ((y : Y) → found ≡ Some y → P y) → Each P rest → Each P (cons_option found rest)
cons_each P None rest holds each = each
cons_each P (Some y) rest holds each = (holds y refl, each)

-- what holds of what is said in one of a kind that is passed holds of all
pub each_said : {Y : Type 0} (P : Y → Type 0) (h : What → Option Y) (known : Known)
    → ((before : List Block) (block : Block) (y : Y) → h block.what ≡ Some y → IsPassed known before block → P y)
    → (before blocks : List Block) → ArePassed known before blocks → Each P (filter_map (λ (block : Block). h block.what) blocks)
each_said P h known one before [] passed_all = tt
each_said P h known one before (block ∷ blocks) passed_all =
    cons_each P (h block.what) (filter_map (λ (b : Block). h b.what) blocks) (λ y is. one before block y is passed_all.0)
    (each_said P h known one (before ++ block ∷ []) blocks passed_all.1)

cons_few : {Y : Type 0} (found : Option Y) (n limit : ℕ) → n ≤ limit → ((y : Y) → found ≡ Some y → n < limit) → n + length (cons_option found []) ≤ limit
cons_few None n limit few one = omega (arith, few)
cons_few (Some y) n limit few one = let less : n < limit = one y refl in omega (arith, less)

-- no more than a limit of a kind, where there were fewer before each
pub few_said : {Y : Type 0} (h : What → Option Y) (limit : ℕ) (known : Known)
    → ((before : List Block) (block : Block) (y : Y) → h block.what ≡ Some y → IsPassed known before block → length (filter_map (λ (b : Block). h b.what) before) < limit)
    → (before blocks : List Block) → length (filter_map (λ (b : Block). h b.what) before) ≤ limit → ArePassed known before blocks
    → length (filter_map (λ (b : Block). h b.what) (before ++ blocks)) ≤ limit
few_said h limit known one before [] few passed_all =
    let same = ap (λ (bs : List Block). length (filter_map (λ (b : Block). h b.what) bs)) (append-nil before) in
    omega (arith, few, same)
few_said {Y} h limit known one before (block ∷ blocks) few passed_all =
    let test : Block → Option Y = λ b. h b.what in
    let so_far = filter_map-append test before (block ∷ []) in
    let long = length-append (filter_map test before) (filter_map test (block ∷ [])) in
    let next = cons_few (h block.what) (length (filter_map test before)) limit few (λ y is. one before block y is passed_all.0) in
    let rest = few_said h limit known one (before ++ block ∷ []) blocks (omega (arith, ap length so_far, long, next)) passed_all.1 in
    let same = ap (λ (bs : List Block). length (filter_map test bs)) (append_assoc before (block ∷ []) blocks) in
    omega (arith, rest, same)

-- ---- buffers

pub record IsSized (said : BufferSaid) : Type 0 where
  pub size : ℕ
  pub size_is : said.size_kb ≡ Some (Fits size)
  pub least : MIN_BUFFER_KB ≤ size
  pub most : size ≤ MAX_BUFFER_KB

sized_by : (policy : FullPolicy) (size : Option Numeral) → is_none size ≡ false → is_size_out size ≡ false → IsSized (record { size_kb = size; policy = policy })
unfolding is_size_out is_within
sized_by policy None some ranged = absurd (cc)
sized_by policy (Some (Fits n)) some ranged =
    let means = between_means MIN_BUFFER_KB MAX_BUFFER_KB n (not-false (is_between MIN_BUFFER_KB MAX_BUFFER_KB n) ranged) in
    record { size = n; size_is = refl; least = means.0; most = means.1 }
sized_by policy (Some TooLarge) some ranged = absurd (cc)

buffer_by : (what : What) (said : BufferSaid) → buffer_in what ≡ Some said → lacks_size what ≡ false → is_out_of_range what ≡ false → IsSized said
unfolding buffer_in lacks_size is_out_of_range
buffer_by (Buffer other) said is sized ranged =
    let same : other ≡ said = cc in
    subst IsSized same (sized_by other.policy other.size_kb sized ranged)
buffer_by (Producer other) said is sized ranged = absurd (cc)
buffer_by (Source other) said is sized ranged = absurd (cc)

few_buffers_by : (before : List Block) (what : What) (said : BufferSaid) → buffer_in what ≡ Some said → is_too_many before what ≡ false
    → length (buffers_said before) < MAX_BUFFERS
unfolding buffer_in is_too_many
few_buffers_by before (Buffer other) said is few = leb-false MAX_BUFFERS (length (buffers_said before)) few
few_buffers_by before (Producer other) said is few = absurd (cc)
few_buffers_by before (Source other) said is few = absurd (cc)

pub buffers_sized : (known : Known) (blocks : List Block) → ArePassed known [] blocks → Each IsSized (buffers_said blocks)
buffers_sized known blocks passed_all =
    each_said IsSized buffer_in known (λ before block said is passes. buffer_by block.what said is passes.sized passes.ranged) [] blocks passed_all

pub buffers_few : (known : Known) (blocks : List Block) → ArePassed known [] blocks → length (buffers_said blocks) ≤ MAX_BUFFERS
buffers_few known blocks passed_all =
    few_said buffer_in MAX_BUFFERS known (λ before block said is passes. few_buffers_by before block.what said is passes.few) [] blocks (omega arith) passed_all

-- ---- producers

pub record IsPaged (said : ProducerSaid) : Type 0 where
  pub shm : ℕ
  pub page : ℕ
  pub shm_is : said.shm_size_kb ≡ Fits shm
  pub page_is : said.page_size_kb ≡ Fits page
  pub page_fits : is_page_kb page ≡ true
  pub memory_fits : is_whole_pages shm page ≡ true

pub paged_by : (name : List ℕ) (shm page : Numeral) → is_shared_memory shm page ≡ true → IsPaged (record { name = name; shm_size_kb = shm; page_size_kb = page })
unfolding is_shared_memory
paged_by name (Fits shm) (Fits page) fits =
    let parts = and_parts (is_page_kb page) (is_whole_pages shm page) fits in
    record { shm = shm; page = page; shm_is = refl; page_is = refl; page_fits = parts.0; memory_fits = parts.1 }
paged_by name (Fits shm) TooLarge fits = absurd (cc)
paged_by name TooLarge page fits = absurd (cc)

producer_by : (what : What) (said : ProducerSaid) → producer_in what ≡ Some said → is_out_of_range what ≡ false → IsPaged said
unfolding producer_in is_out_of_range
producer_by (Buffer other) said is ranged = absurd (cc)
producer_by (Producer other) said is ranged =
    let same : other ≡ said = cc in
    subst IsPaged same (paged_by other.name other.shm_size_kb other.page_size_kb (not-false (is_shared_memory other.shm_size_kb other.page_size_kb) ranged))
producer_by (Source other) said is ranged = absurd (cc)

few_producers_by : (before : List Block) (what : What) (said : ProducerSaid) → producer_in what ≡ Some said → is_too_many before what ≡ false
    → length (producers_said before) < MAX_PRODUCERS
unfolding producer_in is_too_many
few_producers_by before (Buffer other) said is few = absurd (cc)
few_producers_by before (Producer other) said is few = leb-false MAX_PRODUCERS (length (producers_said before)) few
few_producers_by before (Source other) said is few = absurd (cc)

default_paged : IsPaged no_producer
unfolding no_producer is_page_kb is_between is_whole_pages
default_paged = record { shm = 256; page = 4; shm_is = refl; page_is = refl; page_fits = refl; memory_fits = refl }

or_default_each : (producers : List ProducerSaid) → Each IsPaged producers → Each IsPaged (or_default producers)
unfolding or_default
or_default_each [] each = (default_paged, tt)
or_default_each (said ∷ others) each = each

or_default_few : (producers : List ProducerSaid) → length producers ≤ MAX_PRODUCERS → length (or_default producers) ≤ MAX_PRODUCERS
unfolding or_default
or_default_few [] few = omega arith
or_default_few (said ∷ others) few = few

pub producers_paged : (known : Known) (blocks : List Block) → ArePassed known [] blocks → Each IsPaged (or_default (producers_said blocks))
producers_paged known blocks passed_all =
    or_default_each (producers_said blocks)
    (each_said IsPaged producer_in known (λ before block said is passes. producer_by block.what said is passes.ranged) [] blocks passed_all)

pub producers_few : (known : Known) (blocks : List Block) → ArePassed known [] blocks → length (or_default (producers_said blocks)) ≤ MAX_PRODUCERS
producers_few known blocks passed_all =
    or_default_few (producers_said blocks)
    (few_said producer_in MAX_PRODUCERS known (λ before block said is passes. few_producers_by before block.what said is passes.few) [] blocks (omega arith) passed_all)

-- ---- sources

pub record HasTarget (sizes : List (Option Numeral)) (said : SourceSaid) : Type 0 where
  pub target : ℕ
  pub target_is : said.target ≡ Fits target
  pub inside : target < length sizes

some_inside : {T : Type 0} (xs : List T) (i : ℕ) → is_none (slice_get xs i) ≡ false → i < length xs
some_inside [] i some = absurd (cc)
some_inside (x ∷ xs) zero some = omega arith
some_inside (x ∷ xs) (suc i) some = let less : i < length xs = some_inside xs i some in omega (arith, less)

target_by : (sizes : List (Option Numeral)) (name : List ℕ) (filters : List (List ℕ)) (target : Numeral) → is_none (item_at sizes target) ≡ false
    → HasTarget sizes (record { name = name; target = target; filters = filters })
unfolding item_at
target_by sizes name filters (Fits n) some = record { target = n; target_is = refl; inside = some_inside sizes n some }
target_by sizes name filters TooLarge some = absurd (cc)

pub source_by : (sizes : List (Option Numeral)) (what : What) (said : SourceSaid) → source_in what ≡ Some said → lacks_buffer sizes what ≡ false → HasTarget sizes said
unfolding source_in lacks_buffer
source_by sizes (Buffer other) said is there = absurd (cc)
source_by sizes (Producer other) said is there = absurd (cc)
source_by sizes (Source other) said is there =
    let same : other ≡ said = cc in
    subst (HasTarget sizes) same (target_by sizes other.name other.filters other.target there)

pub sources_there : (known : Known) (blocks : List Block) → ArePassed known [] blocks → Each (HasTarget known.sizes) (sources_said blocks)
sources_there known blocks passed_all =
    each_said (HasTarget known.sizes) source_in known (λ before block said is passes. source_by known.sizes block.what said is passes.there) [] blocks passed_all

-- there are as many sizes as buffers
cons_both : {X Y : Type 0} (a : Option X) (b : Option Y) (xs : List X) (ys : List Y) → is_none a ≡ is_none b → length xs ≡ length ys
    → length (cons_option a xs) ≡ length (cons_option b ys)
cons_both None None xs ys same rest = rest
cons_both None (Some y) xs ys same rest = absurd (cc)
cons_both (Some x) None xs ys same rest = absurd (cc)
cons_both (Some x) (Some y) xs ys same rest = ap suc rest

size_or_none : (fits : Bool) (what : What) → is_none (size_in fits what) ≡ is_none (buffer_in what)
unfolding size_in buffer_in
size_or_none fits (Buffer said) = refl
size_or_none fits (Producer said) = refl
size_or_none fits (Source said) = refl

pub as_many_sizes : (blocks : List Block) → length (sizes_in blocks) ≡ length (buffers_said blocks)
as_many_sizes [] = refl
as_many_sizes (block ∷ blocks) =
    cons_both (size_in block.fits block.what) (buffer_in block.what) (sizes_in blocks) (buffers_said blocks) (size_or_none block.fits block.what) (as_many_sizes blocks)

-- ---- numbers that fit

fits_narrow : (limit n : ℕ) → n < limit → narrow limit (Fits n) ≡ n
unfolding narrow
fits_narrow limit n small = rw (lt-ltb n limit small) refl

buffer_same : (said : BufferSaid) → IsSized said → narrow_buffer said ≡ buffer_of said
unfolding narrow_buffer buffer_of value
buffer_same said sized =
    ap (λ (o : Option Numeral). record { size_kb = narrow 4294967296 (unwrap_or o (Fits 0)); policy = said.policy }) sized.size_is
    ∙ ap (λ (n : ℕ). record { size_kb = n; policy = said.policy }) (fits_narrow 4294967296 sized.size (omega (arith, sized.most)))
    ∙ ap (λ (o : Option Numeral). record { size_kb = value (unwrap_or o (Fits 0)); policy = said.policy }) (sym sized.size_is)

pub shm_most : (shm page : ℕ) → is_page_kb page ≡ true → is_whole_pages shm page ≡ true → shm ≤ 4096
unfolding is_whole_pages
shm_most shm page sized whole =
    let parts = and_parts (shm % page == 0) (is_between 1 MAX_PAGES (shm / page)) whole in
    let pages = between_means 1 MAX_PAGES (shm / page) parts.1 in
    let rest = eqb-true (shm % page) 0 parts.0 in
    let page_range = page_means page sized in
    let product = mul-le page (shm / page) 64 64 page_range.1 pages.1 in
    omega (arith, product, rest, div-add-mod shm page)

producer_same : (said : ProducerSaid) → IsPaged said → narrow_producer said ≡ producer_of said
unfolding narrow_producer producer_of value
producer_same said paged =
    let page_range = page_means paged.page paged.page_fits in
    let shm_low : paged.shm < 4294967296 = omega (arith, shm_most paged.shm paged.page paged.page_fits paged.memory_fits) in
    let page_low : paged.page < 4294967296 = omega (arith, page_range.1) in
    ap (λ (n : Numeral). record { name = said.name; shm_size_kb = narrow 4294967296 n; page_size_kb = narrow 4294967296 said.page_size_kb }) paged.shm_is
    ∙ ap (λ (n : ℕ). record { name = said.name; shm_size_kb = n; page_size_kb = narrow 4294967296 said.page_size_kb }) (fits_narrow 4294967296 paged.shm shm_low)
    ∙ ap (λ (n : Numeral). record { name = said.name; shm_size_kb = paged.shm; page_size_kb = narrow 4294967296 n }) paged.page_is
    ∙ ap (λ (n : ℕ). record { name = said.name; shm_size_kb = paged.shm; page_size_kb = n }) (fits_narrow 4294967296 paged.page page_low)
    ∙ ap (λ (n : Numeral). record { name = said.name; shm_size_kb = value n; page_size_kb = paged.page }) (sym paged.shm_is)
    ∙ ap (λ (n : Numeral). record { name = said.name; shm_size_kb = value said.shm_size_kb; page_size_kb = value n }) (sym paged.page_is)

found_inside : {T : Type 0} (test : T → Bool) (xs : List T) (d : T) (found : Option ℕ) → position test xs ≡ found → 0 < length xs → unwrap_or found 0 < length xs
found_inside test xs d None is some = some
found_inside test xs d (Some i) is some = (position-Some test xs i d is).0

-- the place of a producer lies among them
pub place_inside : (producers : List ProducerSaid) (filters : List (List ℕ)) → 0 < length producers → producer_place producers filters < length producers
unfolding producer_place
place_inside producers filters some = found_inside (is_named filters) producers no_producer (position (is_named filters) producers) refl some

pub some_default : (producers : List ProducerSaid) → 0 < length (or_default producers)
unfolding or_default
some_default [] = omega arith
some_default (said ∷ others) = omega arith

place_narrow : (place : ℕ) → place < 65535 → narrow_place place ≡ place + 1
unfolding narrow_place
place_narrow place small = rw (lt-ltb place 65535 small) refl

source_same : (sizes : List (Option Numeral)) (producers : List ProducerSaid) → length sizes ≤ MAX_BUFFERS → length producers ≤ MAX_PRODUCERS → 0 < length producers
    → (said : SourceSaid) → HasTarget sizes said → narrow_source producers said ≡ source_of producers said
unfolding narrow_source source_of value
source_same sizes producers few_sizes few_producers some said has =
    let place : ℕ = producer_place producers said.filters in
    let low : place < 65535 = omega (arith, place_inside producers said.filters some, few_producers) in
    let target_low : has.target < 256 = omega (arith, has.inside, few_sizes) in
    ap (λ (n : Numeral). record { name = said.name; target_buffer = narrow 256 n; producer = narrow_place place }) has.target_is
    ∙ ap (λ (n : ℕ). record { name = said.name; target_buffer = n; producer = narrow_place place }) (fits_narrow 256 has.target target_low)
    ∙ ap (λ (n : ℕ). record { name = said.name; target_buffer = has.target; producer = n }) (place_narrow place low)
    ∙ ap (λ (n : Numeral). record { name = said.name; target_buffer = value n; producer = place + 1 }) (sym has.target_is)

map_same : {T U : Type 0} (P : T → Type 0) (f g : T → U) → ((x : T) → P x → f x ≡ g x) → (xs : List T) → Each P xs → map f xs ≡ map g xs
map_same P f g same [] each = refl
map_same P f g same (x ∷ xs) each = ap (λ y. y ∷ map f xs) (same x each.0) ∙ ap (λ ys. g x ∷ ys) (map_same P f g same xs each.1)

-- what blocks say of which none is refused has numbers that fit
pub narrow_is : (blocks : List Block) → first_refusal (known_in blocks) [] blocks ≡ None → config_known (or_default (producers_said blocks)) blocks ≡ config_in blocks
unfolding config_known config_in known_in
narrow_is blocks none =
    let known : Known = known_in blocks in
    let passes = all_passed known [] blocks none in
    let producers : List ProducerSaid = or_default (producers_said blocks) in
    let few_sizes : length (sizes_in blocks) ≤ MAX_BUFFERS = omega (arith, as_many_sizes blocks, buffers_few known blocks passes) in
    let there : Each (HasTarget (sizes_in blocks)) (sources_said blocks) = sources_there known blocks passes in
    ap (λ (bs : List ConfigBuffer). record { buffers = bs; producers = map narrow_producer producers; sources = map (narrow_source producers) (sources_said blocks) })
    (map_same IsSized narrow_buffer buffer_of buffer_same (buffers_said blocks) (buffers_sized known blocks passes))
    ∙ ap (λ (ps : List ConfigProducer). record { buffers = map buffer_of (buffers_said blocks); producers = ps; sources = map (narrow_source producers) (sources_said blocks) })
    (map_same IsPaged narrow_producer producer_of producer_same producers (producers_paged known blocks passes))
    ∙ ap (λ (ss : List ConfigSource). record { buffers = map buffer_of (buffers_said blocks); producers = map producer_of producers; sources = ss })
    (map_same (HasTarget (sizes_in blocks)) (narrow_source producers) (source_of producers)
    (source_same (sizes_in blocks) producers few_sizes (producers_few known blocks passes) (some_default (producers_said blocks))) (sources_said blocks) there)
