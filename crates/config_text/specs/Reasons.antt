-- Why a block is refused: a test for each reason, and the reasons in their order.
use Rattle.std.specs.Prelude.{ℕ, ◌*◌, nat_lt, nat_le, ◌==◌, Bool, true, false, ◌&&◌, not, List, [], ◌∷◌, ◌++◌, length, Option, Some, None, is_none, unwrap_or, position, slice_get, if◌then◌else◌}
use Rattle.std.specs.List.{filter_map, list_any, list_all}
use Rattle.std.specs.Str.{bytes_eq}
use Rattle.trace_base.specs.declared.limits.TheConstants.{BYTES_PER_KB, MAX_BUFFERS, MAX_BUFFER_KB, MAX_CHUNKS_PER_PAGE, MAX_PRODUCERS, MAX_WRITERS, MIN_BUFFER_KB}
use Rattle.page_geometry.specs.Sizes.{payload_size, record_size}
use Rattle.trace_base.specs.declared.numeral.Numeral.{Numeral}
use Rattle.trace_base.specs.declared.numeral.Numeral.TheVariants.{Fits, TooLarge}
use Rattle.config_text.specs.declared.reason.ConfigReason.{ConfigReason}
use Rattle.config_text.specs.declared.reason.ConfigReason.TheVariants as reasons
use Rattle.config_text.specs.Ranges.{is_within, is_shared_memory}
use Rattle.config_text.specs.Blocks.{Block, What, Buffer, Producer, Source, ProducerSaid, SourceSaid, no_producer}
use Rattle.config_text.specs.declared.kept.BufferSaid.{BufferSaid}

-- ---- the blocks of each kind, whichever faults they have

unfoldable pub buffer_in : What → Option BufferSaid
buffer_in (Buffer said) = Some said
buffer_in (Producer said) = None
buffer_in (Source said) = None

-- what is said of a producer, where the block is one of a producer
unfoldable pub producer_in : What → Option ProducerSaid
producer_in (Buffer said) = None
producer_in (Producer said) = Some said
producer_in (Source said) = None

-- what is said of a source, where the block is one of a source
unfoldable pub source_in : What → Option SourceSaid
source_in (Buffer said) = None
source_in (Producer said) = None
source_in (Source said) = Some said

-- what all blocks of buffers say
abbrev pub buffers_said : List Block → List BufferSaid
buffers_said blocks = filter_map (λ block. buffer_in block.what) blocks

-- what all blocks of producers say
abbrev pub producers_said : List Block → List ProducerSaid
producers_said blocks = filter_map (λ block. producer_in block.what) blocks

-- what all blocks of sources say
abbrev pub sources_said : List Block → List SourceSaid
sources_said blocks = filter_map (λ block. source_in block.what) blocks

-- ---- a number outside its range

-- a `buffers` block has no size
unfoldable pub lacks_size : What → Bool
lacks_size (Buffer said) = is_none said.size_kb
lacks_size (Producer said) = false
lacks_size (Source said) = false

-- a size is there, and isn't one that a buffer can have
unfoldable pub is_size_out : Option Numeral → Bool
is_size_out None = false
is_size_out (Some size) = not (is_within MIN_BUFFER_KB MAX_BUFFER_KB size)

-- a size of the block is outside its range
unfoldable pub is_out_of_range : What → Bool
is_out_of_range (Buffer said) = is_size_out said.size_kb
is_out_of_range (Producer said) = not (is_shared_memory said.shm_size_kb said.page_size_kb)
is_out_of_range (Source said) = false

-- ---- the 9th buffer, the 17th producer, the 65th source, where these blocks stand before it

unfoldable pub is_too_many : List Block → What → Bool
is_too_many before (Buffer said) = nat_le MAX_BUFFERS (length (buffers_said before))
is_too_many before (Producer said) = nat_le MAX_PRODUCERS (length (producers_said before))
is_too_many before (Source said) = nat_le MAX_WRITERS (length (sources_said before))

-- ---- a target that names no block of the whole text

-- The size that a `buffers` block counts with: of one at fault none. One that is outside its range counts.
unfoldable pub counted_size : Bool → BufferSaid → Option Numeral
counted_size fits said = if fits then said.size_kb else None

-- the size that a block counts with, where it is one of a buffer
unfoldable pub size_in : Bool → What → Option (Option Numeral)
size_in fits (Buffer said) = Some (counted_size fits said)
size_in fits (Producer said) = None
size_in fits (Source said) = None

-- the sizes of all `buffers` blocks
abbrev pub sizes_in : List Block → List (Option Numeral)
sizes_in blocks = filter_map (λ block. size_in block.fits block.what) blocks

-- what stands at a place that is counted from 0
unfoldable pub item_at : {T : Type 0} → List T → Numeral → Option T
item_at items (Fits place) = slice_get items place
item_at items TooLarge = None

-- the target of a source is none of these
unfoldable pub lacks_buffer : List (Option Numeral) → What → Bool
lacks_buffer sizes (Buffer said) = false
lacks_buffer sizes (Producer said) = false
lacks_buffer sizes (Source said) = is_none (item_at sizes said.target)

-- ---- whose a source is

-- a text without `producers` blocks has one producer
unfoldable pub or_default : List ProducerSaid → List ProducerSaid
or_default [] = no_producer ∷ []
or_default (said ∷ others) = said ∷ others

-- the producer has a name that isn't empty, and it is among the entries of a filter
unfoldable pub is_named : List (List ℕ) → ProducerSaid → Bool
is_named filters said = not (length said.name == 0) && list_any (bytes_eq said.name) filters

-- The place of the producer that a source belongs to, counted from 0: the first that an entry of its filter names, and the first of
-- all where there is none.
unfoldable pub producer_place : List ProducerSaid → List (List ℕ) → ℕ
producer_place producers filters = unwrap_or (position (is_named filters) producers) 0

-- ---- a record of the source's is larger than its buffer

unfoldable pub is_larger : Option (Option Numeral) → Numeral → Bool
is_larger (Some (Some (Fits size))) (Fits page) =
    nat_lt (size * BYTES_PER_KB) (record_size (payload_size (page * BYTES_PER_KB) MAX_CHUNKS_PER_PAGE))
is_larger size page = false

-- the chunks of a producer are larger than a buffer of this size; one whose sizes are out of range counts as none
unfoldable pub is_larger_for : Option (Option Numeral) → Option ProducerSaid → Bool
is_larger_for size None = false
is_larger_for size (Some said) = is_shared_memory said.shm_size_kb said.page_size_kb && is_larger size said.page_size_kb

-- each `producers` block has fields of their kinds alone; else no source's producer is found
unfoldable pub is_fit_producer : Bool → What → Bool
is_fit_producer fits (Buffer said) = true
is_fit_producer fits (Producer said) = fits
is_fit_producer fits (Source said) = true

-- what a text says for the look-ups of its sources
pub record Known : Type 0 where
  pub sizes : List (Option Numeral)
  pub producers : List ProducerSaid
  pub fit : Bool

-- of the blocks of a text
unfoldable pub known_in : List Block → Known
known_in blocks = record {
  sizes = sizes_in blocks;
  producers = or_default (producers_said blocks);
  fit = list_all (λ block. is_fit_producer block.fits block.what) blocks;
}

-- the producer of a source with this filter
unfoldable pub producer_of : Known → List (List ℕ) → Option ProducerSaid
producer_of known filters = if known.fit then slice_get known.producers (producer_place known.producers filters) else None

-- the chunks of a source are larger than its buffer
unfoldable pub has_larger_chunks : Known → What → Bool
has_larger_chunks known (Buffer said) = false
has_larger_chunks known (Producer said) = false
has_larger_chunks known (Source said) = is_larger_for (item_at known.sizes said.target) (producer_of known said.filters)

-- ---- the reasons in their order

abbrev pub when : Bool → ConfigReason → Option ConfigReason
when test reason = if test then Some reason else None

-- the first reason that holds
abbrev pub first : List (Option ConfigReason) → Option ConfigReason
first [] = None
first (None ∷ more) = first more
first (Some reason ∷ more) = Some reason

-- Why a block is refused, where these stand before it in the text.
unfoldable pub refusal_of : Known → List Block → Block → Option ConfigReason
refusal_of known before block = first (
    when (not block.fits) reasons.WrongKind
    ∷ when (lacks_size block.what) reasons.MissingSize
    ∷ when (is_out_of_range block.what) reasons.OutOfRange
    ∷ when (is_too_many before block.what) reasons.TooMany
    ∷ when (lacks_buffer known.sizes block.what) reasons.NoSuchBuffer
    ∷ when (has_larger_chunks known block.what) reasons.ChunkLargerThanBuffer
    ∷ [])

-- the line of a block with the reason for which it is refused, or else another answer
unfoldable pub or_later : ℕ → Option ConfigReason → Option (ℕ × ConfigReason) → Option (ℕ × ConfigReason)
or_later line None later = later
or_later line (Some reason) later = Some (line, reason)

-- the first block that is refused, with its reason, among those behind these
abbrev pub first_refusal : Known → List Block → List Block → Option (ℕ × ConfigReason)
first_refusal known before [] = None
first_refusal known before (block ∷ blocks) =
    or_later block.line (refusal_of known before block) (first_refusal known (before ++ block ∷ []) blocks)
