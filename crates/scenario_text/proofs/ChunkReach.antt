-- Chunks that lines `raw` ask for: what they name is there, and stays there behind more set-up lines.
use Rattle.std.proofs.Common.{◌≡◌, ℕ, ◌-◌, ◌≤◌, zero, suc, nat_eq, Bool, true, false, cond, Option, Some, None, slice_get, List, [], ◌∷◌, ◌++◌, length, refl, ap, subst, ◌∙◌, arith}
use Rattle.std.specs.List.{AllByRecursion}
use Rattle.std.proofs.lemmas.Grind.{common_steps}
use Rattle.std.proofs.lemmas.List.{length-append}
use Rattle.std.proofs.lemmas.Bool.{not-false}
use Rattle.std.proofs.lemmas.Option.{slice_get_within}
use Rattle.trace_base.proofs.Lists.{get_more}
use Rattle.trace_base.specs.declared.numeral.Numeral.TheVariants.{Fits}
use Rattle.trace_base.specs.declared.policy.WriterSpec.{WriterSpec}
use Rattle.page_geometry.specs.Sizes.{payload_size}
use Rattle.scenario_text.specs.declared.form.Form.TheVariants.{Raw}
use Rattle.scenario_text.specs.declared.form.NamedRaw.{NamedRaw}
use Rattle.scenario_text.specs.declared.scenario.BufferLine.{BufferLine}
use Rattle.scenario_text.specs.declared.scenario.ProducerLine.{ProducerLine}
use Rattle.scenario_text.specs.declared.scenario.NumberedLine.{NumberedLine}
use Rattle.scenario_text.specs.Items.{item}
use Rattle.scenario_text.specs.Ranges.{value}
use Rattle.scenario_text.specs.RawRanges.{are_raw_numbers}
use Rattle.scenario_text.specs.RawChunks.{AskedChunk, chunk_by}
use Rattle.scenario_text.specs.Limits.{IsWriter}
use Rattle.scenario_text.specs.State.{State}
use Rattle.scenario_text.specs.Reasons.{is_out_of_range, lacks_buffer, lacks_writer, producer_of, is_longer, has_long_payload}
use Rattle.scenario_text.specs.Reach.{NamesWriter, CommitsChunk}
use Rattle.scenario_text.proofs.FrontLemmas.{IsPassed}
use Rattle.scenario_text.proofs.LimitLemmas.{KeepsLimits, named}
use Rattle.scenario_text.proofs.RawNumbers.{small_numbers, patch_fits}

-- ---- more buffers, producers or writers

pub more_named : (writers : List WriterSpec) (writer : WriterSpec) (before : List NumberedLine) (number : ℕ)
    → NamesWriter writers before number → NamesWriter (writers ++ writer ∷ []) before number
more_named writers writer before number names = record {
  least = names.least;
  spec = names.spec;
  there = get_more writers (writer ∷ []) (number - 1) names.spec names.there;
  opened = names.opened;
}

pub chunk_more_writers : (buffers : List BufferLine) (producers : List ProducerLine) (writers : List WriterSpec) (writer : WriterSpec)
    (before : List NumberedLine) (number : ℕ) (chunk : AskedChunk) → CommitsChunk buffers producers writers before number chunk
    → CommitsChunk buffers producers (writers ++ writer ∷ []) before number chunk
unfolding more_named
chunk_more_writers buffers producers writers writer before number chunk asks = record {
  of_writer = more_named writers writer before number asks.of_writer;
  into_buffer = asks.into_buffer;
  of_producer = asks.of_producer;
  producer_is = asks.producer_is;
  room = asks.room;
  id = asks.id;
  count = asks.count;
  flags = asks.flags;
  patch = asks.patch;
}

pub chunk_more_producers : (buffers : List BufferLine) (producers : List ProducerLine) (writers : List WriterSpec) (producer : ProducerLine)
    (before : List NumberedLine) (number : ℕ) (chunk : AskedChunk) → CommitsChunk buffers producers writers before number chunk
    → CommitsChunk buffers (producers ++ producer ∷ []) writers before number chunk
chunk_more_producers buffers producers writers producer before number chunk asks = record {
  of_writer = asks.of_writer;
  into_buffer = asks.into_buffer;
  of_producer = asks.of_producer;
  producer_is = get_more producers (producer ∷ []) (asks.of_writer.spec.producer - 1) asks.of_producer asks.producer_is;
  room = asks.room;
  id = asks.id;
  count = asks.count;
  flags = asks.flags;
  patch = asks.patch;
}

pub chunk_more_buffers : (buffers : List BufferLine) (producers : List ProducerLine) (writers : List WriterSpec) (buffer : BufferLine)
    (before : List NumberedLine) (number : ℕ) (chunk : AskedChunk) → CommitsChunk buffers producers writers before number chunk
    → CommitsChunk (buffers ++ buffer ∷ []) producers writers before number chunk
chunk_more_buffers buffers producers writers buffer before number chunk asks = record {
  of_writer = asks.of_writer;
  into_buffer = record { least = asks.into_buffer.least; most = omega (arith, asks.into_buffer.most, length-append buffers (buffer ∷ [])) };
  of_producer = asks.of_producer;
  producer_is = asks.producer_is;
  room = asks.room;
  id = asks.id;
  count = asks.count;
  flags = asks.flags;
  patch = asks.patch;
}

-- ---- what a line names

item_there : {X : Type 0} (things : List X) (n : ℕ) (thing : X) → 1 ≤ n → slice_get things (n - 1) ≡ Some thing
    → item things (Fits n) ≡ Some thing
unfolding item
item_there things n thing least is = by_test (nat_eq n 0) refl
  where
    by_test : (test : Bool) → nat_eq n 0 ≡ test → cond test None (slice_get things (n - 1)) ≡ Some thing
    by_test true zero_is = absurd (grind (arith, common_steps, zero_is, least))
    by_test false zero_is = is

all_get : {X : Type 0} (P : X → Type 0) (xs : List X) (i : ℕ) (x : X) → AllByRecursion P xs → slice_get xs i ≡ Some x → P x
all_get P [] i x all is = absurd cc
all_get P (y ∷ ys) zero x all is = let same : y ≡ x = cc in subst P same all.0
all_get P (y ∷ ys) (suc i) x all is = all_get P ys i x all.1 is

room_for : (len : ℕ) (producer : ProducerLine) → is_longer len (Some producer) ≡ false
    → len ≤ payload_size producer.page_size producer.chunks
unfolding is_longer
room_for len producer is = grind (arith, common_steps, is)

-- the writer's producer, and the room in one of its chunks
record HasRoom (producers : List ProducerLine) (number len : ℕ) : Type 0 where
  producer : ProducerLine
  is : slice_get producers (number - 1) ≡ Some producer
  room : len ≤ payload_size producer.page_size producer.chunks

has_room : (state : State) (raw : NamedRaw) (writer : WriterSpec) → IsPassed state (Raw raw) → KeepsLimits state
    → slice_get state.writers (value raw.writer - 1) ≡ Some writer → item state.writers raw.writer ≡ Some writer
    → HasRoom state.producers writer.producer raw.len
unfolding has_long_payload producer_of
has_room state raw writer pass keeps there item_is =
    let known = all_get (IsWriter state.buffers state.producers) state.writers (value raw.writer - 1) writer keeps.are_writers there in
    let one : is_longer raw.len (item state.producers (Fits writer.producer)) ≡ false =
    subst (λ (found : Option WriterSpec). is_longer raw.len (producer_of state found) ≡ false) item_is pass.short in
    let two : is_longer raw.len (Some known.of_producer) ≡ false =
    subst (λ (found : Option ProducerLine). is_longer raw.len found ≡ false)
    (item_there state.producers writer.producer known.of_producer known.counts_producer known.producer_is) one in
    record { producer = known.of_producer; is = known.producer_is; room = room_for raw.len known.of_producer two }

pub chunk_in_reach : (state : State) (raw : NamedRaw) (payload : List ℕ) (names : NamesWriter state.writers state.lines (value raw.writer))
    → IsPassed state (Raw raw) → KeepsLimits state → length payload ≡ raw.len
    → CommitsChunk state.buffers state.producers state.writers state.lines (value raw.writer) (chunk_by raw payload)
unfolding lacks_buffer lacks_writer is_out_of_range chunk_by
chunk_in_reach state raw payload names pass keeps len =
    let w = named state.writers raw.writer pass.writer in
    let same : w.thing ≡ names.spec = cc (w.is, names.there) in
    let room = has_room state raw names.spec pass keeps names.there (w.item_is ∙ ap Some same) in
    let b = named state.buffers raw.buffer pass.buffer in
    let inside = slice_get_within state.buffers (value raw.buffer - 1) b.thing b.is in
    let small = small_numbers raw (not-false (are_raw_numbers raw) pass.in_range) in
    record {
      of_writer = names;
      into_buffer = record { least = b.counted; most = omega (arith, b.counted, inside) };
      of_producer = room.producer;
      producer_is = room.is;
      room = omega (arith, room.room, len);
      id = omega (arith, small.id);
      count = small.count;
      flags = small.flags;
      patch = patch_fits raw.patch small.patch;
    }
