-- What a line is known for once no reason of the front holds.
use Rattle.std.proofs.Common.{◌≡◌, ℕ, ◌-◌, ◌%◌, ◌^◌, ◌<◌, ◌≤◌, nat_eq, nat_le, Bool, true, false, cond, ◌&&◌, List, ◌∷◌, length, Option, Some, None, is_none, slice_get, refl, arith}
use Rattle.std.proofs.lemmas.Grind.{common_steps}
use Rattle.std.proofs.lemmas.Option.{slice_get_within}
use Rattle.std.proofs.lemmas.Bool.{not-false}
use Rattle.trace_base.specs.declared.limits.TheConstants.{MAX_BUFFERS, MAX_BUFFER_KB, MAX_PAGES, MAX_PAGE_SIZE, PAGE_SIZE_UNIT, MAX_PRODUCERS, MAX_WRITERS, MIN_BUFFER_KB}
use Rattle.trace_base.specs.declared.policy.FullPolicy.{FullPolicy}
use Rattle.trace_base.specs.declared.numeral.Numeral.{Numeral}
use Rattle.trace_base.specs.declared.numeral.Numeral.TheVariants.{Fits, TooLarge}
use Rattle.scenario_text.specs.declared.form.NamedPolicy.{NamedPolicy}
use Rattle.scenario_text.specs.declared.form.Form.{Form}
use Rattle.scenario_text.specs.declared.form.Form.TheVariants.{Buffer, Producer, Writer, OfWriter, OfProducer, Read, CloneBuffer, Raw}
use Rattle.scenario_text.specs.declared.form.TheConstants.{MAX_CLONES, MAX_TRIES, MAX_CHUNK_ID}
use Rattle.scenario_text.specs.declared.form.NamedPolicy.TheVariants.{Drops, Stalls, StallsThenDrops}
use Rattle.scenario_text.specs.declared.form.WriterStep.{WriterStep}
use Rattle.scenario_text.specs.declared.form.ProducerStep.{ProducerStep}
use Rattle.scenario_text.specs.declared.reason.Reason.{Reason}
use Rattle.scenario_text.specs.Items.{item}
use Rattle.scenario_text.specs.Forms.{form_of}
use Rattle.scenario_text.specs.RawChunks.{IsRawLine}
use Rattle.scenario_text.specs.RawRanges.{are_raw_numbers}
use Rattle.scenario_text.specs.declared.form.NamedRaw.{NamedRaw}
use Rattle.scenario_text.specs.Ranges.{fits, value, is_within, is_page_size, is_chunk_count}
use Rattle.scenario_text.specs.State.{State}
use Rattle.scenario_text.specs.Limits.{HasTries}
use Rattle.scenario_text.specs.Effects.{policy_of, TriesFit, IdFits}
use Rattle.scenario_text.specs.Sound.{is_cut}
use Rattle.scenario_text.specs.Reasons.{first, when, front_reasons, are_tries, is_out_of_range, is_producer_in_range, is_late, is_too_many, lacks_producer, lacks_buffer, lacks_writer, has_larger_chunks, has_closed_producer, has_long_payload, meets_packet, lacks_packet, lacks_nesting, leaves_nesting, is_id}
use Rattle.scenario_text.proofs.SoundLemmas.{both}

none_when : (test : Bool) (reason : Reason) (more : List (Option Reason)) → first (when test reason ∷ more) ≡ None
    → (test ≡ false) × (first more ≡ None)
none_when true reason more none = cc
none_when false reason more none = (refl, none)

-- each test of the front is false
pub record IsPassed (state : State) (form : Form) : Type 0 where
  pub in_range : is_out_of_range form ≡ false
  pub room : is_too_many state form ≡ false
  pub producer : lacks_producer state form ≡ false
  pub buffer : lacks_buffer state form ≡ false
  pub writer : lacks_writer state form ≡ false
  pub larger : has_larger_chunks state form ≡ false
  pub opened : has_closed_producer state form ≡ false
  pub short : has_long_payload state form ≡ false
  pub none_begun : meets_packet state form ≡ false
  pub begun : lacks_packet state form ≡ false
  pub nested : lacks_nesting state form ≡ false
  pub level : leaves_nesting state form ≡ false

pub passed : (state : State) (form : Form) → first (front_reasons state form) ≡ None → IsPassed state form
unfolding front_reasons
passed state form none =
    let one = none_when (is_out_of_range form) _ _ none in
    let two = none_when (is_late state form) _ _ one.1 in
    let three = none_when (is_too_many state form) _ _ two.1 in
    let four = none_when (lacks_producer state form) _ _ three.1 in
    let five = none_when (lacks_buffer state form) _ _ four.1 in
    let six = none_when (lacks_writer state form) _ _ five.1 in
    let seven = none_when (has_larger_chunks state form) _ _ six.1 in
    let eight = none_when (has_closed_producer state form) _ _ seven.1 in
    let nine = none_when (has_long_payload state form) _ _ eight.1 in
    let ten = none_when (meets_packet state form) _ _ nine.1 in
    let eleven = none_when (lacks_packet state form) _ _ ten.1 in
    let twelve = none_when (lacks_nesting state form) _ _ eleven.1 in
    let thirteen = none_when (leaves_nesting state form) _ _ twelve.1 in
    record {
      in_range = one.0;
      room = three.0;
      producer = four.0;
      buffer = five.0;
      writer = six.0;
      larger = seven.0;
      opened = eight.0;
      short = nine.0;
      none_begun = ten.0;
      begun = eleven.0;
      nested = twelve.0;
      level = thirteen.0;
    }

pub within_least : (low high : ℕ) (number : Numeral) → is_within low high number ≡ true → low ≤ value number
unfolding is_within value
within_least low high (Fits n) h = let parts = both (nat_le low n) (nat_le n high) h in grind (arith, common_steps, parts.0)
within_least low high TooLarge h = cc

pub within_most : (low high : ℕ) (number : Numeral) → is_within low high number ≡ true → value number ≤ high
unfolding is_within value
within_most low high (Fits n) h = let parts = both (nat_le low n) (nat_le n high) h in grind (arith, common_steps, parts.1)
within_most low high TooLarge h = cc

-- ---- set-up lines

pub kb_small : (state : State) (kb : Numeral) (policy : FullPolicy) → first (front_reasons state (Buffer kb policy)) ≡ None
    → value kb < 2 ^ 32
unfolding is_out_of_range
kb_small state kb policy none =
    let most = within_most MIN_BUFFER_KB MAX_BUFFER_KB kb (not-false _ (passed state (Buffer kb policy) none).in_range) in
    omega arith

pub room_for_buffer : (state : State) (kb : Numeral) (policy : FullPolicy) → first (front_reasons state (Buffer kb policy)) ≡ None
    → length state.buffers < MAX_BUFFERS
unfolding is_too_many
room_for_buffer state kb policy none = grind (arith, common_steps, (passed state (Buffer kb policy) none).room)

pub record IsKnown (pages page_size chunks : Numeral) : Type 0 where
  pub pages_some : 1 ≤ value pages
  pub pages_few : value pages ≤ MAX_PAGES
  pub pages_small : value pages < 2 ^ 8
  pub size_small : value page_size < 2 ^ 32
  pub chunks_small : value chunks < 2 ^ 8
  pub size_is : is_page_size (value page_size) ≡ true
  pub count_is : is_chunk_count (value chunks) ≡ true

size_bound : (n : ℕ) → is_page_size n ≡ true → n < 2 ^ 32
unfolding is_page_size
size_bound n h =
    let parts = both (nat_eq (n % PAGE_SIZE_UNIT) 0 && nat_le PAGE_SIZE_UNIT n) (nat_le n MAX_PAGE_SIZE) h in
    grind (arith, common_steps, parts.1)

count_bound : (n : ℕ) → is_chunk_count n ≡ true → n < 2 ^ 8
unfolding is_chunk_count
count_bound n h = grind (arith, common_steps, h)

producer_known : (pages page_size chunks : Numeral) → is_producer_in_range pages page_size chunks ≡ true → IsKnown pages page_size chunks
unfolding is_producer_in_range value
producer_known pages (Fits page_size) (Fits chunks) h =
    let parts = both (is_within 1 MAX_PAGES pages && is_page_size page_size) (is_chunk_count chunks) h in
    let sizes = both (is_within 1 MAX_PAGES pages) (is_page_size page_size) parts.0 in
    let most = within_most 1 MAX_PAGES pages sizes.0 in
    record {
      pages_some = within_least 1 MAX_PAGES pages sizes.0;
      pages_few = most;
      pages_small = omega arith;
      size_small = size_bound page_size sizes.1;
      chunks_small = count_bound chunks parts.1;
      size_is = sizes.1;
      count_is = parts.1;
    }
producer_known pages TooLarge chunks h = cc
producer_known pages (Fits page_size) TooLarge h = cc

pub of_producer_line : (state : State) (pages page_size chunks : Numeral) → first (front_reasons state (Producer pages page_size chunks)) ≡ None
    → IsKnown pages page_size chunks
unfolding is_out_of_range
of_producer_line state pages page_size chunks none =
    producer_known pages page_size chunks (not-false _ (passed state (Producer pages page_size chunks) none).in_range)

pub pages_small : (state : State) (pages page_size chunks : Numeral) → first (front_reasons state (Producer pages page_size chunks)) ≡ None
    → value pages < 2 ^ 8
pages_small state pages page_size chunks none = (of_producer_line state pages page_size chunks none).pages_small

pub size_small : (state : State) (pages page_size chunks : Numeral) → first (front_reasons state (Producer pages page_size chunks)) ≡ None
    → value page_size < 2 ^ 32
size_small state pages page_size chunks none = (of_producer_line state pages page_size chunks none).size_small

pub chunks_small : (state : State) (pages page_size chunks : Numeral) → first (front_reasons state (Producer pages page_size chunks)) ≡ None
    → value chunks < 2 ^ 8
chunks_small state pages page_size chunks none = (of_producer_line state pages page_size chunks none).chunks_small

pub room_for_producer : (state : State) (pages page_size chunks : Numeral) → first (front_reasons state (Producer pages page_size chunks)) ≡ None
    → length state.producers < MAX_PRODUCERS
unfolding is_too_many
room_for_producer state pages page_size chunks none =
    grind (arith, common_steps, (passed state (Producer pages page_size chunks) none).room)

pub producer_cut : (state : State) (pages page_size chunks : Numeral) → first (front_reasons state (Producer pages page_size chunks)) ≡ None
    → is_cut (record { pages = value pages; page_size = value page_size; chunks = value chunks }) ≡ true
unfolding is_cut
producer_cut state pages page_size chunks none =
    let known = of_producer_line state pages page_size chunks none in
    rw (known.size_is, known.count_is) refl

pub room_for_writer : (state : State) (producer buffer : Numeral) (policy : NamedPolicy) (from : Option Numeral)
    → first (front_reasons state (Writer producer buffer policy from)) ≡ None → length state.writers < MAX_WRITERS
unfolding is_too_many
room_for_writer state producer buffer policy from none =
    grind (arith, common_steps, (passed state (Writer producer buffer policy from) none).room)

-- how often a writer asks is in its range
tries_in_range : (state : State) (producer buffer : Numeral) (policy : NamedPolicy) (from : Option Numeral)
    → first (front_reasons state (Writer producer buffer policy from)) ≡ None → are_tries policy ≡ true
unfolding is_out_of_range
tries_in_range state producer buffer policy from none =
    (both (fits producer && fits buffer) (are_tries policy)
    (both (fits producer && fits buffer && are_tries policy) (is_id from) (not-false _ (passed state (Writer producer buffer policy from) none).in_range)).0).1

tries_within : (policy : NamedPolicy) → are_tries policy ≡ true → HasTries (policy_of policy)
unfolding are_tries policy_of
tries_within Drops h = tt
tries_within Stalls h = tt
tries_within (StallsThenDrops tries) h = (within_least 1 MAX_TRIES tries h, within_most 1 MAX_TRIES tries h)

pub tries_of_line : (state : State) (producer buffer : Numeral) (policy : NamedPolicy) (from : Option Numeral)
    → first (front_reasons state (Writer producer buffer policy from)) ≡ None → HasTries (policy_of policy)
tries_of_line state producer buffer policy from none = tries_within policy (tries_in_range state producer buffer policy from none)

tries_small : (policy : NamedPolicy) → are_tries policy ≡ true → TriesFit policy
unfolding are_tries
tries_small Drops h = tt
tries_small Stalls h = tt
tries_small (StallsThenDrops tries) h = let most = within_most 1 MAX_TRIES tries h in omega arith

pub tries_of_writer : (state : State) (producer buffer : Numeral) (policy : NamedPolicy) (from : Option Numeral)
    → first (front_reasons state (Writer producer buffer policy from)) ≡ None → TriesFit policy
tries_of_writer state producer buffer policy from none = tries_small policy (tries_in_range state producer buffer policy from none)

-- the id of its first chunk has 32 bits
id_small : (from : Option Numeral) → is_id from ≡ true → IdFits from
unfolding is_id
id_small None h = tt
id_small (Some from) h = let most = within_most 0 MAX_CHUNK_ID from h in omega arith

pub id_of_writer : (state : State) (producer buffer : Numeral) (policy : NamedPolicy) (from : Option Numeral)
    → first (front_reasons state (Writer producer buffer policy from)) ≡ None → IdFits from
unfolding is_out_of_range
id_of_writer state producer buffer policy from none =
    id_small from
    (both (fits producer && fits buffer && are_tries policy) (is_id from) (not-false _ (passed state (Writer producer buffer policy from) none).in_range)).1

-- ---- references

item_inside_at : {X : Type 0} (is : Bool) (things : List X) (n : ℕ) (found : Option X) → nat_eq n 0 ≡ is
    → cond is None (slice_get things (n - 1)) ≡ found → is_none found ≡ false → n ≤ length things
item_inside_at true things n None zero_is is some = cc
item_inside_at true things n (Some x) zero_is is some = cc
item_inside_at false things n None zero_is is some = cc
item_inside_at false things n (Some x) zero_is is some =
    let inside = slice_get_within things (n - 1) x is in
    omega arith

-- what a number names is one of the things
pub item_inside : {X : Type 0} (things : List X) (number : Numeral) → is_none (item things number) ≡ false → value number ≤ length things
unfolding item value
item_inside things (Fits n) some = item_inside_at (nat_eq n 0) things n _ refl refl some
item_inside things TooLarge some = cc

pub writer_named : (state : State) (writer : Numeral) (step : WriterStep) → first (front_reasons state (OfWriter writer step)) ≡ None
    → value writer ≤ length state.writers
unfolding lacks_writer
writer_named state writer step none = item_inside state.writers writer (passed state (OfWriter writer step) none).writer

pub producer_named : (state : State) (producer : Numeral) (step : ProducerStep) → first (front_reasons state (OfProducer producer step)) ≡ None
    → value producer ≤ length state.producers
unfolding lacks_producer
producer_named state producer step none = item_inside state.producers producer (passed state (OfProducer producer step) none).producer

pub producer_of_writer : (state : State) (producer buffer : Numeral) (policy : NamedPolicy) (from : Option Numeral)
    → first (front_reasons state (Writer producer buffer policy from)) ≡ None → value producer ≤ length state.producers
unfolding lacks_producer
producer_of_writer state producer buffer policy from none =
    item_inside state.producers producer (passed state (Writer producer buffer policy from) none).producer

pub buffer_of_writer : (state : State) (producer buffer : Numeral) (policy : NamedPolicy) (from : Option Numeral)
    → first (front_reasons state (Writer producer buffer policy from)) ≡ None → value buffer ≤ length state.buffers
unfolding lacks_buffer
buffer_of_writer state producer buffer policy from none =
    item_inside state.buffers buffer (passed state (Writer producer buffer policy from) none).buffer

pub buffer_named : (state : State) (buffer : Numeral) (limit : Option Numeral) → first (front_reasons state (Read buffer limit)) ≡ None
    → value buffer ≤ length state.buffers
unfolding lacks_buffer
buffer_named state buffer limit none = item_inside state.buffers buffer (passed state (Read buffer limit) none).buffer

pub cloned_named : (state : State) (buffer : Numeral) → first (front_reasons state (CloneBuffer buffer)) ≡ None → value buffer ≤ length state.buffers
unfolding lacks_buffer
cloned_named state buffer none = item_inside state.buffers buffer (passed state (CloneBuffer buffer) none).buffer

pub room_for_clone : (state : State) (buffer : Numeral) → first (front_reasons state (CloneBuffer buffer)) ≡ None → state.clones < MAX_CLONES
unfolding is_too_many
room_for_clone state buffer none = grind (arith, common_steps, (passed state (CloneBuffer buffer) none).room)

pub raw_named : (state : State) (raw : NamedRaw) → first (front_reasons state (Raw raw)) ≡ None → value raw.writer ≤ length state.writers
unfolding lacks_writer
raw_named state raw none = item_inside state.writers raw.writer (passed state (Raw raw) none).writer

pub raw_buffer : (state : State) (raw : NamedRaw) → first (front_reasons state (Raw raw)) ≡ None → value raw.buffer ≤ length state.buffers
unfolding lacks_buffer
raw_buffer state raw none = item_inside state.buffers raw.buffer (passed state (Raw raw) none).buffer

-- a line that is taken asks for a chunk
pub raw_line : (state : State) (raw : NamedRaw) (line : List ℕ) → form_of line ≡ Some (Raw raw)
    → first (front_reasons state (Raw raw)) ≡ None → length state.buffers ≤ MAX_BUFFERS → IsRawLine line
unfolding is_out_of_range
raw_line state raw line formed none few = record {
  raw = raw;
  form = formed;
  in_range = not-false (are_raw_numbers raw) (passed state (Raw raw) none).in_range;
  buffer = omega (arith, raw_buffer state raw none, few);
}
