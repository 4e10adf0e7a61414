-- Why each scenario keeps to the limits: each accepted line does.
use Rattle.std.proofs.Common.{◌≡◌, ℕ, ◌-◌, ◌*◌, ◌<◌, ◌≤◌, nat_eq, nat_lt, Bool, true, false, cond, List, [], ◌∷◌, ◌++◌, length, Option, Some, None, is_none, slice_get, refl, subst, arith}
use Rattle.std.specs.List.{AllByRecursion}
use Rattle.std.proofs.lemmas.Grind.{common_steps}
use Rattle.std.proofs.lemmas.List.{length-append}
use Rattle.std.proofs.lemmas.Bool.{not-false}
use Rattle.trace_base.proofs.Lists.{get_more}
use Rattle.trace_base.specs.declared.limits.TheConstants.{BYTES_PER_KB, MAX_BUFFERS, MAX_BUFFER_KB, MAX_PRODUCERS, MAX_WRITERS, MIN_BUFFER_KB}
use Rattle.trace_base.specs.declared.policy.FullPolicy.{FullPolicy}
use Rattle.trace_base.specs.declared.policy.WriterSpec.{WriterSpec}
use Rattle.page_geometry.specs.Sizes.{payload_size, record_size}
use Rattle.trace_base.specs.declared.numeral.Numeral.{Numeral}
use Rattle.trace_base.specs.declared.numeral.Numeral.TheVariants.{Fits, TooLarge}
use Rattle.scenario_text.specs.declared.form.NamedPolicy.{NamedPolicy}
use Rattle.scenario_text.specs.declared.form.Form.{Form}
use Rattle.scenario_text.specs.declared.form.Form.TheVariants.{Buffer, Producer, Writer, OfWriter, OfProducer, Read, Request, CloneBuffer, Raw}
use Rattle.scenario_text.specs.declared.form.ProducerStep.{ProducerStep}
use Rattle.scenario_text.specs.declared.form.ProducerStep.TheVariants.{Collect, Scrape, Close}
use Rattle.scenario_text.specs.declared.scenario.BufferLine.{BufferLine}
use Rattle.scenario_text.specs.declared.scenario.ProducerLine.{ProducerLine}
use Rattle.scenario_text.specs.declared.scenario.Scenario.{Scenario}
use Rattle.field_tree.specs.Nodes.{Shown}
use Rattle.scenario_text.specs.Items.{item}
use Rattle.scenario_text.specs.Ranges.{value}
use Rattle.scenario_text.specs.State.{State, beginning}
use Rattle.scenario_text.specs.Sound.{is_cut}
use Rattle.scenario_text.specs.Reasons.{first, front_reasons, back_reasons, refusal_of, given, is_larger, is_out_of_range, has_larger_chunks, lacks_producer, lacks_buffer}
use Rattle.scenario_text.specs.Effects.{policy_of, moved, nodes_given, written, with_line, with_packet, with_closed, with_bytes, served, with_clone, first_id}
use Rattle.scenario_text.specs.Scenario.{IsScenario, Parts}
use Rattle.scenario_text.specs.Limits.{IsBuffer, IsProducer, IsSetUp, IsWriter}
use Rattle.scenario_text.proofs.SoundLemmas.{cut_pages, cut_chunks}
use Rattle.scenario_text.proofs.StateLemmas.{first_none, scenario_holds}
use Rattle.scenario_text.proofs.FrontLemmas.{passed, within_least, within_most, of_producer_line, producer_cut, room_for_buffer, room_for_producer, room_for_writer, tries_of_line}

abbrev pub KeepsLimits : State → Type 0
KeepsLimits state = IsSetUp state.buffers state.producers state.writers

-- ---- lists that grow

all_push : {X : Type 0} (P : X → Type 0) (xs : List X) (x : X) → AllByRecursion P xs → P x → AllByRecursion P (xs ++ x ∷ [])
all_push P [] x all more = (more, tt)
all_push P (y ∷ ys) x all more = (all.0, all_push P ys x all.1 more)

all_map : {X : Type 0} (P Q : X → Type 0) (xs : List X) → ((x : X) → P x → Q x) → AllByRecursion P xs → AllByRecursion Q xs
all_map P Q [] f all = tt
all_map P Q (x ∷ xs) f all = (f x all.0, all_map P Q xs f all.1)

-- ---- a buffer, a producer or a writer more

more_buffer : (buffers : List BufferLine) (producers : List ProducerLine) (writers : List WriterSpec) (buffer : BufferLine)
    → IsSetUp buffers producers writers → length buffers < MAX_BUFFERS → IsBuffer buffer
    → IsSetUp (buffers ++ buffer ∷ []) producers writers
more_buffer buffers producers writers buffer keeps room is = record {
  few_buffers = omega (arith, length-append buffers (buffer ∷ []));
  few_producers = keeps.few_producers;
  few_writers = keeps.few_writers;
  are_buffers = all_push IsBuffer buffers buffer keeps.are_buffers is;
  are_producers = keeps.are_producers;
  are_writers = all_map (IsWriter buffers producers) (IsWriter (buffers ++ buffer ∷ []) producers) writers
      (λ w h. record {
        of_producer = h.of_producer;
        into_buffer = h.into_buffer;
        counts_producer = h.counts_producer;
        counts_buffer = h.counts_buffer;
        producer_is = h.producer_is;
        buffer_is = get_more buffers (buffer ∷ []) (w.buffer - 1) h.into_buffer h.buffer_is;
        fits = h.fits;
        tries = h.tries;
      }) keeps.are_writers;
}

more_producer : (buffers : List BufferLine) (producers : List ProducerLine) (writers : List WriterSpec) (producer : ProducerLine)
    → IsSetUp buffers producers writers → length producers < MAX_PRODUCERS → IsProducer producer
    → IsSetUp buffers (producers ++ producer ∷ []) writers
more_producer buffers producers writers producer keeps room is = record {
  few_buffers = keeps.few_buffers;
  few_producers = omega (arith, length-append producers (producer ∷ []));
  few_writers = keeps.few_writers;
  are_buffers = keeps.are_buffers;
  are_producers = all_push IsProducer producers producer keeps.are_producers is;
  are_writers = all_map (IsWriter buffers producers) (IsWriter buffers (producers ++ producer ∷ [])) writers
      (λ w h. record {
        of_producer = h.of_producer;
        into_buffer = h.into_buffer;
        counts_producer = h.counts_producer;
        counts_buffer = h.counts_buffer;
        producer_is = get_more producers (producer ∷ []) (w.producer - 1) h.of_producer h.producer_is;
        buffer_is = h.buffer_is;
        fits = h.fits;
        tries = h.tries;
      }) keeps.are_writers;
}

more_writer : (buffers : List BufferLine) (producers : List ProducerLine) (writers : List WriterSpec) (writer : WriterSpec)
    → IsSetUp buffers producers writers → length writers < MAX_WRITERS → IsWriter buffers producers writer
    → IsSetUp buffers producers (writers ++ writer ∷ [])
more_writer buffers producers writers writer keeps room is = record {
  few_buffers = keeps.few_buffers;
  few_producers = keeps.few_producers;
  few_writers = omega (arith, length-append writers (writer ∷ []));
  are_buffers = keeps.are_buffers;
  are_producers = keeps.are_producers;
  are_writers = all_push (IsWriter buffers producers) writers writer keeps.are_writers is;
}

-- ---- what the tests of a line say

pub record IsNamed {X : Type 0} (things : List X) (number : Numeral) : Type 0 where
  pub thing : X
  pub counted : 1 ≤ value number
  pub is : slice_get things (value number - 1) ≡ Some thing
  pub item_is : item things number ≡ Some thing

named_at : {X : Type 0} (is_zero : Bool) (things : List X) (n : ℕ) (found : Option X) → nat_eq n 0 ≡ is_zero
    → item things (Fits n) ≡ found → cond is_zero None (slice_get things (n - 1)) ≡ found → is_none found ≡ false → IsNamed things (Fits n)
unfolding value
named_at true things n None zero_is whole is some = cc
named_at true things n (Some x) zero_is whole is some = absurd cc
named_at false things n None zero_is whole is some = absurd cc
named_at false things n (Some x) zero_is whole is some =
    record { thing = x; counted = grind (arith, common_steps, zero_is); is = is; item_is = whole }

pub named : {X : Type 0} (things : List X) (number : Numeral) → is_none (item things number) ≡ false → IsNamed things number
unfolding item
named things (Fits n) some = named_at (nat_eq n 0) things n _ refl refl refl some
named things TooLarge some = absurd cc

writer_named : (state : State) (producer buffer : Numeral) (policy : NamedPolicy) (from : Option Numeral)
    → first (front_reasons state (Writer producer buffer policy from)) ≡ None
    → IsWriter state.buffers state.producers (record { producer = value producer; buffer = value buffer; policy = policy_of policy; from = first_id from })
unfolding lacks_producer lacks_buffer has_larger_chunks is_larger
writer_named state producer buffer policy from none =
    let pass = passed state (Writer producer buffer policy from) none in
    let p = named state.producers producer pass.producer in
    let b = named state.buffers buffer pass.buffer in
    let larger : nat_lt (b.thing.kb * BYTES_PER_KB) (record_size (payload_size p.thing.page_size p.thing.chunks)) ≡ false =
    rw (p.item_is, b.item_is) at pass.larger in
    record {
      of_producer = p.thing;
      into_buffer = b.thing;
      counts_producer = p.counted;
      counts_buffer = b.counted;
      producer_is = p.is;
      buffer_is = b.is;
      fits = grind (arith, common_steps, larger);
      tries = tries_of_line state producer buffer policy from none;
    }

buffer_known : (state : State) (kb : Numeral) (policy : FullPolicy) → first (front_reasons state (Buffer kb policy)) ≡ None
    → IsBuffer (record { kb = value kb; policy = policy })
unfolding is_out_of_range
buffer_known state kb policy none =
    let within = not-false _ (passed state (Buffer kb policy) none).in_range in
    record { least = within_least MIN_BUFFER_KB MAX_BUFFER_KB kb within; most = within_most MIN_BUFFER_KB MAX_BUFFER_KB kb within }

producer_known : (state : State) (pages page_size chunks : Numeral)
    → first (front_reasons state (Producer pages page_size chunks)) ≡ None
    → IsProducer (record { pages = value pages; page_size = value page_size; chunks = value chunks })
producer_known state pages page_size chunks none =
    let known = of_producer_line state pages page_size chunks none in
    let line : ProducerLine = record { pages = value pages; page_size = value page_size; chunks = value chunks } in
    let cut : is_cut line ≡ true = producer_cut state pages page_size chunks none in
    record { some_pages = known.pages_some; few_pages = known.pages_few; page_size = cut_pages line cut; chunks = cut_chunks line cut }

-- ---- one line

served_keeps : (state : State) (producer : Numeral) (step : ProducerStep) → KeepsLimits state → KeepsLimits (served state producer step)
unfolding served with_closed
served_keeps state producer Collect keeps = keeps
served_keeps state producer Scrape keeps = keeps
served_keeps state producer Close keeps = keeps

moved_keeps : (state : State) (number : ℕ) (line : List ℕ) (form : Form) (nodes : List Shown) → first (front_reasons state form) ≡ None
    → KeepsLimits state
    → KeepsLimits (moved state number line form nodes)
unfolding moved written with_line with_packet with_bytes with_clone
moved_keeps state number line (Buffer kb policy) nodes none keeps =
    more_buffer state.buffers state.producers state.writers _ keeps (room_for_buffer state kb policy none) (buffer_known state kb policy none)
moved_keeps state number line (Producer pages page_size chunks) nodes none keeps =
    more_producer state.buffers state.producers state.writers _ keeps (room_for_producer state pages page_size chunks none)
    (producer_known state pages page_size chunks none)
moved_keeps state number line (Writer producer buffer policy from) nodes none keeps =
    more_writer state.buffers state.producers state.writers _ keeps (room_for_writer state producer buffer policy from none)
    (writer_named state producer buffer policy from none)
moved_keeps state number line (OfWriter writer step) nodes none keeps = keeps
moved_keeps state number line (OfProducer producer step) nodes none keeps = served_keeps _ producer step keeps
moved_keeps state number line (Read buffer limit) nodes none keeps = keeps
moved_keeps state number line Request nodes none keeps = keeps
moved_keeps state number line (CloneBuffer buffer) nodes none keeps = keeps
moved_keeps state number line (Raw raw) nodes none keeps = keeps

pub limits_kept : (state : State) (number : ℕ) (line : List ℕ) (form : Form) → refusal_of state line form ≡ None → KeepsLimits state
    → KeepsLimits (moved state number line form (nodes_given (given state line form)))
unfolding refusal_of
limits_kept state number line form none keeps =
    let front = (first_none (front_reasons state form) (back_reasons state line form) none).0 in
    moved_keeps state number line form (nodes_given (given state line form)) front keeps

pub nothing_kept : KeepsLimits beginning
nothing_kept = record {
  few_buffers = omega arith;
  few_producers = omega arith;
  few_writers = omega arith;
  are_buffers = tt;
  are_producers = tt;
  are_writers = tt;
}

pub scenario_is_set_up : (scenario : Scenario) → IsScenario scenario
    → IsSetUp scenario.buffers.items scenario.producers.items scenario.writers.items
scenario_is_set_up scenario is =
    let end =
    scenario_holds KeepsLimits (λ state number line form formed none keeps. limits_kept state number line form none keeps) nothing_kept
    scenario is in
    subst (λ (parts : Parts). IsSetUp parts.buffers parts.producers parts.writers) end.says end.holds
