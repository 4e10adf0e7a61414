-- The lines before the first packet of a workload are taken, and set up what it asks for.
use Rattle.std.proofs.Common.{◌≡◌, ℕ, zero, suc, ◌+◌, ◌<◌, ◌≤◌, nat_le, false, Option, Some, None, Ok, List, [], ◌∷◌, ◌++◌, length, refl, add-one, ap, ◌∙◌, arith}
use Rattle.std.specs.Prelude.{codes, replicate}
use Rattle.std.proofs.lemmas.Bool.{lt-leb}
use Rattle.std.proofs.lemmas.List.{length-replicate, replicate_more}
use Rattle.trace_base.specs.declared.limits.TheConstants.{MAX_WRITERS}
use Rattle.trace_base.specs.declared.policy.FullPolicy.TheVariants.{Ring}
use Rattle.page_geometry.specs.Sizes.{payload_size, chunk_size}
use Rattle.trace_base.specs.declared.numeral.Numeral.TheVariants.{Fits}
use Rattle.scenario_text.specs.declared.form.NamedPolicy.TheVariants.{Stalls}
use Rattle.scenario_text.specs.declared.form.Form.{Form}
use Rattle.scenario_text.specs.declared.form.Form.TheVariants.{Buffer, Producer, Writer}
use Rattle.scenario_text.specs.declared.open_packet.OpenPacket.{OpenPacket}
use Rattle.trace_base.specs.Numerals.{value_from, number_of, sized, sized_value, numeral_of}
use Rattle.scenario_text.specs.Forms.{with_number, three_words, four_words, buffer_form, producer_form, policy_form, writer_form, more_words, long_form, form_of_words, form_of}
use Rattle.scenario_text.specs.Items.{item}
use Rattle.scenario_text.specs.Ranges.{fits, value, is_within, is_page_size, is_chunk_count}
use Rattle.scenario_text.specs.State.{State, beginning}
use Rattle.scenario_text.specs.Reasons.{refusal_of, front_reasons, back_reasons, given, len_before, are_tries, is_out_of_range, is_producer_in_range, is_late, is_set_up, is_too_many, lacks_producer, lacks_buffer, lacks_writer, is_larger, has_larger_chunks, has_closed_producer, has_long_payload, meets_packet, lacks_packet, lacks_nesting, leaves_nesting, is_id}
use Rattle.scenario_text.specs.Effects.{policy_of, moved, nodes_given, first_id}
use Rattle.scenario_text.specs.Grammar.{says_nothing, unless, after_form, after_line}
use Rattle.workload_gen.specs.Workload.{repeated, set_up_lines}
use Rattle.workload_laws.specs.Asked.{buffer_asked, producer_asked, writer_asked}
use Rattle.workload_laws.proofs.WalkLemmas.{Leads, leads_nowhere, leads_further, line_leads}

-- no packet is begun
abbrev pub none_begun : ℕ → List (Option OpenPacket)
none_begun writers = replicate writers None

-- with so many writers set up
abbrev pub set_up : ℕ → State
set_up writers = record {
  buffers = buffer_asked ∷ [];
  producers = producer_asked ∷ [];
  writers = replicate writers writer_asked;
  lines = [];
  closed = false ∷ [];
  packets = none_begun writers;
  bytes = 0;
  clones = 0;
}

abbrev with_buffer : State
with_buffer = record { buffers = buffer_asked ∷ []; producers = []; writers = []; lines = []; closed = []; packets = []; bytes = 0; clones = 0 }

-- a line that says something, and for which no reason holds
accepted : (state : State) (number : ℕ) (line : List ℕ) (form : Form) → says_nothing line ≡ false → form_of line ≡ Some form
    → refusal_of state line form ≡ None
    → after_line state number line ≡ Ok (moved state number line form (nodes_given (given state line form)))
unfolding after_line after_form unless
accepted state number line form says is none = rw says (rw is (rw none refl))

-- ---- the buffer

buffer_is : form_of (codes "buffer 65536 ring") ≡ Some (Buffer (Fits 65536) Ring)
unfolding form_of_words long_form more_words three_words with_number buffer_form numeral_of number_of value_from sized_value sized
buffer_is = refl

buffer_passes : refusal_of beginning (codes "buffer 65536 ring") (Buffer (Fits 65536) Ring) ≡ None
unfolding refusal_of front_reasons back_reasons given len_before is_out_of_range is_within is_late is_set_up is_too_many lacks_producer lacks_buffer lacks_writer has_larger_chunks has_closed_producer has_long_payload meets_packet lacks_packet lacks_nesting leaves_nesting
buffer_passes = refl

buffer_leads : after_line beginning 1 (codes "buffer 65536 ring") ≡ Ok with_buffer
unfolding says_nothing moved value
buffer_leads = accepted beginning 1 (codes "buffer 65536 ring") (Buffer (Fits 65536) Ring) refl buffer_is buffer_passes

-- ---- the producer

producer_is : form_of (codes "producer 16 4096 14") ≡ Some (Producer (Fits 16) (Fits 4096) (Fits 14))
unfolding form_of_words long_form more_words four_words with_number producer_form numeral_of number_of value_from sized_value sized
producer_is = refl

producer_passes : refusal_of with_buffer (codes "producer 16 4096 14") (Producer (Fits 16) (Fits 4096) (Fits 14)) ≡ None
unfolding refusal_of front_reasons back_reasons given len_before is_out_of_range is_producer_in_range is_within is_page_size is_chunk_count is_late is_set_up is_too_many lacks_producer lacks_buffer lacks_writer has_larger_chunks has_closed_producer has_long_payload meets_packet lacks_packet lacks_nesting leaves_nesting
producer_passes = refl

producer_leads : after_line with_buffer 2 (codes "producer 16 4096 14") ≡ Ok (set_up 0)
unfolding says_nothing moved value
producer_leads =
    accepted with_buffer 2 (codes "producer 16 4096 14") (Producer (Fits 16) (Fits 4096) (Fits 14)) refl producer_is producer_passes

front_leads : Leads beginning 1 (codes "buffer 65536 ring\nproducer 16 4096 14\n") (set_up 0) 3
front_leads =
    leads_further (line_leads beginning with_buffer 1 2 (codes "buffer 65536 ring") refl buffer_leads refl)
    (line_leads with_buffer (set_up 0) 2 3 (codes "producer 16 4096 14") refl producer_leads refl)

-- ---- the writers

writer_is : form_of (codes "writer 1 1 stall") ≡ Some (Writer (Fits 1) (Fits 1) Stalls None)
unfolding form_of_words long_form more_words four_words with_number writer_form policy_form numeral_of number_of value_from sized_value sized
writer_is = refl

writer_passes : (writers : ℕ) → writers < MAX_WRITERS → refusal_of (set_up writers) (codes "writer 1 1 stall") (Writer (Fits 1) (Fits 1) Stalls None) ≡ None
unfolding refusal_of front_reasons back_reasons given len_before is_out_of_range are_tries is_id fits is_late is_set_up is_too_many lacks_producer lacks_buffer lacks_writer item is_larger has_larger_chunks payload_size chunk_size has_closed_producer has_long_payload meets_packet lacks_packet lacks_nesting leaves_nesting
writer_passes writers few =
    let room : nat_le MAX_WRITERS (length (replicate writers writer_asked)) ≡ false =
    lt-leb MAX_WRITERS (length (replicate writers writer_asked)) (omega (arith, length-replicate writers writer_asked)) in
    rw room refl

replicate_push : {X : Type 0} (n : ℕ) (x : X) → replicate n x ++ x ∷ [] ≡ replicate (suc n) x
replicate_push n x = replicate_more n x ∙ ap (λ (m : ℕ). replicate m x) (add-one n)

one_more : (writers : ℕ)
    → moved (set_up writers) (writers + 3) (codes "writer 1 1 stall") (Writer (Fits 1) (Fits 1) Stalls None) [] ≡ set_up (suc writers)
unfolding moved policy_of first_id value
one_more writers =
    let specs = replicate_push writers writer_asked in
    let packets : none_begun writers ++ None ∷ [] ≡ none_begun (suc writers) = replicate_push writers None in
    rw (specs, packets) refl

writer_leads : (writers : ℕ) → writers < MAX_WRITERS → after_line (set_up writers) (writers + 3) (codes "writer 1 1 stall") ≡ Ok (set_up (suc writers))
unfolding says_nothing given
writer_leads writers few =
    accepted (set_up writers) (writers + 3) (codes "writer 1 1 stall") (Writer (Fits 1) (Fits 1) Stalls None) refl writer_is (writer_passes writers few)
    ∙ ap (λ (after : State). Ok after) (one_more writers)

writers_lead : (writers : ℕ) → writers ≤ MAX_WRITERS → Leads (set_up 0) 3 (repeated writers (codes "writer 1 1 stall\n")) (set_up writers) (writers + 3)
unfolding repeated
writers_lead zero few = leads_nowhere (set_up 0) 3
writers_lead (suc writers) few =
    leads_further (writers_lead writers (omega arith))
    (line_leads (set_up writers) (set_up (suc writers)) (writers + 3) (suc writers + 3) (codes "writer 1 1 stall") refl
    (writer_leads writers (omega arith)) (omega arith))

pub set_up_leads : (writers : ℕ) → writers ≤ MAX_WRITERS → Leads beginning 1 (set_up_lines writers) (set_up writers) (writers + 3)
unfolding set_up_lines
set_up_leads writers few = leads_further front_leads (writers_lead writers few)
