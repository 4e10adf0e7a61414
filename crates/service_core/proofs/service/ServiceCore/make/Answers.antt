use Rattle.std.proofs.Common.{◌≡◌, ◌+◌, ◌-◌, ◌∙◌, ℕ, Bool, false, List, [], length, map, subst, sym, ap, arith, rules}
use Rattle.std.specs.List.{flat_map}
use Rattle.trace_model.specs.Buffers.{Buffer}
use Rattle.trace_model.specs.History.{buffers_after}
use Rattle.chunk_plain.specs.Laying.{setup_of}
use Rattle.std.proofs.lemmas.List.{length-map}
use Rattle.chunk_plain.specs.Views.{Noted, taken_of}
use Rattle.chunk_plain.specs.Histories.{happened}
use Rattle.world_model.specs.FirstBuffers.{first_buffers}
use Rattle.trace_buffer.specs.declared.answers.BufferSpec.{BufferSpec}
use Rattle.service_core.specs.Routing.{is_closed_at}
use Rattle.service_core.specs.Order.{LeadTo, beginning}
use Rattle.service_core.specs.Agreement.{IsRouted, buffer_of, AreKnownNotes, spec_value}
use Rattle.service_core.proofs.RouteLemmas.{buffers_none}
use Rattle.service_core.proofs.RoutedLemmas.{open_first}
use Rattle.service_core.proofs.MakeLemmas.{none_counted}
use Rattle.service_core.proofs.service.ServiceCore.make.Goals as goal

pub returns : goal.returns
returns g c = record {
  seat_is = search rules;
  specs = search rules;
  agrees = λ view unused.
      let setup = setup_of c.args.producers.now c.args.writers.now in
      let specs : c.in_ok-to_vec.field-0.items ≡ c.args.buffers.now = search rules in
      let none : buffers_after (first_buffers setup 1 (map spec_value c.args.buffers.now)) (flat_map (happened view) view.events) ≡ first_buffers setup 1 (map spec_value c.args.buffers.now) =
      ap (λ (notes : List Noted). buffers_after (first_buffers setup 1 (map spec_value c.args.buffers.now)) (flat_map (happened view) notes)) unused.none_noted
      ∙ buffers_none (first_buffers setup 1 (map spec_value c.args.buffers.now)) in
      let taken : c.in_ok-vec.field-0.items ≡ _ = c.in_ok-vec.ensures.items_if_clones_equal (λ y e. e) in
      record {
        layout = search rules;
        writers = search rules;
        routed = subst (λ (xs : List BufferSpec). IsRouted setup (length xs)) (sym specs) c.requires.routed;
        many = unused.taken;
        taken = taken ∙ none_counted view.taken (length c.args.writers.now) unused.taken unused.none_taken;
        buffers = c.in_ok-made.ensures ∙ sym none ∙ ap (λ (xs : List BufferSpec). buffers_after (first_buffers setup 1 (map spec_value xs)) (flat_map (happened view) view.events)) (sym specs);
        session = search rules;
        none_read = unused.none_read;
        arrived = λ place position low. absurd (let none = unused.none_taken place in omega (arith, low, none));
        known = subst (AreKnownNotes view) (sym unused.none_noted) tt;
        order = λ place inside none_of.
            let long = length-map c.args.buffers.now spec_value in
            let most = c.requires.routed.most place inside in
            let open_here : is_closed_at c.in_ok-made.made.items (buffer_of setup place - 1) (place + 2) ≡ false =
            ap (λ (bs : List Buffer). is_closed_at bs (buffer_of setup place - 1) (place + 2)) c.in_ok-made.ensures
            ∙ open_first setup (map spec_value c.args.buffers.now) place inside (c.requires.routed.least place inside) (omega (arith, most, long)) in
            subst (λ (es : List Noted). LeadTo view (place + 2) beginning es (record { come = (taken_of view place).count; closed = is_closed_at c.in_ok-made.made.items (buffer_of setup place - 1) (place + 2); due = [] })) (sym unused.none_noted)
            (ap (λ (n : ℕ). record { come = n; closed = false; due = [] }) (sym (unused.none_taken place))
            ∙ ap (λ (b : Bool). record { come = (taken_of view place).count; closed = b; due = [] }) (sym open_here));
      };
  is_open = λ place inside.
      let setup = setup_of c.args.producers.now c.args.writers.now in
      let long = length-map c.args.buffers.now spec_value in
      let most = c.requires.routed.most place inside in
      ap (λ (bs : List Buffer). is_closed_at bs (buffer_of setup place - 1) (place + 2)) c.in_ok-made.ensures
      ∙ open_first setup (map spec_value c.args.buffers.now) place inside (c.requires.routed.least place inside) (omega (arith, most, long));
  session = search rules;
}
