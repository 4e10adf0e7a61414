use Rattle.std.proofs.Common.{◌≡◌, ◌∙◌, ◌<◌, List, [], ◌∷◌, ◌++◌, length, map, take, sym, ap, arith, length-take-le}
use Rattle.std.proofs.lemmas.List.{take_more, map-append, length-map}
use Rattle.trace_base.specs.declared.policy.FullPolicy.TheVariants.{Ring}
use Rattle.trace_model.specs.Buffers.{Buffer, empty_buffer}
use Rattle.chunk_plain.specs.Laying.{setup_of}
use Rattle.world_model.specs.FirstBuffers as first
use Rattle.world_model.specs.FirstBuffers.{first_buffers}
use Rattle.trace_buffer.specs.Made.{sequence_of}
use Rattle.trace_buffer.specs.declared.answers.BufferSpec.{BufferSpec}
use Rattle.service_core.specs.Agreement.{spec_value}
use Rattle.service_core.specs.Making.{buffer_spec_at}
use Rattle.service_core.proofs.MakeLemmas.{first_next}
use Rattle.service_core.proofs.making.make_buffers.Goals as goal

pub loop-index-preserved : goal.loop-index-preserved
loop-index-preserved c =
    let index = c.loop-index.index in
    let buffers = c.args.buffers.now in
    let setup = setup_of c.args.producers.now c.args.writers.now in
    let below : index < length buffers = c.loop-index-test.true in
    let spec : BufferSpec = buffer_spec_at buffers index in
    let before : List first.BufferSpec = map spec_value (take index buffers) in
    let long : length before ≡ index = length-map (take index buffers) spec_value ∙ length-take-le index buffers (omega arith) in
    let made : c.in_ok-make.field-0 ≡ empty_buffer spec.size spec.policy (map sequence_of c.deref.result.now) = c.in_ok-make.ensures in
    let given = ap (λ xs. map sequence_of xs) c.deref.ensures.value ∙ c.in_ok-sequences.ensures.sequences in
    record {
      made = c.in_ok-push.ensures.items
          ∙ ap (λ (bs : List Buffer). bs ++ c.in_ok-make.field-0 ∷ []) c.loop-index.invariant.made
          ∙ ap (λ (b : Buffer). first_buffers setup 1 before ++ b ∷ []) (made ∙ ap (empty_buffer spec.size spec.policy) given)
          ∙ sym (first_next setup before (spec_value spec) index long)
          ∙ ap (first_buffers setup 1) (sym (map-append spec_value (take index buffers) (spec ∷ [])))
          ∙ ap (λ (xs : List BufferSpec). first_buffers setup 1 (map spec_value xs)) (sym (take_more buffers index (record { size = 0; policy = Ring }) below));
    }
