-- The buffer that a writer names is the one that has its sequence, so the records of the sequence are those that it delivers.
use Rattle.std.proofs.Common.{◌≡◌, ◌∙◌, ℕ, zero, suc, ◌+◌, ◌<◌, ◌==◌, false, Some, List, [], ◌∷◌, length, inl, inr, refl, ap}
use Rattle.std.proofs.Common.{arith}
use Rattle.std.specs.Prelude.{slice_get}
use Rattle.std.proofs.lemmas.Bool.{eq-eqb, ne_eqb}
use Rattle.std.proofs.lemmas.List.{length-map}
use Rattle.trace_base.specs.declared.policy.WriterSpec.{WriterSpec}
use Rattle.trace_model.specs.Buffers.{Buffer, empty_buffer}
use Rattle.trace_model.specs.Delivery.{records_of}
use Rattle.trace_model.specs.History.{Event, delivered_to, records_after}
use Rattle.trace_model.specs.Reads.{Delivery}
use Rattle.trace_model.specs.Record.{record_of}
use Rattle.chunk_plain.specs.Setup.{Setup}
use Rattle.world_model.specs.FirstBuffers.{BufferSpec, first_buffers, sequences_from}
use Rattle.world_model.proofs.MakingLemmas.{set_at}
use Rattle.world_model.proofs.ProjectLemmas.{Once, Without, once_writes}
use Rattle.schedule_laws.specs.ReportLaws.{buffer_named}

module _ (setup : Setup) (place : ℕ) (spec : WriterSpec) (get : slice_get setup.writers place ≡ Some spec) where
  -- no buffer behind it has the sequence
  none_behind : (number : ℕ) (buffers : List BufferSpec) → spec.buffer < number → Without (place + 2) (first_buffers setup number buffers)
  none_behind number [] low = tt
  none_behind number (buffer ∷ buffers) low =
      let apart : (spec.buffer == number) ≡ false = ne_eqb spec.buffer number (λ e. omega (arith, e, low)) in
      ((set_at setup place spec get number).known ∙ apart, none_behind (suc number) buffers (omega (arith, low)))

  once_named : (number : ℕ) (buffers : List BufferSpec) (index : ℕ) (buffer : BufferSpec) → slice_get buffers index ≡ Some buffer
      → number + index ≡ spec.buffer → Once (place + 2) (buffer_named setup spec buffer) (first_buffers setup number buffers)
  once_named number [] index buffer there is = absurd (cc)
  once_named number (first ∷ buffers) zero buffer there is =
      let same : first ≡ buffer = cc in
      let named : number ≡ spec.buffer = omega (arith, is) in
      let known = (set_at setup place spec get spec.buffer).known ∙ eq-eqb spec.buffer spec.buffer refl in
      inl (
        ap (λ (b : BufferSpec). empty_buffer b.size b.policy (sequences_from setup number 0 setup.writers)) same
            ∙ ap (λ (n : ℕ). empty_buffer buffer.size buffer.policy (sequences_from setup n 0 setup.writers)) named,
        known,
        none_behind (suc number) buffers (omega (arith, named)),
      )
  once_named number (first ∷ buffers) (suc index) buffer there is =
      let apart : (spec.buffer == number) ≡ false = ne_eqb spec.buffer number (λ e. omega (arith, e, is)) in
      inr ((set_at setup place spec get number).known ∙ apart, once_named (suc number) buffers index buffer there (omega (arith, is)))

  -- as many records are of the sequence as its buffer delivers
  pub delivered_once : (buffers : List BufferSpec) (index : ℕ) (buffer : BufferSpec) (events : List Event) → slice_get buffers index ≡ Some buffer
      → 1 + index ≡ spec.buffer
      → length (records_of (place + 2) (records_after (first_buffers setup 1 buffers) events))
      ≡ length (delivered_to (place + 2) (buffer_named setup spec buffer) events)
  delivered_once buffers index buffer events there is =
      let named : Buffer = buffer_named setup spec buffer in
      ap (λ (rs : List (List ℕ)). length rs)
      (once_writes (place + 2) events named (first_buffers setup 1 buffers) (once_named 1 buffers index buffer there is))
      ∙ length-map (delivered_to (place + 2) named events) (λ (one : Delivery). record_of one.body (place + 2) one.marked)
