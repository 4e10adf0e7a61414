-- The buffer of a source, among the buffers of a configuration.
use Rattle.std.proofs.Common.{◌≡◌, ◌∙◌, ℕ, ◌+◌, ◌-◌, ◌<◌, List, [], length, map, Some, sym, ap, subst, arith}
use Rattle.std.specs.Prelude.{slice_get, option_map}
use Rattle.std.proofs.lemmas.List.{length-map}
use Rattle.std.proofs.lemmas.Option.{slice_get-get_or, slice_get-map}
use Rattle.trace_base.specs.declared.policy.FullPolicy.TheVariants.{Ring}
use Rattle.trace_base.specs.declared.policy.WriterSpec.{WriterSpec}
use Rattle.trace_model.specs.Buffers.{empty_buffer}
use Rattle.chunk_plain.specs.Setup.{Setup}
use Rattle.world_model.specs.FirstBuffers as first
use Rattle.world_model.proofs.MakingLemmas.{first_long}
use Rattle.service_core.specs.Agreement.{spec_value}
use Rattle.config_text.specs.Configs.{ConfigOf}
use Rattle.commit_laws.specs.Streams.{IsBufferOf}
use Rattle.stream_producer.specs.Setups.{IsSetupFor, buffer_asked, config_buffers, writer_asked}
use Rattle.stream_laws.specs.Sources.{HasSource, first_at}

-- the buffers that a configuration asks for
abbrev pub asked_specs : ConfigOf → List first.BufferSpec
asked_specs config = map spec_value (map buffer_asked config.buffers)

-- as many as it has
pub buffers_long : (config : ConfigOf) (setup : Setup) → length (config_buffers config setup) ≡ length config.buffers
buffers_long config setup =
    first_long setup 1 (asked_specs config)
    ∙ length-map (map buffer_asked config.buffers) spec_value ∙ length-map config.buffers buffer_asked

module _ (config : ConfigOf) (setup : Setup) (made : IsSetupFor config setup) (place : ℕ) (has : HasSource config place) where
  pub writers_are : setup.writers ≡ map writer_asked config.sources
  writers_are = ap (λ (s : Setup). s.writers) made.laid

  pub writer_is : slice_get setup.writers place ≡ Some (writer_asked has.source)
  writer_is =
      ap (λ (specs : List WriterSpec). slice_get specs place) writers_are
      ∙ slice_get-map writer_asked config.sources place ∙ ap (option_map writer_asked) has.there

  pub is_buffer_of : IsBufferOf setup (asked_specs config) place (first_at config setup place has)
  is_buffer_of =
      let inside : has.source.target_buffer < length (config_buffers config setup) =
      subst (λ (n : ℕ). has.source.target_buffer < n) (sym (buffers_long config setup)) has.target in
      let index : has.source.target_buffer ≡ has.source.target_buffer + 1 - 1 = omega arith in
      record {
        spec = writer_asked has.source;
        writer = writer_is;
        counted = omega arith;
        there = ap (slice_get (config_buffers config setup)) (sym index)
            ∙ slice_get-get_or (config_buffers config setup) has.source.target_buffer (empty_buffer 0 Ring []) inside;
      }
