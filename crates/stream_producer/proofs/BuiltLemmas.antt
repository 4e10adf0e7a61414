-- From what the parts of a stream producer are made with to what the producer is.
use Rattle.std.proofs.Common.{◌≡◌, ◌∙◌, ℕ, ◌+◌, ◌^◌, ◌<◌, false, List, length, map, vec_len, Option, Some, unwrap_or, refl, sym, ap, subst, arith}
use Rattle.std.specs.List.{AllZip}
use Rattle.std.proofs.lemmas.List.{length-map}
use Rattle.trace_base.specs.declared.policy.WriterSpec.{WriterSpec}
use Rattle.chunk_plain.proofs.MadeLemmas.{all_same}
use Rattle.chunk_plain.specs.declared.plain.PlainTable.{PlainTable}
use Rattle.chunk_plain.specs.declared.plain_seats.PlainService.{PlainService}
use Rattle.chunk_plain.specs.declared.setup.ProducerSpec.{ProducerSpec}
use Rattle.chunk_plain.specs.contracts.plain_words.PlainTableWords.TheImpl.{ghosts as plain}
use Rattle.chunk_plain.specs.Histories.{history_of}
use Rattle.chunk_plain.specs.Laying.{setup_of}
use Rattle.chunk_plain.specs.Meaning.{Meaning}
use Rattle.chunk_plain.specs.Plain.{first_world}
use Rattle.chunk_plain.specs.Setup.{Setup}
use Rattle.chunk_plain.specs.Views.{ServiceView, Taken, none_taken}
use Rattle.chunk_plain.specs.World.{World, nowhere}
use Rattle.world_model.specs.FirstBuffers.{first_buffers}
use Rattle.trace_buffer.specs.declared.answers.BufferSpec.{BufferSpec}
use Rattle.service_core.specs.Agreement.{ServiceAgrees, is_closed, spec_value}
use Rattle.service_core.specs.Making.{IsUnused}
use Rattle.config_text.specs.Configs.{ConfigOf}
use Rattle.config_text.specs.Writing.{IsWritable}
use Rattle.stream_frames.specs.Frames.{Limits}
use Rattle.stream_frames.specs.Framing.{Feeding, beginning}
use Rattle.stream_frames.specs.Reads.{IsReading}
use Rattle.stream_frames.specs.Values.{limits_of, feeding_of}
use Rattle.stream_producer.specs.declared.producer.StreamCore.{StreamCore}
use Rattle.stream_producer.specs.Feeding.{HasRoom, IsFeeding, IsMadeFor}
use Rattle.stream_producer.specs.Setups.{IsSpecOf, buffer_asked, config_limits, writer_asked}
use Rattle.stream_producer.specs.Standing.{FitsSetup, Serves, Stands, view_of}
use Rattle.stream_producer.proofs.SetUpLemmas.{few_buffers, few_writers, limits_fit}

-- the set-up of a table for the producers as they were made
abbrev pub setup_for : ConfigOf → List ProducerSpec → Setup
setup_for config specs = setup_of specs (map writer_asked config.sources)

-- the parts of a stream producer, each as it is made
pub record IsBuilt {T W S : Type 0} (means : Meaning T W S) (config : ConfigOf) (specs : List ProducerSpec)
    (core : StreamCore T S) : Type 0 where
  pub made : AllZip IsSpecOf config.producers specs
  pub setup_is : means.setup core.player.table ≡ setup_for config specs
  pub service_view : view_of means core.player ≡ (first_world (setup_for config specs)).service
  pub serves : means.serves core.player.table core.player.service.seat
  pub reads : means.takes_reads core.player.table core.player.service.seat
  pub buffers : core.player.service.specs.items ≡ map buffer_asked config.buffers
  pub agrees : (view : ServiceView) → IsUnused (length (map writer_asked config.sources)) view
      → ServiceAgrees (setup_for config specs) view core.player.service
  pub opened : (place : ℕ) → place < length (map writer_asked config.sources)
      → is_closed (setup_for config specs) core.player.service place ≡ false
  pub limits : limits_of core.reader ≡ config_limits config
  pub feeding : feeding_of core.reader ≡ beginning
  pub reading : IsReading (limits_of core.reader) (feeding_of core.reader)
  pub commits : core.player.commits ≡ 0
  pub refused : core.player.refused ≡ 0
  pub room_buffers : vec_len core.done.buffers ≡ length config.buffers
  pub room_sequences : vec_len core.done.sequences ≡ length config.sources

-- the service of the first world is unused
unused : (setup : Setup) → IsUnused (length setup.writers) (first_world setup).service
unused setup = record {
  taken = length-map setup.writers (λ (_ : WriterSpec). none_taken);
  none_taken = λ place. ap (λ (t : Taken). t.count) (all_same none_taken setup.writers place);
  none_read = refl;
  none_noted = refl;
}

module _ {T W S : Type 0} (means : Meaning T W S) (config : ConfigOf) (writable : IsWritable config) (specs : List ProducerSpec)
    (core : StreamCore T S) (built : IsBuilt means config specs core) where
  built_served : Serves means core.player
  built_served = record {
    serves = built.serves;
    agrees = subst (λ (s : Setup). ServiceAgrees s (view_of means core.player) core.player.service) (sym built.setup_is)
        (subst (λ (v : ServiceView). ServiceAgrees (setup_for config specs) v core.player.service) (sym built.service_view)
        (built.agrees (first_world (setup_for config specs)).service (unused (setup_for config specs))));
    reads = built.reads;
  }

  built_stands : Stands means core.player
  built_stands = record {
    served = built_served;
    opened = λ place below.
        ap (λ (s : Setup). is_closed s core.player.service place) built.setup_is
        ∙ built.opened place (subst (λ (s : Setup). place < length s.writers) built.setup_is below);
  }

  built_room : HasRoom means core
  built_room =
      let buffers = built.room_buffers in
      let sequences = built.room_sequences in
      let many_buffers = length-map config.buffers buffer_asked in
      let many_writers = length-map config.sources writer_asked in
      let few_buffers_here = few_buffers config writable specs built.made in
      let few_writers_here = few_writers config writable specs built.made in
      record {
        buffers = buffers ∙ sym many_buffers ∙ ap (λ (xs : List BufferSpec). length xs) (sym built.buffers);
        few_buffers = omega (arith, buffers, many_buffers, few_buffers_here);
        sequences = sequences ∙ sym many_writers ∙ ap (λ (s : Setup). length s.writers) (sym built.setup_is);
        few_sequences = omega (arith, sequences, many_writers, few_writers_here);
      }

  -- no piece came yet
  pub built_is_feeding : IsFeeding means core
  built_is_feeding = record {
    ready = record {
      stands = built_stands;
      fits = subst (λ (l : Limits). FitsSetup l (means.setup core.player.table)) (sym built.limits)
          (subst (FitsSetup (config_limits config)) (sym built.setup_is) (limits_fit config writable specs built.made));
      room = built_room;
      counted = subst (λ (f : Feeding). f.at + length f.have < 2 ^ 64) (sym built.feeding) (omega arith);
    };
    reading = built.reading;
  }

  -- and it is at the beginning of a stream
  pub built_is_made : IsMadeFor means config core
  built_is_made = record {
    setup = record { specs = specs; made = built.made; laid = built.setup_is };
    limits = built.limits;
    first = ap (λ (xs : List BufferSpec). first_buffers (means.setup core.player.table) 1 (map spec_value xs)) built.buffers;
    feeding = built.feeding;
    history = ap history_of built.service_view;
    commits = built.commits;
    refused = built.refused;
  }

-- what the service of a table of one thread knows, as the table is made
pub table_service : (table : PlainTable) (setup : Setup) (seat : PlainService) → plain.means.told table ≡ Some (first_world setup)
    → plain.means.service_view table seat ≡ (first_world setup).service
table_service table setup seat told =
    let world : table.told.world ≡ first_world setup = ap (λ (known : Option World). unwrap_or known nowhere) told in
    ap (λ (w : World). w.service) world
