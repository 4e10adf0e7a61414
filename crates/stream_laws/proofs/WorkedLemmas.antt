-- The worked stream, by computing.
use Rattle.std.proofs.Common.{◌≡◌, ℕ, ◌<◌, true, List, [], ◌∷◌, reverse, refl, arith}
use Rattle.std.specs.Prelude.{slice_index_or, ◌≢◌}
use Rattle.std.proofs.lemmas.List.Elements.{All-from_recursion}
use Rattle.std.proofs.lemmas.List.Sorted.{IsPermutation-refl}
use Rattle.wire_varint.specs.Varint.{varint, groups, tag, redundant}
use Rattle.trace_base.specs.Ids.{position_of}
use Rattle.trace_base.specs.declared.policy.FullPolicy.TheVariants.{Ring}
use Rattle.page_geometry.specs.declared.geometry.Geometry.{Geometry}
use Rattle.page_geometry.specs.Header.{unpacked}
use Rattle.page_geometry.specs.Sizes.{payload_size, chunk_size}
use Rattle.trace_model.specs.Cut.{CutsInto, IsWellFormedPage}
use Rattle.trace_model.specs.Encoding.{number_field, bytes_head, bytes_field}
use Rattle.trace_model.specs.Packets.{packets_of}
use Rattle.trace_model.specs.Record.{content_of, record_of}
use Rattle.trace_model.specs.Walks.{is_refused, is_number, is_accepted}
use Rattle.chunk_plain.specs.declared.setup.ProducerSpec.{ProducerSpec}
use Rattle.chunk_plain.specs.Laying.{setup_of}
use Rattle.chunk_plain.specs.Setup.{Setup}
use Rattle.config_text.specs.declared.config.ConfigProducer.{ConfigProducer}
use Rattle.config_text.specs.Writing.{IsBuffer, IsProducer, IsSource, IsWritable}
use Rattle.commit_laws.specs.Commits.{commits_in}
use Rattle.commit_laws.specs.Complete.{kept_bodies}
use Rattle.stream_frames.specs.Decoding.{patches_at, counted_at, commit_at, frame_of, decoded}
use Rattle.stream_frames.specs.Framing.{behind_length, front_of, fed_byte, fed}
use Rattle.stream_producer.specs.Setups.{writer_asked}
use Rattle.stream_producer.specs.Whole.{stream_events}
use Rattle.stream_laws.specs.Worked.{WorkedDelivery, worked_bytes, worked_calls, worked_config, worked_pages}

abbrev worked_geometry : Geometry
worked_geometry = record {
  page_size = 4096;
  chunks = 14;
  sized = record { whole = refl; least = omega arith; most = omega arith };
  counted = ∣ (4, omega arith, refl) ∣₁;
}

abbrev worked_specs : List ProducerSpec
worked_specs = record { pages = 1; geometry = worked_geometry } ∷ []

abbrev worked_setup : Setup
worked_setup = setup_of worked_specs (writer_asked (record { name = 0x61 ∷ []; target_buffer = 0; producer = 1 }) ∷ [])

no_earlier : (k : ℕ) (d : ConfigProducer) → k < 0 → (slice_index_or worked_config.producers k d).name ≢ []
no_earlier k d below = absurd (omega (arith, below))

writable : IsWritable worked_config
unfolding payload_size chunk_size
writable = record {
  some_producer = omega arith;
  few_buffers = omega arith;
  few_producers = omega arith;
  few_sources = omega arith;
  buffers = All-from_recursion IsBuffer worked_config.buffers ((omega arith, omega arith), tt);
  producers = All-from_recursion IsProducer worked_config.producers (
    record {
      quotable = tt;
      least = omega arith;
      most = omega arith;
      whole = refl;
      pages = 1;
      some_page = omega arith;
      few_pages = omega arith;
      memory = refl;
    },
    tt,
  );
  sources = All-from_recursion (IsSource worked_config) worked_config.sources (
    record {
      quotable = (refl, tt);
      buffer = record { size_kb = 4; policy = Ring };
      has_buffer = refl;
      producer = record { name = []; shm_size_kb = 4; page_size_kb = 4 };
      numbered = omega arith;
      has_producer = refl;
      first = no_earlier;
      unnamed = λ e. refl;
      fits = omega arith;
    },
    tt,
  );
}

cut : CutsInto 284 (packets_of worked_calls) worked_pages
unfolding groups varint tag redundant number_field bytes_head bytes_field
cut = record {
  full = All-from_recursion (IsWellFormedPage 284) worked_pages (
    record { some = omega arith; most = omega arith; whole = refl; dropped = λ h. absurd (cc) },
    tt,
  );
  flags = (refl, tt);
  last = λ h. absurd (cc);
  chains = (record { marked = refl; bytes = refl; ends = refl; goes_on = refl; lengths = refl }, tt);
  patches = record { sent = (refl, tt); lasts = tt; awaits = (refl, tt); placed = refl; behind = (tt, tt) };
  begins = refl;
}

pub worked_delivery : WorkedDelivery
unfolding groups varint tag redundant number_field bytes_head bytes_field content_of record_of is_accepted is_refused is_number payload_size chunk_size unpacked patches_at counted_at commit_at frame_of decoded behind_length front_of fed_byte fed position_of
worked_delivery = record {
  setup = worked_setup;
  writable = writable;
  made = record {
    specs = worked_specs;
    made = (record { pages = refl; page_size = refl; chunks = refl }, tt);
    laid = refl;
  };
  stream = record {
    has = record { source = record { name = 0x61 ∷ []; target_buffer = 0; producer = 1 }; there = refl; target = omega arith };
    cut = record { possible = refl; small = omega arith; cut = cut; ends = refl };
    each_once = IsPermutation-refl (commits_in 2 (stream_events worked_config worked_setup worked_bytes));
    accepted = ((λ e. refl), tt);
    behind = (refl, tt);
    lasts = tt;
  };
  passes = All-from_recursion (λ (body : List ℕ). is_accepted body ≡ true) (kept_bodies (reverse (packets_of worked_calls))) (refl, tt);
  bytes = omega arith;
  places = refl;
  delivered = refl;
}
