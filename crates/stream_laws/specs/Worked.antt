-- A worked stream: one source, whose writer emits one packet in one chunk; the stream commits the chunk and closes.
use Rattle.std.specs.Prelude.{◌≡◌, ℕ, ◌*◌, ◌≤◌, true, List, [], ◌∷◌, reverse, All}
use Rattle.trace_base.specs.declared.policy.FullPolicy.TheVariants.{Ring}
use Rattle.trace_model.specs.Delivery.{records_of}
use Rattle.trace_model.specs.History.{records_after}
use Rattle.trace_model.specs.Packets.{packets_of}
use Rattle.trace_model.specs.Calls.{Call}
use Rattle.trace_model.specs.Encoding.{NoFields, NumberField}
use Rattle.trace_model.specs.Pages.{Page}
use Rattle.trace_model.specs.Walks.{is_accepted}
use Rattle.trace_model.specs.WorkedWriters.{number_page, whole}
use Rattle.chunk_plain.specs.Setup.{Setup}
use Rattle.config_text.specs.Configs.{ConfigOf}
use Rattle.config_text.specs.Writing.{IsWritable}
use Rattle.commit_laws.specs.Complete.{commits_to, kept_bodies, kept_places, largest_record}
use Rattle.stream_producer.specs.Setups.{IsSetupFor, config_buffers}
use Rattle.stream_producer.specs.Whole.{stream_events}
use Rattle.stream_laws.specs.Sources.{IsSourceStream, first_at}

-- a ring buffer and a producer with a page, of 4 KB each, and the source with the name a
abbrev pub worked_config : ConfigOf
worked_config = record {
  buffers = record { size_kb = 4; policy = Ring } ∷ [];
  producers = record { name = []; shm_size_kb = 4; page_size_kb = 4 } ∷ [];
  sources = record { name = 0x61 ∷ []; target_buffer = 0; producer = 1 } ∷ [];
}

-- a packet with the number 5 in its field 8
abbrev pub worked_calls : List Call
worked_calls = whole (NumberField 8 5 NoFields)

-- its page
abbrev pub worked_pages : List Page
worked_pages = number_page 5 278 ∷ []

-- the frame of its commit, with no patch, and the frame of the close
abbrev pub worked_bytes : List ℕ
worked_bytes =
    0x11 ∷ 0x00 ∷ 0x00 ∷ 0x00 ∷ 0x01 ∷ 0x01 ∷ 0x00 ∷ 0x00 ∷ 0x00 ∷ 0x00 ∷ 0x01 ∷ 0x00 ∷ 0x01 ∷ 0x00 ∷ 0x00
    ∷ 0x82 ∷ 0x80 ∷ 0x80 ∷ 0x00 ∷ 0x40 ∷ 0x05 ∷ 0x01 ∷ 0x00 ∷ 0x00 ∷ 0x00 ∷ 0x03 ∷ []

-- It meets what the laws ask, and its packet is in the one record, without a mark.
pub record WorkedDelivery : Type 0 where
  pub setup : Setup
  pub writable : IsWritable worked_config
  pub made : IsSetupFor worked_config setup
  pub stream : IsSourceStream worked_config setup worked_bytes 0 284 worked_calls worked_pages
  pub passes : All (λ (body : List ℕ). is_accepted body ≡ true) (kept_bodies (reverse (packets_of worked_calls)))
  pub bytes : commits_to (first_at worked_config setup 0 stream.has).sequences (stream_events worked_config setup worked_bytes)
      * largest_record (first_at worked_config setup 0 stream.has).sequences
      ≤ (first_at worked_config setup 0 stream.has).room
  pub places : kept_places 0 (reverse (packets_of worked_calls)) ≡ 0 ∷ []
  pub delivered : records_of 2 (records_after (config_buffers worked_config setup) (stream_events worked_config setup worked_bytes))
      ≡ (0x0A ∷ 0x07 ∷ 0x40 ∷ 0x05 ∷ 0x50 ∷ 0x02 ∷ 0xD0 ∷ 0x02 ∷ 0x01 ∷ []) ∷ []
