-- What is delivered of a stream of frames: packets of the writers whose images it commits, exact, whole, once and in order.
use Rattle.std.specs.Prelude.{◌≡◌, ℕ, ◌*◌, ◌≤◌, true, List, reverse, All}
use Rattle.trace_model.specs.Calls.{Call}
use Rattle.trace_model.specs.Delivery.{records_of}
use Rattle.trace_model.specs.History.{records_after}
use Rattle.trace_model.specs.Packets.{emissions_of, packets_of}
use Rattle.trace_model.specs.Pages.{Page}
use Rattle.trace_model.specs.Tells.{Tells}
use Rattle.trace_model.specs.Walks.{is_accepted}
use Rattle.chunk_plain.specs.Setup.{Setup, sequence_of}
use Rattle.config_text.specs.Configs.{ConfigOf}
use Rattle.config_text.specs.Writing.{IsWritable}
use Rattle.commit_laws.specs.Complete.{TellsAt, commits_to, kept_bodies, kept_places, largest_record}
use Rattle.stream_producer.specs.Setups.{IsSetupFor, config_buffers}
use Rattle.stream_producer.specs.Whole.{stream_events}
use Rattle.stream_laws.specs.Sources.{IsSourceStream, first_at}

-- Under any configuration: where the commits of a source are the images of what a writer completed, the records of its sequence in the
-- trace of the whole stream, with its end, tell of the packets that the writer emitted.
abbrev pub StreamsDeliver : Type 0
StreamsDeliver =
    (config : ConfigOf) (setup : Setup) → IsSetupFor config setup
    → (stream : List ℕ) (place size : ℕ) (calls : List Call) (pages : List Page)
    → IsSourceStream config setup stream place size calls pages
    → Tells (emissions_of calls) (sequence_of place)
    (records_of (sequence_of place) (records_after (config_buffers config setup) (stream_events config setup stream)))

-- Under a configuration as a text can spell it, where also the buffer has the bytes of its largest record for each commit, and the
-- packet check accepts each packet that was emitted and never dropped: each of these packets is in a record, and there are no other
-- records.
abbrev pub StreamsDeliverAll : Type 0
StreamsDeliverAll =
    (config : ConfigOf) (setup : Setup) → IsWritable config → IsSetupFor config setup
    → (stream : List ℕ) (place size : ℕ) (calls : List Call) (pages : List Page)
    → (is : IsSourceStream config setup stream place size calls pages)
    → All (λ (body : List ℕ). is_accepted body ≡ true) (kept_bodies (reverse (packets_of calls)))
    → commits_to (first_at config setup place is.has).sequences (stream_events config setup stream)
    * largest_record (first_at config setup place is.has).sequences
    ≤ (first_at config setup place is.has).room
    → TellsAt (emissions_of calls) (sequence_of place) true 0 (kept_places 0 (reverse (packets_of calls)))
    (records_of (sequence_of place) (records_after (config_buffers config setup) (stream_events config setup stream)))
