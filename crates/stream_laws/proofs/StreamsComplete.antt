-- The end of a stream reads each buffer out, so that nothing is absent where its bytes suffice.
use Rattle.std.proofs.Common.{◌≡◌, ◌∙◌, ℕ, ◌+◌, ◌*◌, ◌-◌, ◌<◌, ◌≤◌, true, List, ◌++◌, length, sym, ap, subst, arith, append_assoc, mul-le-mul_right, mul-le-mul_left}
use Rattle.std.proofs.lemmas.List.{length-map}
use Rattle.std.proofs.lemmas.Option.{slice_get_within}
use Rattle.trace_base.specs.declared.limits.TheConstants.{BYTES_PER_KB, MAX_BUFFER_KB, MAX_FRAGMENTS, MAX_NUMBER, MAX_WRITERS}
use Rattle.trace_base.specs.declared.policy.WriterSpec.{WriterSpec}
use Rattle.trace_model.specs.Buffers.{Buffer}
use Rattle.trace_model.specs.History.{Event, buffers_after, reads_of, state_after}
use Rattle.trace_model.specs.Sequences.{is_known}
use Rattle.chunk_plain.specs.Setup.{Setup, sequence_of}
use Rattle.service_core.specs.Reading.{reads_in, sequences_to}
use Rattle.service_core.specs.Routing.{buffer_at}
use Rattle.service_core.proofs.RouteLemmas.{at_after, buffers_append, length_after, state_append}
use Rattle.config_text.specs.Configs.{ConfigOf}
use Rattle.config_text.specs.Writing.{IsWritable}
use Rattle.stream_frames.specs.Framing.{frames_of}
use Rattle.commit_laws.specs.Complete.{IsReadOut, commits_to, largest_record}
use Rattle.commit_laws.proofs.StreamsComplete.{streams_are_complete}
use Rattle.commit_laws.proofs.StreamsTold.{own_buffer}
use Rattle.stream_producer.specs.History.{closes_from, played, reads_from}
use Rattle.stream_producer.specs.Setups.{IsSetupFor, config_buffers, config_limits, writer_asked}
use Rattle.stream_producer.specs.Whole.{stream_events}
use Rattle.stream_laws.specs.Laws.{StreamsDeliverAll}
use Rattle.stream_laws.specs.Sources.{HasSource, first_at}
use Rattle.stream_laws.proofs.CommitLemmas.{history_by_commits}
use Rattle.stream_laws.proofs.CountLemmas.{stream_counted}
use Rattle.stream_laws.proofs.ReadsLemmas.{ReadsOf, named_among, named_few, reads_of_each}
use Rattle.stream_laws.proofs.RoomLemmas.{largest_some, room_most}
use Rattle.stream_laws.proofs.ShutLemmas.{IsShut, closes_shut, known_on, reads_shut}
use Rattle.stream_laws.proofs.SourceLemmas.{asked_specs, buffers_long, is_buffer_of, writer_is, writers_are}
use Rattle.stream_laws.proofs.StreamsTold.{source_stream}

module _ (config : ConfigOf) (writable : IsWritable config) (setup : Setup) (made : IsSetupFor config setup) (stream : List ℕ) (place : ℕ)
    (has : HasSource config place)
  where
    abbrev target : ℕ
    target = has.source.target_buffer

    abbrev firsts : List Buffer
    firsts = config_buffers config setup

    abbrev buffer : Buffer
    buffer = first_at config setup place has

    abbrev events : List Event
    events = stream_events config setup stream

    abbrev front : List Event
    front = played setup (config_limits config) firsts (frames_of (config_limits config) stream)

    abbrev ends : List Event
    ends = closes_from 0 setup.writers

    abbrev left : List Buffer
    left = buffers_after firsts front

    abbrev shut : List Buffer
    shut = buffers_after left ends

    abbrev numbers : List ℕ
    numbers = sequences_to (1 + target) 0 setup.writers

    inside : target < length firsts
    inside = subst (λ (n : ℕ). target < n) (sym (buffers_long config setup)) has.target

    parts : ReadsOf setup shut 1 target (reads_from setup shut 1 (length left))
    parts = reads_of_each setup shut 1 (length left) target (subst (λ (n : ℕ). target < n) (sym (length_after firsts front)) inside)

    abbrev before : List Event
    before = front ++ (ends ++ parts.before)

    knows : is_known buffer.sequences (sequence_of place) ≡ true
    knows =
        let own = own_buffer setup (asked_specs config) place buffer (is_buffer_of config setup made place has) in
        ap (λ (b : Buffer). is_known b.sequences (place + 2)) own.is ∙ own.known

    there : place < length setup.writers
    there = slice_get_within setup.writers place (writer_asked has.source) (writer_is config setup made place has)

    closed : IsShut (sequence_of place) (state_after buffer before)
    closed =
        let cut : state_after buffer before ≡ state_after (state_after (state_after buffer front) ends) parts.before =
        state_append buffer front (ends ++ parts.before) ∙ state_append (state_after buffer front) ends parts.before in
        subst (IsShut (sequence_of place)) (sym cut)
        (reads_shut (sequence_of place) parts.before (state_after (state_after buffer front) ends) parts.reads
        (closes_shut (sequence_of place) 0 setup.writers place (state_after buffer front) there (omega arith)
        (known_on buffer front (sequence_of place) ∙ knows)))

    -- the buffer as it is when it is read
    read_at : buffer_at (buffers_after shut parts.before) (1 + target - 1) ≡ state_after buffer before
    read_at =
        let index : 1 + target - 1 ≡ target = omega arith in
        let same : buffers_after firsts before ≡ buffers_after shut parts.before =
        buffers_append firsts front (ends ++ parts.before) ∙ buffers_append left ends parts.before in
        ap (λ (n : ℕ). buffer_at (buffers_after shut parts.before) n) index
        ∙ ap (λ (bs : List Buffer). buffer_at bs target) (sym same)
        ∙ at_after firsts target before inside

    cut : events ≡ before ++ (reads_of MAX_NUMBER (state_after buffer before) numbers ++ parts.later)
    cut =
        let rest : List Event = reads_in setup (buffers_after shut parts.before) (1 + target) MAX_NUMBER ++ parts.later in
        ap (λ (es : List Event). front ++ (ends ++ es)) parts.cut
        ∙ ap (λ (es : List Event). front ++ es) (sym (append_assoc ends parts.before rest))
        ∙ sym (append_assoc front (ends ++ parts.before) rest)
        ∙ ap (λ (b : Buffer). before ++ (reads_of MAX_NUMBER b numbers ++ parts.later)) read_at

    -- the limit suffices, since a commit takes a byte at least
    suffices : commits_to buffer.sequences events * largest_record buffer.sequences ≤ buffer.room
        → length numbers * (MAX_FRAGMENTS * commits_to buffer.sequences events) ≤ MAX_NUMBER
    suffices low =
        let count : ℕ = commits_to buffer.sequences events in
        let some : 1 ≤ largest_record buffer.sequences = largest_some setup 1 (asked_specs config) target (sequence_of place) knows in
        let most = room_most setup 1 config.buffers writable.buffers target in
        let more : count * 1 ≤ count * largest_record buffer.sequences = mul-le-mul_left count some in
        let few : count ≤ MAX_BUFFER_KB * BYTES_PER_KB = omega (arith, more, low, most) in
        let long = ap (λ (specs : List WriterSpec). length specs) (writers_are config setup made place has)
        ∙ length-map config.sources writer_asked in
        let sources = writable.few_sources in
        let names = named_few (1 + target) 0 setup.writers in
        let limited : length numbers ≤ MAX_WRITERS = omega (arith, long, sources, names) in
        let product : length numbers * (MAX_FRAGMENTS * count) ≤ MAX_WRITERS * (MAX_FRAGMENTS * count) =
        mul-le-mul_right (MAX_FRAGMENTS * count) limited in
        omega (arith, product, few)

    pub is_read_out : commits_to buffer.sequences events * largest_record buffer.sequences ≤ buffer.room
        → IsReadOut (sequence_of place) buffer events
    is_read_out low = record {
      before = before;
      closed = closed;
      limit = MAX_NUMBER;
      numbers = numbers;
      later = parts.later;
      cut = cut;
      read = named_among (1 + target) 0 setup.writers place (writer_asked has.source) (sequence_of place)
          (writer_is config setup made place has)
          (omega arith) (omega arith);
      unlimited = suffices low;
    }

pub every_stream_delivers_all : StreamsDeliverAll
every_stream_delivers_all config setup writable made stream place size calls pages is passes low =
    streams_are_complete setup (asked_specs config) place (first_at config setup place is.has) (is_buffer_of config setup made place is.has)
    size calls pages (stream_events config setup stream) (source_stream config setup stream place size calls pages is) passes
    (history_by_commits setup (config_limits config) (config_buffers config setup) (frames_of (config_limits config) stream)
    (stream_counted (config_limits config) stream))
    low (is_read_out config writable setup made stream place is.has low)
