-- What a session has still to read.
use Rattle.std.specs.Prelude.{List}
use Rattle.trace_model.specs.Delivery.{Delivered}
use Rattle.trace_model.specs.History.{records_after}
use Rattle.chunk_words.specs.Sits.{setup_in}
use Rattle.service_core.specs.Reading.{reads_in}
use Rattle.thread_service.specs.Serving.{core_of}
use Rattle.tracesmb_c.specs.declared.reading.TheConstants.{AT_ONCE, BUFFER}
use Rattle.tracesmb_c.specs.declared.session.OwnedSession.{OwnedSession}
use Rattle.tracesmb_c.specs.Sessions.{session_table}

-- the records that the next reading of its buffer writes
abbrev pub records_due : OwnedSession → List Delivered
records_due session =
    let buffers = (core_of session.service).buffers.items in
    records_after buffers (reads_in (setup_in (session_table session)) buffers BUFFER AT_ONCE)
