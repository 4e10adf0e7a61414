-- What a read adds to the trace that a session tells.
use Rattle.std.proofs.Common.{◌≡◌, ◌∙◌, ℕ, Bool, false, List, [], ◌++◌, drop, append_assoc, append-nil, refl, sym, ap}
use Rattle.byte_io.specs.Bytes.{told, after_told}
use Rattle.trace_model.specs.Delivery.{trace_of}
use Rattle.trace_model.specs.History as model
use Rattle.trace_model.specs.History.{records_after}
use Rattle.chunk_plain.specs.Setup.{Setup}
use Rattle.chunk_plain.specs.Views.{ServiceView}
use Rattle.chunk_words.specs.declared.seats.ReadPass.{ReadPass}
use Rattle.chunk_words.specs.Sits.{setup_in, known_by_pass}
use Rattle.service_core.specs.declared.service.ServiceCore.{ServiceCore}
use Rattle.service_core.specs.Reading.{NotesReads}
use Rattle.service_core.proofs.ReadingLemmas.{trace_append}
use Rattle.thread_service.specs.declared.service.Service.{Service}
use Rattle.thread_service.specs.Reading.{PassReads}
use Rattle.thread_service.specs.Serving.{core_of}
use Rattle.tracesmb_c.specs.declared.session.OwnedSession.{OwnedSession}
use Rattle.tracesmb_c.specs.declared.waiting.Growing.{Growing}
use Rattle.tracesmb_c.specs.declared.waiting.Waiting.{Waiting}
use Rattle.tracesmb_c.specs.Sessions.{session_table, records_in, HasGiven, KeepsGiven}
use Rattle.tracesmb_c.specs.Waits.{bytes_in, left_in}
use Rattle.tracesmb_c.proofs.SessionLemmas.{served_by, same_records}

-- the trace of the session is longer by these reads
module _ (session : OwnedSession) (service : Service) (pass : ReadPass) (waiting : Waiting) (torn : Bool) (events : List model.Event)
    (reads : PassReads (setup_in (session_table session)) (core_of session.service) events (known_by_pass session.pass)
    (known_by_pass pass))
    (specs : (core_of service).specs.items ≡ (core_of session.service).specs.items) where
  abbrev came : List ℕ
  came = trace_of (records_after (core_of session.service).buffers.items events)

  pub trace_longer : trace_of (records_in (served_by session service pass waiting torn)) ≡ trace_of (records_in session) ++ trace_of
      (records_after (core_of session.service).buffers.items events)
  trace_longer =
      ap trace_of (same_records (setup_in (session_table session)) (core_of session.service) (core_of service) (known_by_pass pass) specs
      ∙ reads.records)
      ∙ trace_append (records_in session) (records_after (core_of session.service).buffers.items events)

  -- where nothing waited, that is what has to come next
  pub given_next : session.torn ≡ false → left_in session.waiting ≡ []
      → (torn ≡ false → left_in waiting ≡ trace_of (records_after (core_of session.service).buffers.items events))
      → KeepsGiven session (served_by session service pass waiting torn)
  given_next whole none waits bytes given =
      let all : trace_of (records_in session) ≡ bytes =
      given.trace ∙ ap (λ (rest : List ℕ). bytes ++ rest) (given.waits whole ∙ none) ∙ append-nil bytes in
      record {
        rest = came;
        trace = trace_longer ∙ ap (λ (front : List ℕ). front ++ came) all;
        waits = λ now. sym (waits now);
      }

-- a read notes no commit, and takes nothing
pub reads_own : {S : Type 0} (setup : Setup) (core : ServiceCore S) (events : List model.Event) (old new : ServiceView)
    → NotesReads setup core events old new
    → new.commits ≡ old.commits
reads_own setup core events old new notes = ap (λ (v : ServiceView). v.commits) notes.view

pub reads_taken : {S : Type 0} (setup : Setup) (core : ServiceCore S) (events : List model.Event) (old new : ServiceView)
    → NotesReads setup core events old new
    → new.taken ≡ old.taken
reads_taken setup core events old new notes = ap (λ (v : ServiceView). v.taken) notes.view

-- what a sink took that had nothing waits whole
pub waits_whole : (cleared : Waiting) (read : Growing) (bytes : List ℕ) → bytes_in cleared ≡ [] → cleared.handed ≡ 0
    → told read.bytes.items [] ≡ after_told (told cleared.read.bytes.items []) bytes
    → drop cleared.handed read.bytes.items ≡ bytes
waits_whole cleared read bytes none handed took =
    let items : read.bytes.items ≡ cleared.read.bytes.items ++ bytes = cc in
    ap (λ (n : ℕ). drop n read.bytes.items) handed ∙ items ∙ ap (λ (front : List ℕ). front ++ bytes) none

-- what is handed out comes behind what was given, and the rest waits
pub given_more : (session : OwnedSession) (waiting : Waiting) (bytes more : List ℕ) → session.torn ≡ false → left_in session.waiting ≡ more
    ++ left_in waiting
    → HasGiven session bytes → HasGiven (served_by session session.service session.pass waiting session.torn) (bytes ++ more)
given_more session waiting bytes more whole cut given = record {
  rest = left_in waiting;
  trace = given.trace ∙ ap (λ (rest : List ℕ). bytes ++ rest) (given.waits whole ∙ cut) ∙ sym (append_assoc bytes more (left_in waiting));
  waits = λ _. refl;
}
