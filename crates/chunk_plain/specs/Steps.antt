-- What each step does to the view of the seat that makes it, and to the world: one row of the writers, and one chunk.
use Rattle.std.specs.Prelude.{ℕ, ◌+◌, ◌==◌, Bool, true, false, Option, Some, None, List, [], ◌∷◌, ◌++◌, map, length, slice_set, if◌then◌else◌}
use Rattle.trace_model.specs.Calls.{Call}
use Rattle.chunk_plain.specs.Views.{Ask, Head, Draft, fresh, Content, Held, Completed, WriterView, Taken, Found, Noted, Commit, Committed, ServiceView, taken_of}
use Rattle.chunk_plain.specs.World.{World, Status, Writing, writer}

-- the list without the first element that is this one
abbrev pub without : ℕ → List ℕ → List ℕ
without x [] = []
without x (y ∷ ys) = if y == x then ys else y ∷ without x ys

-- A writer's view

abbrev pub asks : WriterView → Ask → WriterView
asks view ask = record view { asked = view.asked ++ ask ∷ [] }

-- a claim that found this page word; where it won, the writer has the chunk
abbrev pub claims : WriterView → ℕ → ℕ → Bool → WriterView
claims view chunk found true =
    record view { asked = view.asked ++ record { chunk = chunk; found = found; won = true; calls = length view.calls } ∷ []; claimed = view.claimed ++ chunk ∷ [] }
claims view chunk found false =
    record view { asked = view.asked ++ record { chunk = chunk; found = found; won = false; calls = length view.calls } ∷ [] }

-- the header of a claimed chunk is stored, with the id of the writer's next position
abbrev pub stamps : WriterView → ℕ → WriterView
stamps view chunk =
    record view { claimed = without chunk view.claimed; stamped = Some (record { chunk = chunk; position = length view.begun }) }

-- the chunk whose header was stored is begun, with the payload words that stand in it
abbrev pub begins : WriterView → ℕ → List ℕ → WriterView
begins view chunk words = record view { stamped = None; begun = view.begun ++ Held chunk (fresh words) ∷ [] }

-- another thing stands in a held chunk
abbrev pub redrafts : WriterView → ℕ → ℕ → Draft → WriterView
redrafts view chunk position draft = record view { begun = slice_set view.begun position (Held chunk draft) }

-- the header of a held chunk is stored anew; with it come the ends of the fragments that are finished then
abbrev pub with_head : Draft → Head → List ℕ → Draft
with_head draft head ends = record draft { head = head; ends = ends }

-- these payload words stand in a held chunk
abbrev pub with_words : Draft → List ℕ → Draft
with_words draft words = record draft { words = words }

-- a payload word of a held chunk is stored
abbrev pub with_word : Draft → ℕ → ℕ → Draft
with_word draft index word = record draft { words = slice_set draft.words index word }

-- the writer has completed the chunk
abbrev pub completes : WriterView → ℕ → ℕ → Content → WriterView
completes view chunk position content = record view { begun = slice_set view.begun position (Completed chunk content) }

-- the writer has noted the call
abbrev pub notes_call : WriterView → Call → WriterView
notes_call view call = record view { calls = view.calls ++ call ∷ [] }

-- The service's view

-- how many chunks of each writer were taken
abbrev pub taken_counts : ServiceView → List ℕ
taken_counts service = map (λ (taken : Taken). taken.count) service.taken

-- the service has looked at the chunk, and found this
abbrev pub looks_at : ServiceView → ℕ → ℕ → ℕ → Option Found → ServiceView
looks_at service chunk word header found = record service {
  looks = service.looks ++ record { chunk = chunk; word = word; header = header; found = found; taken = taken_counts service } ∷ [];
}

-- the next chunk of this writer is taken: the service reads it
abbrev pub takes_in : ServiceView → ℕ → ℕ → ServiceView
takes_in service place chunk = record service {
  taken = slice_set service.taken place (record (taken_of service place) { count = (taken_of service place).count + 1 });
  reading = service.reading ++ chunk ∷ [];
}

-- the content of the chunk that was taken last of this writer
abbrev pub learns : ServiceView → ℕ → Content → ServiceView
learns service place content = record service {
  taken = slice_set service.taken place (record (taken_of service place) { contents = (taken_of service place).contents ++ content ∷ [] });
}

-- the service reads the chunk no longer
abbrev pub lets_go : ServiceView → ℕ → ServiceView
lets_go service chunk = record service { reading = without chunk service.reading }

-- the service has noted the event
abbrev pub notes : ServiceView → Noted → ServiceView
notes service event = record service { events = service.events ++ event ∷ [] }

-- the service has noted a commit, with its image and patches
abbrev pub notes_commit : ServiceView → Committed → ServiceView
notes_commit service committed = record service {
  events = service.events ++ Commit (length service.commits) ∷ [];
  commits = service.commits ++ committed ∷ [];
}

-- The world

-- one writer's view changes, and one chunk
abbrev pub moved : World → ℕ → WriterView → ℕ → Status → World
moved world place view chunk to =
    record world { chunks = slice_set world.chunks chunk to; writers = slice_set world.writers place view }

-- another thing stands in a chunk that a writer holds
abbrev pub drafted : World → ℕ → ℕ → ℕ → Draft → World
drafted world place chunk position draft = moved world place (redrafts (writer world place) chunk position draft) chunk (Writing place position draft)

-- the service's view changes, and one chunk
abbrev pub served : World → ServiceView → ℕ → Status → World
served world service chunk to =
    record world { chunks = slice_set world.chunks chunk to; service = service }

-- one writer's view changes alone
abbrev pub with_writer_view : World → ℕ → WriterView → World
with_writer_view world place view = record world { writers = slice_set world.writers place view }

-- the service's view changes alone
abbrev pub serviced : World → ServiceView → World
serviced world service = record world { service = service }
