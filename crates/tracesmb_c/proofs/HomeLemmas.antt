-- What is known of a writer that is home: it holds no chunk, and is between two calls.
use Rattle.std.proofs.Common.{◌≡◌, ◌∙◌, ℕ, ◌<◌, true, false, Option, Some, None, List, length, get_or, sym, ap, subst}
use Rattle.std.specs.Prelude.{is_some, slice_get}
use Rattle.std.proofs.lemmas.Option.{slice_get-get_or, get_or_from_slice_get}
use Rattle.chunk_plain.specs.Owned.{held_count}
use Rattle.chunk_words.specs.declared.host.HostTable.{HostTable}
use Rattle.chunk_words.specs.Sits.{setup_in}
use Rattle.schedule_laws.specs.Resting.{IsBetweenCalls}
use Rattle.thread_writer.specs.declared.writer.TraceWriter.{TraceWriter}
use Rattle.thread_writer.specs.Writing.{core_of, view_in}
use Rattle.trace_writer.specs.Core.{WriterAgrees}
use Rattle.thread_host.proofs.PlayedWriters.{none_held as none_held_by}
use Rattle.tracesmb_c.specs.Sessions.{IsHome}

pub none_held : (table : HostTable) (place : ℕ) (writer : TraceWriter) → IsHome table place writer → held_count (view_in writer).begun ≡ 0
none_held table place writer home =
    none_held_by (setup_in table) (core_of writer).seat.place (view_in writer)
    (core_of writer).writer home.writes.agrees.writes home.none_held

pub between_calls : (table : HostTable) (place : ℕ) (writer : TraceWriter) → IsHome table place writer → IsBetweenCalls
    (setup_in table) place (view_in writer)
between_calls table place writer home = record {
  writer = (core_of writer).writer;
  agrees = subst (λ (p : ℕ). WriterAgrees (setup_in table) p (view_in writer) (core_of writer).writer) home.place_is home.writes.agrees;
}

-- the writer that stands at a place of which something was seen
pub home_here : (homes : List (Option TraceWriter)) (place : ℕ) (home : Option TraceWriter) → place < length homes
    → home ≡ get_or homes place home → is_some home ≡ true
    → (writer : TraceWriter) × (slice_get homes place ≡ Some (Some writer))
home_here homes place None inside is some = absurd (cc)
home_here homes place (Some writer) inside is some =
    (writer, slice_get-get_or homes place (Some writer) inside ∙ ap (λ (h : Option TraceWriter). Some h) (sym is))

pub home_none : (homes : List (Option TraceWriter)) (place : ℕ) (home : Option TraceWriter) (writer : TraceWriter)
    → home ≡ get_or homes place home
    → slice_get homes place ≡ Some (Some writer) → is_some home ≡ false → ⊥
home_none homes place home writer is there none =
    let same : home ≡ Some writer = is ∙ get_or_from_slice_get homes place (Some writer) home there in
    let some : is_some home ≡ true = ap is_some same in
    cc
