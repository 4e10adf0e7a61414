-- The reading of a buffer without limit is what the frame that asks for it gives.
use Rattle.std.proofs.Common.{◌≡◌, ◌∙◌, ℕ, List, [], ◌∷◌, ◌++◌, refl, sym, ap, subst, append_assoc, append-nil}
use Rattle.byte_io.specs.Bytes.{Intake, after_told, TakesPart}
use Rattle.byte_io.proofs.Told.{part_first, part_second}
use Rattle.trace_base.specs.declared.limits.TheConstants.{MAX_NUMBER}
use Rattle.trace_model.specs.Buffers.{Buffer}
use Rattle.trace_model.proofs.CountedLemmas.{raised-none}
use Rattle.trace_model.specs.Delivery.{Delivered, trace_of}
use Rattle.trace_model.specs.History as model
use Rattle.trace_model.specs.History.{Event, buffers_after, records_after, records_at}
use Rattle.chunk_plain.specs.Histories.{history_of}
use Rattle.chunk_plain.specs.Meaning.{Meaning, IsServiceStep}
use Rattle.chunk_plain.specs.Setup.{Setup}
use Rattle.chunk_plain.specs.Views.{ServiceView}
use Rattle.service_core.specs.declared.service.ServiceCore.{ServiceCore}
use Rattle.service_core.specs.Agreement.{KeepsRest, ServiceAgrees}
use Rattle.service_core.specs.Reading.{ReadMoment, FailsAmong, ReadsAll, read_moment, reads_in}
use Rattle.service_core.proofs.AgreeLemmas.{first_stays}
use Rattle.service_core.proofs.ReadingLemmas.{records_append, trace_append}
use Rattle.stream_frames.specs.Frames as frames
use Rattle.stream_frames.specs.Frames.{Limits}
use Rattle.stream_producer.specs.declared.player.Player.{Player}
use Rattle.stream_producer.specs.Standing.{Stands, Plays, due_of, events_for, view_of}
use Rattle.stream_producer.proofs.CallLemmas.{stands_on, buffers_on}

-- where a write failed, the sink took a part of what the reads are to write
pub part_of_reads : {S : Type 0} (setup : Setup) (core : ServiceCore S) (number limit : ℕ) (was is : ReadMoment) → FailsAmong setup core number limit was is
    → TakesPart was.taken is.taken (trace_of (records_after core.buffers.items (reads_in setup core.buffers.items number limit)))
part_of_reads setup core number limit was is fails =
    let before : Intake = was.taken in
    let after : Intake = is.taken in
    let bs : List Buffer = core.buffers.items in
    let here : List Buffer = buffers_after bs fails.firsts in
    let whole : Event = model.Read fails.sequence fails.left in
    let firsts : List Delivered = records_after bs fails.firsts in
    let done : List Delivered = records_at here (model.Read fails.sequence fails.count) in
    let failed = fails.fails.failed in
    let later : List Delivered = fails.fails.later in
    let last : List Delivered = records_after (buffers_after here (whole ∷ [])) fails.others in
    let due : trace_of (records_after bs (reads_in setup bs number limit))
    ≡ trace_of firsts ++ (trace_of done ++ (failed.bytes ++ (trace_of later ++ trace_of last))) =
    ap (λ (es : List Event). trace_of (records_after bs es)) fails.cut
    ∙ ap trace_of (records_append bs fails.firsts (whole ∷ fails.others))
    ∙ trace_append firsts (records_at here whole ++ last)
    ∙ ap (λ (x : List ℕ). trace_of firsts ++ x)
    (trace_append (records_at here whole) last
    ∙ ap (λ (ds : List Delivered). trace_of ds ++ trace_of last) fails.fails.due
    ∙ ap (λ (x : List ℕ). x ++ trace_of last) (trace_append done (failed ∷ later))
    ∙ append_assoc (trace_of done) (failed.bytes ++ trace_of later) (trace_of last)
    ∙ ap (λ (x : List ℕ). trace_of done ++ x) (append_assoc failed.bytes (trace_of later) (trace_of last))) in
    let mid : Intake = after_told before (trace_of firsts) in
    let near : TakesPart mid after (trace_of done ++ (failed.bytes ++ (trace_of later ++ trace_of last))) =
    part_second mid (after_told mid (trace_of done)) after (trace_of done) (failed.bytes ++ (trace_of later ++ trace_of last)) refl
    (part_first (after_told mid (trace_of done)) after failed.bytes (trace_of later ++ trace_of last) fails.fails.part) in
    subst (λ (bytes : List ℕ). TakesPart before after bytes) (sym due)
    (part_second before mid after (trace_of firsts) (trace_of done ++ (failed.bytes ++ (trace_of later ++ trace_of last))) refl near)

module _ {T W S : Type 0} (means : Meaning T W S) (limits : Limits) (buffer : ℕ) (old new : Player T S) (before after : Intake) where
  -- a frame that asks for a read gives the reads of the buffer and no more
  read_gives : events_for means limits old (frames.Reads buffer ∷ [])
      ≡ reads_in (means.setup old.table) old.service.buffers.items buffer MAX_NUMBER
  read_gives = append-nil (reads_in (means.setup old.table) old.service.buffers.items buffer MAX_NUMBER)

  pub read_played : Stands means old
      → ServiceAgrees (means.setup old.table) (view_of means new) new.service
      → IsServiceStep means old.table old.service.seat new.table new.service.seat
      → KeepsRest (means.setup old.table) old.service new.service
      → (delivered : ℕ)
      → ReadsAll (means.setup old.table) old.service buffer MAX_NUMBER delivered (read_moment (view_of means old) before) (read_moment (view_of means new) after)
      → new.commits ≡ old.commits → new.refused ≡ old.refused
      → Plays means limits (frames.Reads buffer ∷ []) old new before after
  read_played was agrees step keeps delivered reads commits refused =
      let bs : List Buffer = old.service.buffers.items in
      let events : List Event = reads_in (means.setup old.table) bs buffer MAX_NUMBER in
      let first = first_stays (means.setup old.table) old.service new.service keeps.fields in
      let history = reads.notes.history in
      record {
        stands = stands_on means old new was agrees step keeps;
        setup_stays = step.setup_stays;
        first = first;
        history = history ∙ ap (λ (es : List Event). history_of (view_of means old) ++ es) (sym read_gives);
        buffers = buffers_on means old new was.served agrees events first history ∙ ap (buffers_after bs) (sym read_gives);
        taken = reads.taken ∙ ap (λ (es : List Event). after_told before (trace_of (records_after bs es))) (sym read_gives);
        commits = commits ∙ sym (raised-none old.commits);
        refused = refused ∙ sym (raised-none old.refused);
      }

-- and where a write failed, the sink took a part of what is due of the frame
pub read_part : {T W S : Type 0} (means : Meaning T W S) (limits : Limits) (buffer : ℕ) (old : Player T S) (view : ServiceView)
    (before after : Intake)
    → FailsAmong (means.setup old.table) old.service buffer MAX_NUMBER (read_moment (view_of means old) before) (read_moment view after)
    → TakesPart before after (due_of means limits old (frames.Reads buffer ∷ []))
read_part means limits buffer old view before after fails =
    let events : List Event = reads_in (means.setup old.table) old.service.buffers.items buffer MAX_NUMBER in
    subst (λ (es : List Event). TakesPart before after (trace_of (records_after old.service.buffers.items es))) (sym (append-nil events))
    (part_of_reads (means.setup old.table) old.service buffer MAX_NUMBER (read_moment (view_of means old) before) (read_moment view after) fails)
