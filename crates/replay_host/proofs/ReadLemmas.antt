-- The reading of a buffer is one act of the service.
use Rattle.std.proofs.Common.{◌≡◌, ◌∙◌, ℕ, ◌-◌, Some, List, [], ◌∷◌, ◌++◌, length, refl, sym, ap, subst, append_assoc}
use Rattle.std.specs.List.{flat_map}
use Rattle.std.proofs.lemmas.List.Concat.{flat_map-append}
use Rattle.byte_io.specs.Bytes.{Intake, after_told}
use Rattle.byte_io.proofs.Told.{after_told_again}
use Rattle.trace_model.specs.Buffers.{Buffer}
use Rattle.trace_model.specs.Delivery.{Delivered, trace_of}
use Rattle.trace_model.specs.History as model
use Rattle.trace_model.specs.History.{Event, buffers_after, records_after, records_at, reads_of}
use Rattle.trace_model.specs.Reads.{delivered_by, with_read}
use Rattle.chunk_plain.specs.Histories.{happened, history_of}
use Rattle.chunk_plain.specs.Meaning.{Meaning, IsServiceStep}
use Rattle.chunk_plain.specs.Setup.{Setup}
use Rattle.chunk_plain.specs.Steps.{serviced}
use Rattle.chunk_plain.specs.Views.{Noted, ServiceView}
use Rattle.chunk_plain.specs.World.{World}
use Rattle.service_core.specs.Agreement.{AreKnownNotes, KeepsRest, first_of}
use Rattle.service_core.specs.Reading.{FailsAmong, ReadsAll, noted_read, reads_in, sequences_to, read_moment}
use Rattle.service_core.specs.Routing.{buffer_at}
use Rattle.service_core.specs.Taking.{noted_more}
use Rattle.service_core.proofs.AgreeLemmas.{first_stays}
use Rattle.service_core.proofs.CloseLemmas.{noted_grows}
use Rattle.service_core.proofs.HistoryLemmas.{history_stays}
use Rattle.service_core.proofs.ReadingLemmas.{records_append, trace_append}
use Rattle.replay_model.specs.Acts.{ReadAll}
use Rattle.replay_model.specs.Does.{Reads}
use Rattle.replay_model.proofs.PlayLemmas.{plays_one}
use Rattle.replay_host.specs.declared.fault.HostFault.TheVariants.{WriteFault}
use Rattle.replay_host.specs.declared.host.Host.{Host}
use Rattle.replay_host.specs.Playing.{HasDone}
use Rattle.replay_host.specs.Standing.{IsServed}
use Rattle.replay_host.specs.Stopping.{FailsReading, with_reads}
use Rattle.replay_host.proofs.RowLemmas.{AreLaws}

-- ---- what the reads of a buffer write

-- noted reads happened as they are
reads_happen : (view : ServiceView) (limit : ℕ) (buffer : Buffer) (sequences : List ℕ)
    → flat_map (happened view) (flat_map noted_read (reads_of limit buffer sequences)) ≡ reads_of limit buffer sequences
reads_happen view limit buffer [] = refl
reads_happen view limit buffer (q ∷ others) =
    ap (λ (es : List Event). model.Read q limit ∷ es)
    (reads_happen view (limit - length (delivered_by buffer q limit)) (with_read buffer q limit) others)

-- where a buffer is read whole, the records of its reads are more
reads_records : (setup : Setup) (first : List Buffer) (number limit : ℕ) (view : ServiceView) → AreKnownNotes view view.events
    → records_after first (history_of (with_reads setup first number limit view))
    ≡ records_after first (history_of view)
    ++ records_after (buffers_after first (history_of view)) (reads_in setup (buffers_after first (history_of view)) number limit)
reads_records setup first number limit view known =
    let bs : List Buffer = buffers_after first (history_of view) in
    let notes : List Noted = flat_map noted_read (reads_in setup bs number limit) in
    let more : ServiceView = noted_more view notes in
    ap (records_after first) (flat_map-append (happened more) view.events notes)
    ∙ records_append first (flat_map (happened more) view.events) (flat_map (happened more) notes)
    ∙ ap (λ (es : List Event). records_after first es ++ records_after (buffers_after first es) (flat_map (happened more) notes))
    (history_stays view more view.events (noted_grows view notes) known)
    ∙ ap (λ (es : List Event). records_after first (history_of view) ++ records_after bs es)
    (reads_happen more limit (buffer_at bs (number - 1)) (sequences_to number 0 setup.writers))

-- ---- a read that is done

pub read_done : {T W S : Type 0} (means : Meaning T W S) → AreLaws means → (number limit delivered : ℕ) (old new : Host T W S)
    (taken left : Intake) → IsServed means old.table old.helper.service
    → IsServiceStep means old.table old.helper.service.seat new.table new.helper.service.seat
    → KeepsRest (means.setup old.table) old.helper.service new.helper.service
    → ReadsAll (means.setup old.table) old.helper.service number limit delivered
    (read_moment (means.service_view old.table old.helper.service.seat) taken)
    (read_moment (means.service_view new.table new.helper.service.seat) left)
    → ((was : World) → means.told old.table ≡ Some was
    → means.told new.table ≡ Some (serviced was (means.service_view new.table new.helper.service.seat)))
    → HasDone means (ReadAll number limit ∷ []) [] old taken new left
read_done means laws number limit delivered old new taken left served step keeps reads told =
    let setup : Setup = means.setup old.table in
    let core = old.helper.service in
    let first : List Buffer = first_of setup core in
    let before : ServiceView = means.service_view old.table core.seat in
    let view : ServiceView = means.service_view new.table new.helper.service.seat in
    let events : List Event = reads_in setup core.buffers.items number limit in
    let written : List Delivered = records_after first (history_of before) in
    let more : List Delivered = records_after core.buffers.items events in
    record {
      setup_is = step.setup_stays;
      first = first_stays setup core new.helper.service keeps.fields;
      plays = λ was told_was.
          let view_was = laws.told_service_view old.table core.seat was told_was served.serves in
          let next : World = serviced was view in
          let told_next = told was told_was in
          let does : Reads setup first number limit was next = record {
            writers = refl;
            notes = subst (λ (v : ServiceView). view ≡ with_reads setup first number limit v) view_was
                (reads.notes.view
                ∙ ap (λ (bs : List Buffer). noted_more before (flat_map noted_read (reads_in setup bs number limit)))
                served.agrees.buffers);
          } in
          (next, told_next, plays_one setup first (ReadAll number limit) was next does (laws.told_owned new.table next told_next));
      writes = λ start is. reads.taken
          ∙ ap (λ (i : Intake). after_told i (trace_of more)) is
          ∙ after_told_again start (trace_of written) (trace_of more)
          ∙ ap (after_told start) (sym (trace_append written more) ∙ ap trace_of (sym reads.notes.trace));
    }

-- ---- a read in which a write failed

-- a front part of five lists, of which the fourth is cut
front_of : (a b c d e f part rest : List ℕ) → d ≡ part ++ rest
    → a ++ (b ++ ((c ++ (d ++ e)) ++ f)) ≡ (a ++ (b ++ (c ++ part))) ++ (rest ++ (e ++ f))
front_of a b c d e f part rest cut =
    let last : List ℕ = rest ++ (e ++ f) in
    ap (λ (x : List ℕ). a ++ (b ++ ((c ++ (x ++ e)) ++ f))) cut
    ∙ ap (λ (x : List ℕ). a ++ (b ++ x))
    (append_assoc c ((part ++ rest) ++ e) f
    ∙ ap (λ (x : List ℕ). c ++ x) (append_assoc (part ++ rest) e f ∙ append_assoc part rest (e ++ f))
    ∙ sym (append_assoc c part last))
    ∙ ap (λ (x : List ℕ). a ++ x) (sym (append_assoc b (c ++ part) last))
    ∙ sym (append_assoc a (b ++ (c ++ part)) last)

-- the same of the traces of records
trace_cut : (first second third later last : List Delivered) (failed : Delivered) (part rest : List ℕ) → failed.bytes ≡ part ++ rest
    → trace_of (first ++ (second ++ ((third ++ failed ∷ later) ++ last)))
    ≡ (trace_of first ++ (trace_of second ++ (trace_of third ++ part))) ++ (rest ++ (trace_of later ++ trace_of last))
trace_cut first second third later last failed part rest cut =
    trace_append first (second ++ ((third ++ failed ∷ later) ++ last))
    ∙ ap (λ (x : List ℕ). trace_of first ++ x)
    (trace_append second ((third ++ failed ∷ later) ++ last)
    ∙ ap (λ (x : List ℕ). trace_of second ++ x)
    (trace_append (third ++ failed ∷ later) last ∙ ap (λ (x : List ℕ). x ++ trace_of last) (trace_append third (failed ∷ later))))
    ∙ front_of (trace_of first) (trace_of second) (trace_of third) failed.bytes (trace_of later) (trace_of last) part rest cut

pub read_fails : {T W S : Type 0} (means : Meaning T W S) (number limit : ℕ) (old new : Host T W S)
    (taken left : Intake) → IsServed means old.table old.helper.service
    → IsServiceStep means old.table old.helper.service.seat new.table new.helper.service.seat
    → KeepsRest (means.setup old.table) old.helper.service new.helper.service
    → FailsAmong (means.setup old.table) old.helper.service number limit
    (read_moment (means.service_view old.table old.helper.service.seat) taken)
    (read_moment (means.service_view new.table new.helper.service.seat) left)
    → ((was : World) → means.told old.table ≡ Some was
    → means.told new.table ≡ Some (serviced was (means.service_view new.table new.helper.service.seat)))
    → FailsReading means number limit old taken new left WriteFault
read_fails means number limit old new taken left served step keeps fails told =
    let setup : Setup = means.setup old.table in
    let core = old.helper.service in
    let first : List Buffer = first_of setup core in
    let view : ServiceView = means.service_view old.table core.seat in
    let here : List Buffer = buffers_after core.buffers.items fails.firsts in
    let whole : Event = model.Read fails.sequence fails.left in
    let written : List Delivered = records_after first (history_of view) in
    let firsts : List Delivered = records_after core.buffers.items fails.firsts in
    let cut : List Delivered = records_at here (model.Read fails.sequence fails.count) in
    let last : List Delivered = records_after (buffers_after here (whole ∷ [])) fails.others in
    let part = fails.fails.part in
    let front : List ℕ = trace_of firsts ++ (trace_of cut ++ part.part) in
    record {
      fault_is = refl;
      setup_is = step.setup_stays;
      first = first_stays setup core new.helper.service keeps.fields;
      among = fails;
      told = told;
      part = λ start is. record {
        part = trace_of written ++ front;
        rest = part.rest ++ (trace_of fails.fails.later ++ trace_of last);
        cut = ap trace_of (reads_records setup first number limit view served.agrees.known
            ∙ ap (λ (bs : List Buffer). written ++ records_after bs (reads_in setup bs number limit)) (sym served.agrees.buffers)
            ∙ ap (λ (es : List Event). written ++ records_after core.buffers.items es) fails.cut
            ∙ ap (λ (ds : List Delivered). written ++ ds) (records_append core.buffers.items fails.firsts (whole ∷ fails.others))
            ∙ ap (λ (ds : List Delivered). written ++ (firsts ++ (ds ++ last))) fails.fails.due)
            ∙ trace_cut written firsts cut fails.fails.later last fails.fails.failed part.part part.rest part.cut;
        taken = part.taken
            ∙ after_told_again (after_told taken (trace_of firsts)) (trace_of cut) part.part
            ∙ after_told_again taken (trace_of firsts) (trace_of cut ++ part.part)
            ∙ ap (λ (i : Intake). after_told i front) is
            ∙ after_told_again start (trace_of written) front;
      };
    }
