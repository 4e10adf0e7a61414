-- One read of a sequence: what it writes, and that the service agrees behind it.
use Rattle.std.proofs.Common.{◌≡◌, ◌∙◌, ℕ, zero, suc, ◌+◌, ◌-◌, ◌<◌, ◌≤◌, Bool, false, List, [], ◌∷◌, ◌++◌, length, map, set, refl, sym, ap, subst, arith, append-nil, append_assoc, get_or}
use Rattle.std.specs.Prelude.{cond}
use Rattle.std.proofs.lemmas.List.{length-map, map-append, get_or_read}
use Rattle.trace_base.specs.declared.policy.FullPolicy.TheVariants.{Ring}
use Rattle.trace_base.specs.declared.policy.WriterSpec.{WriterSpec}
use Rattle.page_geometry.specs.Sizes.{record_size}
use Rattle.byte_io.specs.Bytes.{Intake, after_told, TakesPart}
use Rattle.trace_model.specs.Sequences.{sequence_in, is_known}
use Rattle.trace_model.specs.Buffers.{Buffer, empty_buffer}
use Rattle.trace_model.specs.Delivery.{Delivered, trace_of}
use Rattle.trace_model.specs.Record.{record_of}
use Rattle.trace_model.specs.Row.{row_from_cursor}
use Rattle.trace_model.specs.Reads.{Delivery, is_marked, delivered_by, with_read}
use Rattle.trace_model.specs.History as model
use Rattle.trace_model.specs.History.{Event, buffers_after, record_in, records_at, records_after}
use Rattle.delivery_laws.proofs.LimitLemmas.{delivered_within}
use Rattle.sequence_reader.specs.Ends.{record_bytes, EndsInRecordAt}
use Rattle.chunk_plain.specs.Setup.{Setup, size_of, producer_of}
use Rattle.chunk_plain.specs.Meaning.{Meaning}
use Rattle.chunk_plain.specs.Views.{Read, ServiceView, taken_of}
use Rattle.service_core.specs.declared.service.ServiceCore.{ServiceCore}
use Rattle.service_core.specs.Routing.{buffer_at, IsAt}
use Rattle.service_core.specs.Agreement.{ServiceAgrees, KeepsFields}
use Rattle.service_core.specs.Order.{Stage}
use Rattle.service_core.specs.Reading.{FailsIn}
use Rattle.service_core.specs.Taking.{noted_more}
use Rattle.service_core.proofs.KeptLemmas.{found_at}
use Rattle.service_core.proofs.RouteLemmas.{buffers_append, buffers_none, event_at}
use Rattle.service_core.proofs.RoutedLemmas.{closed_by_none, keeps_open}
use Rattle.service_core.proofs.CloseLemmas.{agrees_noted}
use Rattle.service_core.specs.Calls.{ServesAt, NotesOn, NotesAlone}

-- Records, one behind another

pub trace_append : (xs ys : List Delivered) → trace_of (xs ++ ys) ≡ trace_of xs ++ trace_of ys
trace_append [] ys = refl
trace_append (x ∷ xs) ys = ap (λ (bytes : List ℕ). x.bytes ++ bytes) (trace_append xs ys) ∙ sym (append_assoc x.bytes (trace_of xs) (trace_of ys))

pub records_append : (bs : List Buffer) (xs ys : List Event) → records_after bs (xs ++ ys) ≡ records_after bs xs ++ records_after (buffers_after bs xs) ys
records_append bs [] ys = ap (λ (cs : List Buffer). records_after cs ys) (sym (buffers_none bs))
records_append bs (x ∷ xs) ys =
    let later : List Buffer = buffers_after bs (x ∷ []) in
    ap (λ (ds : List Delivered). records_at bs x ++ ds) (records_append later xs ys)
    ∙ sym (append_assoc (records_at bs x) (records_after later xs) (records_after (buffers_after later xs) ys))
    ∙ ap (λ (cs : List Buffer). (records_at bs x ++ records_after later xs) ++ records_after cs ys) (sym (buffers_append bs (x ∷ []) xs))

pub delivered_most : (b : Buffer) (q limit : ℕ) → length (delivered_by b q limit) ≤ limit
delivered_most b q limit =
    let state = sequence_in b.sequences q in
    delivered_within (is_marked state) limit (row_from_cursor b state)

-- what no buffer has isn't written
none_here : (bs : List Buffer) (q n : ℕ) → ((i : ℕ) → is_known (buffer_at bs i).sequences q ≡ false) → records_at bs (model.Read q n) ≡ []
none_here [] q n none = refl
none_here (b ∷ bs) q n none =
    ap (λ (x : Bool). cond x (map (record_in q) (delivered_by b q n)) [] ++ records_at bs (model.Read q n)) (none zero) ∙ none_here bs q n (λ i. none (suc i))

-- the records of a read are those of the one buffer that has the sequence
pub records_here : (bs : List Buffer) (index q size n : ℕ) → IsAt bs index q size → records_at bs (model.Read q n) ≡ map (record_in q) (delivered_by (buffer_at bs index) q n)
records_here [] index q size n at = absurd (let low = at.inside in omega (arith, low))
records_here (b ∷ bs) zero q size n at =
    ap (λ (x : Bool). cond x (map (record_in q) (delivered_by b q n)) [] ++ records_at bs (model.Read q n)) at.known
    ∙ ap (λ (ds : List Delivered). map (record_in q) (delivered_by b q n) ++ ds) (none_here bs q n (λ i. at.others (suc i) (λ e. absurd (omega (arith, e)))))
    ∙ append-nil (map (record_in q) (delivered_by b q n))
records_here (b ∷ bs) (suc index) q size n at =
    ap (λ (x : Bool). cond x (map (record_in q) (delivered_by b q n)) [] ++ records_at bs (model.Read q n)) (at.others zero (λ e. absurd (omega (arith, e))))
    ∙ records_here bs index q size n (record {
      inside = let low = at.inside in omega (arith, low);
      known = at.known;
      size_is = at.size_is;
      others = λ other differs. at.others (suc other) (λ e. differs (let same : other ≡ index = omega (arith, e) in same));
    })

-- it is the buffer at this place, which has the sequence
pub record MeetsBuffer (bs : List Buffer) (index q : ℕ) (b : Buffer) : Type 0 where
  pub size : ℕ
  pub at : IsAt bs index q size
  pub is : b ≡ buffer_at bs index

-- the buffer of the writer at this place, where the service finds it
pub meets_buffer : {S : Type 0} → (setup : Setup) (view : ServiceView) (core : ServiceCore S) (place : ℕ) → ServiceAgrees setup view core → place < length setup.writers
    → (spec : WriterSpec) (number : ℕ) (b : Buffer) → spec ≡ get_or core.writers.items place spec → number ≡ spec.buffer → b ≡ get_or core.buffers.items (number - 1) b
    → MeetsBuffer core.buffers.items (number - 1) (place + 2) b
meets_buffer setup view core place agrees inside spec number b read named found =
    let at = found_at setup view core place agrees inside spec number read named in
    record { size = record_size (size_of setup (producer_of setup place)); at = at; is = get_or_read core.buffers.items (number - 1) b at.inside found (empty_buffer 0 Ring []) }

-- One read, in the buffer that has its sequence
module _ (bs : List Buffer) (index q : ℕ) (b : Buffer) (meets : MeetsBuffer bs index q b) where
  written : (n : ℕ) → records_at bs (model.Read q n) ≡ map (record_in q) (delivered_by b q n)
  written n = records_here bs index q meets.size n meets.at ∙ ap (λ (x : Buffer). map (record_in q) (delivered_by x q n)) (sym meets.is)

  pub read_buffers : (n : ℕ) (new : Buffer) → new ≡ with_read b q n → set bs index new ≡ buffers_after bs (model.Read q n ∷ [])
  read_buffers n new e = ap (λ (x : Buffer). set bs index x) (e ∙ ap (λ (x : Buffer). with_read x q n) meets.is) ∙ event_at bs index meets.size (model.Read q n) meets.at

  pub read_taken : (n : ℕ) (before after : Intake) → after ≡ after_told before (record_bytes q (delivered_by b q n))
      → after ≡ after_told before (trace_of (records_at bs (model.Read q n)))
  read_taken n before after e = e ∙ ap (λ (ds : List Delivered). after_told before (trace_of ds)) (sym (written n))

  pub read_many : (n d : ℕ) → d ≡ length (delivered_by b q n) → d ≡ length (records_at bs (model.Read q n))
  read_many n d e = e ∙ sym (length-map (delivered_by b q n) (record_in q)) ∙ ap (λ (ds : List Delivered). length ds) (sym (written n))

  pub read_fails : (n count : ℕ) (new : Buffer) (before after : Intake) → EndsInRecordAt b new before after q n count → FailsIn bs q n count before after
  read_fails n count new before after fails =
      let fewer : records_at bs (model.Read q count) ≡ map (record_in q) fails.delivered = written count ∙ ap (λ (ds : List Delivery). map (record_in q) ds) fails.fewer in
      record {
        failed = record_in q fails.failed;
        later = map (record_in q) fails.others;
        due = written n
            ∙ ap (λ (ds : List Delivery). map (record_in q) ds) fails.cut
            ∙ map-append (record_in q) fails.delivered (fails.failed ∷ fails.others)
            ∙ ap (λ (ds : List Delivered). ds ++ record_in q fails.failed ∷ map (record_in q) fails.others) (sym fewer);
        many = ap (λ (ds : List Delivered). length ds) fewer ∙ length-map fails.delivered (record_in q) ∙ fails.number;
        part = subst (λ (ds : List Delivered). TakesPart (after_told before (trace_of ds)) after (record_of fails.failed.body q fails.failed.marked)) (sym fewer) fails.part;
      }

-- The service behind a read

pub agrees_read : {S : Type 0} → (setup : Setup) (old new : ServiceView) (core done : ServiceCore S) (q n : ℕ) → ServiceAgrees setup old core → KeepsFields core done
    → done.buffers.items ≡ buffers_after core.buffers.items (model.Read q n ∷ []) → done.taken.items ≡ core.taken.items
    → new ≡ noted_more old (Read q n ∷ []) → ServiceAgrees setup new done
agrees_read setup old new core done q n agrees keeps buffers_are taken_is noted =
    subst (λ (v : ServiceView). ServiceAgrees setup v done) (sym noted)
    (agrees_noted setup old core done (Read q n ∷ []) agrees keeps buffers_are taken_is (tt, tt)
    (λ place inside none.
    (refl, ap (stage_of place) (sym (closed_by_none setup old core done place (model.Read q n ∷ []) agrees buffers_are (refl, tt) inside)))))
  where
    stage_of : ℕ → Bool → Stage
    stage_of place b = record { come = (taken_of old place).count; closed = b; due = [] }

-- it notes the read and serves on
pub read_on : {S T W : Type 0} (means : Meaning T W S) (table : T) (core : ServiceCore S) (left : T) (done : ServiceCore S) (q n : ℕ) → ServesAt means table core
    → KeepsFields core done → done.buffers.items ≡ buffers_after core.buffers.items (model.Read q n ∷ []) → done.taken.items ≡ core.taken.items
    → NotesAlone means (Read q n ∷ []) table core.seat left done.seat → NotesOn means table core left done
read_on means table core left done q n at keeps buffers_are taken_is notes =
    let setup : Setup = means.setup table in
    let old : ServiceView = means.service_view table core.seat in
    record {
      service = record {
        agrees = agrees_read setup old (means.service_view left done.seat) core done q n at.agrees keeps buffers_are taken_is notes.view;
        keeps = keeps_open setup old core done (model.Read q n ∷ []) at.agrees keeps buffers_are (refl, tt);
        step = notes.step;
      };
      told = notes.told;
    }
