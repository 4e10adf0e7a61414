-- The steps of making room.
use Rattle.std.proofs.Common.{◌≡◌, ℕ, ◌+◌, min, Bool, true, false, not, cond, List, [], ◌∷◌, map, filter, sum_by, Option, Some, None, refl, sym, ap, ap₂, ◌∙◌, subst, arith}
use Rattle.std.specs.List.{find}
use Rattle.std.specs.Option.{option_map}
use Rattle.chunk_index.specs.Value.{IndexValue, without_place}
use Rattle.ring_bytes.specs.declared.key.RecordKey.{RecordKey}
use Rattle.ring_bytes.specs.Value.{Stored, RingValue, IsMetAt, meets_stored, next_met_of, dropped_at}
use Rattle.trace_model.specs.Buffers.{BufferRecord, with_losses}
use Rattle.trace_model.specs.Counts.{raised}
use Rattle.trace_model.specs.Sequences.{Sequence}
use Rattle.trace_model.proofs.CountedLemmas.{raised-none}
use Rattle.trace_buffer.specs.BufferFields.{AreParts, AllKept, IsKept}
use Rattle.trace_buffer.specs.Keys.{LosesAt}
use Rattle.trace_buffer.specs.Records.{record_of, meets_record, met_records, displaced, unread_losses}
use Rattle.trace_buffer.proofs.DropLemmas.{parts_less, kept_middle}
use Rattle.trace_buffer.proofs.PartLemmas.{parts_map, keeps_losses}
use Rattle.trace_buffer.proofs.RoomLemmas.{displaced_more, split_met, rows_twice, lost_twice}
use Rattle.trace_buffer.proofs.UnderWay.{IsUnderWay}

pub met_kept : (ring : RingValue) (index : IndexValue) (rows : List Sequence) (n place : ℕ) (met : IsMetAt ring n place) → AreParts ring index rows → IsKept rows met.stored
met_kept ring index rows n place met parts =
    kept_middle rows met.alone.before met.alone.behind met.stored (subst (AllKept rows) met.alone.split parts.kept)

one_lost : (old : RingValue) (rows : List Sequence) (lost n : ℕ) (ring : RingValue) (index : IndexValue) (now : List Sequence) (count place k then : ℕ) (met : IsMetAt ring n place) → IsUnderWay old rows lost n ring index now count → k ≡ unread_losses now (record_of met.stored) → then ≡ min (count + k) 18446744073709551615 → IsUnderWay old rows lost n (dropped_at ring place) (without_place index met.stored.key.sequence met.stored.key.chunk_id) (map (with_losses (record_of met.stored ∷ [])) now) then
one_lost old rows lost n ring index now count place k then met w unread is =
    let r : BufferRecord = record_of met.stored in
    let parted = split_met ring n place met in
    let raised_is : then ≡ raised count (unread_losses now r) = is ∙ (let low = w.low in omega (arith, unread)) in
    record {
      fits = w.fits;
      low = omega (arith, is);
      parts = parts_map (dropped_at ring place) (without_place index met.stored.key.sequence met.stored.key.chunk_id) now (with_losses (r ∷ [])) (keeps_losses (r ∷ []))
          (parts_less ring index now n place met w.parts);
      ring_is = displaced_more ring n place met ∙ w.ring_is;
      rows_are = ap (λ rs. map (with_losses rs) (map (with_losses (r ∷ [])) now)) parted.left
          ∙ rows_twice parted.one parted.two r now
          ∙ sym (ap (λ rs. map (with_losses rs) now) parted.all)
          ∙ w.rows_are;
      lost_is = ap (λ rs. raised then (sum_by (unread_losses (map (with_losses (r ∷ [])) now)) rs)) parted.left
          ∙ lost_twice parted.one parted.two r now count then raised_is
          ∙ sym (ap (λ rs. raised count (sum_by (unread_losses now) rs)) parted.all)
          ∙ w.lost_is;
    }

pub step_lost : (old : RingValue) (rows : List Sequence) (lost n : ℕ) (ring new : RingValue) (index after : IndexValue) (now later : List Sequence) (count place k then : ℕ) (key : RecordKey) (met : IsMetAt ring n place) → IsUnderWay old rows lost n ring index now count → key ≡ met.stored.key → LosesAt now later key k → then ≡ min (count + k) 18446744073709551615 → new ≡ dropped_at ring place → after ≡ without_place index key.sequence key.chunk_id → IsUnderWay old rows lost n new after later then
step_lost old rows lost n ring new index after now later count place k then key met w key_is loses is new_is after_is =
    let kept = met_kept ring index now n place met w.parts in
    subst (λ (r : RingValue). IsUnderWay old rows lost n r after later then) (sym new_is)
    (subst (λ (x : IndexValue). IsUnderWay old rows lost n (dropped_at ring place) x later then)
    (sym (after_is ∙ ap (λ (q : RecordKey). without_place index q.sequence q.chunk_id) key_is))
    (subst
    (λ (ss : List Sequence). IsUnderWay old rows lost n (dropped_at ring place) (without_place index met.stored.key.sequence met.stored.key.chunk_id) ss then)
    (sym (loses.rows met.stored (sym key_is) kept.reads))
    (one_lost old rows lost n ring index now count place k then met w (loses.unread met.stored (sym key_is) kept.reads) is)))

-- Nothing more is met

none_met : (ring : RingValue) (n : ℕ) → None ≡ next_met_of ring n → find (meets_stored ring n) ring.live ≡ None
none_met ring n is = of (find (meets_stored ring n) ring.live) is
  where
    of : (o : Option Stored) → None ≡ option_map (λ (s : Stored). s.at) o → o ≡ None
    of None h = refl
    of (Some s) h = absurd (cc)

all_stay : (P : Stored → Bool) (ss : List Stored) → find P ss ≡ None → filter (λ s. not (P s)) ss ≡ ss
all_stay P [] none = refl
all_stay P (s ∷ ss) none = of (P s) (all_stay P ss) none
  where
    of : (b : Bool) → (find P ss ≡ None → filter (λ t. not (P t)) ss ≡ ss) → cond b (Some s) (find P ss) ≡ None → cond (not b) (s ∷ filter (λ t. not (P t)) ss) (filter (λ t. not (P t)) ss) ≡ s ∷ ss
    of true rest is = absurd (cc)
    of false rest is = ap (λ ts. s ∷ ts) (rest is)

none_met_of : (P : BufferRecord → Bool) (ss : List Stored) → find (λ (s : Stored). P (record_of s)) ss ≡ None → filter P (map record_of ss) ≡ []
none_met_of P [] none = refl
none_met_of P (s ∷ ss) none = of (P (record_of s)) (none_met_of P ss) none
  where
    of : (b : Bool) → (find (λ (t : Stored). P (record_of t)) ss ≡ None → filter P (map record_of ss) ≡ []) → cond b (Some s) (find (λ (t : Stored). P (record_of t)) ss) ≡ None → cond b (record_of s ∷ filter P (map record_of ss)) (filter P (map record_of ss)) ≡ []
    of true rest is = absurd (cc)
    of false rest is = rest is

no_losses : (rows : List Sequence) → map (with_losses []) rows ≡ rows
no_losses [] = refl
no_losses (s ∷ rows) = ap₂ (λ x xs. x ∷ xs) (ap (λ n. record s { lost = n }) (raised-none s.lost)) (no_losses rows)

pub ended_ring : (old : RingValue) (rows : List Sequence) (lost n : ℕ) (ring : RingValue) (index : IndexValue) (now : List Sequence) (count : ℕ) → IsUnderWay old rows lost n ring index now count → None ≡ next_met_of ring n → ring ≡ displaced old n
ended_ring old rows lost n ring index now count w none =
    let same = all_stay (meets_stored ring n) ring.live (none_met ring n none) in
    sym (λ i. record ring { live = same i }) ∙ w.ring_is

pub ended_rows : (old : RingValue) (rows : List Sequence) (lost n : ℕ) (ring : RingValue) (index : IndexValue) (now : List Sequence) (count : ℕ) → IsUnderWay old rows lost n ring index now count → None ≡ next_met_of ring n → now ≡ map (with_losses (met_records old n)) rows
ended_rows old rows lost n ring index now count w none =
    sym (ap (λ rs. map (with_losses rs) now) (none_met_of (meets_record ring n) ring.live (none_met ring n none)) ∙ no_losses now) ∙ w.rows_are

pub ended_lost : (old : RingValue) (rows : List Sequence) (lost n : ℕ) (ring : RingValue) (index : IndexValue) (now : List Sequence) (count : ℕ) → IsUnderWay old rows lost n ring index now count → None ≡ next_met_of ring n → count ≡ raised lost (sum_by (unread_losses rows) (met_records old n))
ended_lost old rows lost n ring index now count w none =
    sym (ap (λ rs. raised count (sum_by (unread_losses now) rs)) (none_met_of (meets_record ring n) ring.live (none_met ring n none)) ∙ raised-none count) ∙ w.lost_is
