-- As many packets of a sequence are fixed as delivered as its reads deliver.
use Rattle.std.proofs.Common.{◌≡◌, ◌∙◌, ℕ, Bool, true, false, not, ◌&&◌, List, [], ◌∷◌, map, length, refl, sym, ap, arith, length-append}
use Rattle.std.specs.Prelude.{cond, ◌==◌, filter}
use Rattle.std.specs.List.{flat_map}
use Rattle.std.proofs.lemmas.Bool.{eqb-true}
use Rattle.trace_model.specs.Images.{Chunk, whole_chunk}
use Rattle.trace_model.specs.Counts.{raised}
use Rattle.trace_model.specs.Reading.{Reading, Fragments, Unreadable, reading_of}
use Rattle.trace_model.specs.Sequences.{Cursor, Sequence, sequence_in, is_known}
use Rattle.trace_model.specs.Buffers.{Buffer, meets, empty_buffer}
use Rattle.trace_model.specs.Arrivals.{Arrived, Kept, Rewritten, Duplicate, Discarded, TooFar, BadChunk, arrival_of, partial_arrival_of}
use Rattle.trace_model.specs.Row.{Link, row_from_cursor}
use Rattle.trace_model.specs.Reads.{Turn, Delivers, Counts, Skips, Ends, delivers, passed_by, is_marked, delivered_by}
use Rattle.trace_model.specs.History.{Event, Arrives, ArrivesInPart, Patched, Committed, Closed, Read, event_sequence, buffer_after, delivered_at, delivered_to}
use Rattle.trace_model.specs.Balance.{is_delivered}
use Rattle.trace_model.specs.Causes.{Fixed, lost_at, unread_start_places, fixed_by_link, fixed_by_turn, fixed_by_arrival, fixed_once_read, fixed_by, fixed_after}
use Rattle.trace_model.proofs.SequenceLemmas.{number_of}
use Rattle.trace_model.proofs.TallyLemmas.{tally, tally-append, tally-lost, tally-losses, tally-read}
use Rattle.trace_model.proofs.CountedLemmas.{counts_are_outcomes}
use Rattle.model_laws.specs.OutcomeLaws.{DeliveriesAreCounted}
use Rattle.model_laws.proofs.MarkLemmas.{delivered-long, known_behind, delivers_elsewhere}

-- Losses deliver nothing

none_arrives : (b : Buffer) (s owner : Sequence) (outcome : Arrived) (partial : Bool) (chunk_id : ℕ) (chunk : Chunk)
    → tally is_delivered (fixed_by_arrival b s owner outcome partial chunk_id chunk) ≡ 0
none_arrives b s owner Kept partial chunk_id chunk = tally-losses is_delivered s (filter (meets b owner.size) b.live)
none_arrives b s owner Rewritten partial chunk_id chunk = refl
none_arrives b s owner Duplicate partial chunk_id chunk = refl
none_arrives b s owner Discarded partial chunk_id chunk = step ((s.number == owner.number) && not partial)
  where
    step : (x : Bool) → tally is_delivered (cond x (map lost_at (unread_start_places s chunk_id chunk)) []) ≡ 0
    step true = tally-lost is_delivered (unread_start_places s chunk_id chunk)
    step false = refl
none_arrives b s owner TooFar partial chunk_id chunk = refl
none_arrives b s owner (BadChunk fragment) partial chunk_id chunk = refl

none_read : (b : Buffer) (s : Sequence) (p chunk_id flags : ℕ) (reading : Reading) → tally is_delivered (fixed_once_read b s p chunk_id flags reading) ≡ 0
none_read b s p chunk_id flags (Fragments fragments) =
    none_arrives b s (sequence_in b.sequences p) (arrival_of b p chunk_id) false chunk_id (whole_chunk flags fragments)
none_read b s p chunk_id flags (Unreadable number) = refl

-- Reads

turn_delivered : (at : Cursor) (turn : Turn) → tally is_delivered (fixed_by_turn at turn) ≡ cond (delivers turn) 1 0
turn_delivered at Delivers = refl
turn_delivered at (Counts cause) = refl
turn_delivered at Skips = refl
turn_delivered at Ends = refl

-- Events

fixed_here : (q : ℕ) (b : Buffer) (event : Event) → is_known b.sequences q ≡ true
    → tally is_delivered (fixed_by b (sequence_in b.sequences q) event) ≡ length (delivered_at q b event)
fixed_here q b (Arrives p chunk_id chunk) known = none_arrives b (sequence_in b.sequences q) (sequence_in b.sequences p) (arrival_of b p chunk_id) false chunk_id chunk
fixed_here q b (ArrivesInPart p chunk_id chunk) known =
    none_arrives b (sequence_in b.sequences q) (sequence_in b.sequences p) (partial_arrival_of b p chunk_id (length chunk.fragments)) true chunk_id chunk
fixed_here q b (Patched p patches) known = refl
fixed_here q b (Committed image patches) known =
    none_read b (sequence_in b.sequences q) image.sequence image.chunk_id image.flags (reading_of image.count image.payload)
fixed_here q b (Closed p) known = refl
fixed_here q b (Read p limit) known =
    ap (λ (n : ℕ). tally is_delivered (cond (p == n) (flat_map fixed_by_link (passed_by limit (row_from_cursor b (sequence_in b.sequences q)))) [])) (number_of b.sequences q known)
    ∙ step (p == q) refl
  where
    step : (x : Bool) → (p == q) ≡ x → tally is_delivered (cond x (flat_map fixed_by_link (passed_by limit (row_from_cursor b (sequence_in b.sequences q)))) [])
        ≡ length (cond x (delivered_by b p limit) [])
    step true e =
        let links : List Link = passed_by limit (row_from_cursor b (sequence_in b.sequences q)) in
        tally-read is_delivered delivers turn_delivered refl refl links
        ∙ sym (delivered-long links (is_marked (sequence_in b.sequences q)))
        ∙ ap (λ (n : ℕ). length (delivered_by b n limit)) (sym (eqb-true p q e))
    step false e = refl

fixed_all : (events : List Event) (q : ℕ) (b : Buffer) → is_known b.sequences q ≡ true
    → tally is_delivered (fixed_after q b events) ≡ length (delivered_to q b events)
fixed_all [] q b known = refl
fixed_all (event ∷ events) q b known =
    let here : List Fixed = cond (is_known b.sequences (event_sequence event)) (fixed_by b (sequence_in b.sequences q) event) [] in
    let later : Buffer = buffer_after b event in
    let fixed = tally-append is_delivered here (fixed_after q later events) in
    let delivered = length-append (delivered_at q b event) (delivered_to q later events) in
    let one : tally is_delivered here ≡ length (delivered_at q b event) = step (is_known b.sequences (event_sequence event)) refl in
    let rest = fixed_all events q later (known_behind q b event known) in
    omega (arith, fixed, delivered, one, rest)
  where
    step : (x : Bool) → is_known b.sequences (event_sequence event) ≡ x
        → tally is_delivered (cond x (fixed_by b (sequence_in b.sequences q) event) []) ≡ length (delivered_at q b event)
    step true e = fixed_here q b event known
    step false e = ap length (sym (delivers_elsewhere q b event known e))

pub deliveries_are_counted : DeliveriesAreCounted
deliveries_are_counted room policy sequences sequence size events known start =
    let many = fixed_all events sequence (empty_buffer room policy sequences) known in
    record {
      fixed_many = many;
      counted = (counts_are_outcomes room policy sequences sequence size events known start).delivered ∙ ap (raised 0) many;
    }
