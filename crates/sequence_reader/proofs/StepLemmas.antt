-- What a chunk's record shows at a spot is what the row has there.
use Rattle.std.proofs.Common.{◌≡◌, ℕ, suc, ◌+◌, ◌<◌, ◌&&◌, inl, inr, not, max, Bool, true, false, cond, List, [], ◌∷◌, length, Option, Some, None, refl, sym, ap, ◌∙◌, subst, arith, true≢false}
use Rattle.std.proofs.lemmas.List.{length-drop}
use Rattle.ring_bytes.specs.declared.key.RecordKey.{RecordKey}
use Rattle.trace_model.specs.Buffers.{Buffer, BufferRecord, live_at}
use Rattle.trace_model.specs.Images.{Chunk, Fragment}
use Rattle.trace_model.specs.Reading as reading
use Rattle.trace_model.specs.Row as row
use Rattle.trace_model.specs.Row.{Here, place, place_behind, is_last, is_part, with_piece, slot_of, horizon}
use Rattle.trace_model.specs.Sequences.{Sequence, sequence_in}
use Rattle.trace_buffer.specs.Calls.{TellsRecord, IsImageOf}
use Rattle.sequence_reader.specs.declared.ends.Why.{Why}
use Rattle.sequence_reader.specs.declared.spot.Bounds.{Bounds}
use Rattle.sequence_reader.specs.declared.spot.Spot.{Spot}
use Rattle.sequence_reader.specs.declared.step.Piece.{Piece}
use Rattle.sequence_reader.specs.declared.step.Step.{Step}
use Rattle.sequence_reader.specs.declared.step.Step.TheVariants as step
use Rattle.sequence_reader.specs.Spots.{AreBounds, FitsChunk, IsSpot, rows_of, cursor_of, start_from}
use Rattle.sequence_reader.specs.Steps.{Shows, ShowsIn, IsPieceIn, IsPieceAt, WaitsIn, IsPassedPart, IsStopAt, spot_behind}
use Rattle.sequence_reader.proofs.FragmentLemmas.{start_next}
use Rattle.sequence_reader.proofs.RowLemmas.{row_fragment, row_waits, row_part, slot_here}

-- the live record that is lent
pub record IsLent (key : RecordKey) (payload : List ℕ) (o : Option BufferRecord) : Type 0 where
  pub stored : BufferRecord
  pub live : o ≡ Some stored
  pub tells : TellsRecord key payload stored

pub lent : (key : RecordKey) (payload : List ℕ) (o : Option BufferRecord) → IsImageOf key payload o → IsLent key payload o
lent key payload None is = absurd is
lent key payload (Some stored) is = record { stored = stored; live = refl; tells = is }

-- the cursor behind a fragment
cursor_behind : (spot : Spot) (end : ℕ) (ended : Bool) → cursor_of (spot_behind spot end ended) ≡ cond ended (place (suc spot.chunk_id) 0) (place spot.chunk_id (suc spot.passed))
cursor_behind spot end true = let e : spot.chunk_id + 1 ≡ suc spot.chunk_id = omega arith in ap (λ n. place n 0) e
cursor_behind spot end false = let e : spot.passed + 1 ≡ suc spot.passed = omega arith in ap (λ n. place spot.chunk_id n) e

-- the start of any chunk
pub start_fits : (closed : Bool) (chunk : Chunk) (spot : Spot) → spot.passed ≡ 0 → spot.offset ≡ 0 → FitsChunk closed chunk spot
start_fits closed chunk spot passed offset = record {
  offset = λ less. offset ∙ ap (λ n. start_from 0 n chunk.fragments) (sym passed);
  left = λ all some. absurd (omega (arith, passed, some));
}

none_behind : (others : List Fragment) → length others ≡ 0 → is_last others ≡ true
none_behind [] none = refl
none_behind (f ∷ others) none = absurd (omega (arith, none))

part_left : (last part : Bool) → last ≡ true → (last && not part) ≡ false → part ≡ true
part_left true true is e = refl
part_left true false is e = absurd (true≢false e)
part_left false part is e = absurd (true≢false (sym is))

module _ (b : Buffer) (bounds : Bounds) (spot : Spot) (stored : BufferRecord) (are : AreBounds b bounds)
    (before : spot.chunk_id < bounds.end) (live : live_at b bounds.sequence spot.chunk_id ≡ Some stored) where
  abbrev q : ℕ
  q = bounds.sequence

  abbrev s : Sequence
  s = sequence_in b.sequences q

  within : spot.chunk_id < horizon s
  within = subst (λ n. spot.chunk_id < n) (sym are.end) before

  slot : slot_of b s spot.chunk_id ≡ Here stored.chunk
  slot = slot_here b q spot.chunk_id stored are.known live

  -- the spot behind a fragment
  behind_fits : (piece : Piece) (is : IsPieceIn bounds.closed stored.chunk spot piece) (ended : Bool) → (is_last is.others && not (is_part bounds.closed stored.chunk)) ≡ ended
      → IsSpot b bounds (spot_behind spot (reading.fragment_end is.fragment) ended)
  behind_fits piece is true e = λ low other found. start_fits bounds.closed other.chunk (spot_behind spot (reading.fragment_end is.fragment) true) refl refl
  behind_fits piece is false e = λ low other found.
      let both : Some other ≡ Some stored = sym found ∙ live in
      let same : stored ≡ other = cc in
      subst (λ (r : BufferRecord). FitsChunk bounds.closed r.chunk (spot_behind spot (reading.fragment_end is.fragment) false)) same
      (record {
        offset = λ less. sym (ap (λ n. start_from 0 n stored.chunk.fragments) (one_more spot.passed) ∙ start_next 0 spot.passed stored.chunk.fragments is.fragment is.others is.here);
        left = λ all some. part_left (is_last is.others) (is_part bounds.closed stored.chunk)
            (none_behind is.others (omega (arith, ap length is.here, length-drop spot.passed stored.chunk.fragments, all))) e;
      })
    where
      one_more : (n : ℕ) → n + 1 ≡ suc n
      one_more n = omega arith

  shown_piece : (piece : Piece) → IsPieceIn bounds.closed stored.chunk spot piece → IsPieceAt b bounds spot piece
  shown_piece piece is =
      let ended : Bool = is_last is.others && not (is_part bounds.closed stored.chunk) in
      let goes : ((stored.chunk.awaits && is_last is.others) && not s.closed) ≡ false = ap (λ x. (stored.chunk.awaits && is_last is.others) && not x) are.closed ∙ is.unstopped in
      let place_is : place_behind (is_part s.closed stored.chunk) spot.chunk_id spot.passed (is_last is.others) ≡ cursor_of piece.behind =
      ap (λ x. place_behind (is_part x stored.chunk) spot.chunk_id spot.passed (is_last is.others)) are.closed
      ∙ sym (ap cursor_of is.behind ∙ cursor_behind spot (reading.fragment_end is.fragment) ended) in
      let runs_on = sym is.runs_on in
      let headless = sym is.headless in
      let awaits = sym is.awaits in
      record {
        fragment = is.fragment;
        bytes = is.bytes;
        dropped = is.dropped;
        links = row_fragment b s spot.chunk_id spot.passed stored.chunk slot within is.fragment is.others is.here goes
            ∙ (λ i. with_piece (record { at = cursor_of spot; fragment = is.fragment; runs_on = runs_on i }) (place_is i) (headless i) (awaits i) (rows_of b q (place_is i)));
        behind = subst (IsSpot b bounds) (sym is.behind) (behind_fits piece is ended refl);
        further = is.further;
        near = is.near;
      }

  shown_wait : (why : Why) (may : Bool) → WaitsIn bounds.closed stored.chunk spot why may → IsStopAt (rows_of b q (cursor_of spot)) why may
  shown_wait why may is =
      let waits : ((stored.chunk.awaits && is_last is.others) && not s.closed) ≡ true = ap (λ x. (stored.chunk.awaits && is_last is.others) && not x) are.closed ∙ is.stopped in
      record {
        at = cursor_of spot;
        reason = row.Unpatched;
        links_are = row_waits b s spot.chunk_id spot.passed stored.chunk slot within is.fragment is.others is.here waits
            ∙ ap (λ m. row.Stop (cursor_of spot) row.Unpatched m ∷ []) (sym is.may_is);
        told = sym is.why_is;
      }

  shown_part : (why : Why) (may : Bool) → IsPassedPart bounds.closed stored.chunk spot why may → IsStopAt (rows_of b q (cursor_of spot)) why may
  shown_part why may is = record {
    at = place spot.chunk_id (max spot.passed (length stored.chunk.fragments));
    reason = row.Partial;
    links_are = row_part b s spot.chunk_id spot.passed stored.chunk slot within is.passed (ap (λ x. is_part x stored.chunk) are.closed ∙ is.part)
        ∙ ap (λ m. row.Stop (place spot.chunk_id (max spot.passed (length stored.chunk.fragments))) row.Partial m ∷ []) (sym is.may_is);
    told = sym is.why_is;
  }

  pub shown : (found : Step) → ShowsIn bounds.closed stored.chunk spot found → Shows b bounds spot found
  shown (step.Fragment piece) is = shown_piece piece is
  shown (step.Gap lost) is = absurd is
  shown (step.Stop why may) (inl is) = shown_wait why may is
  shown (step.Stop why may) (inr is) = shown_part why may is
