-- The bytes of a packet, step by step: bytes written, a length begun, a message ended in the held chunk or behind it, and
-- the packet run on in the next chunk.
use Rattle.std.proofs.Common.{◌≡◌, ◌∙◌, ℕ, suc, ◌+◌, ◌-◌, ◌≤◌, List, [], ◌∷◌, ◌++◌, length, map, sym, ap, subst, arith, append_assoc, length-append}
use Rattle.std.proofs.lemmas.List.{append-nil, map-append}
use Rattle.trace_model.specs.Images.{Patch, with_bytes}
use Rattle.trace_model.specs.Packets.{flat, open_places, open_length}
use Rattle.trace_model.specs.Row.{Piece, bytes_of}
use Rattle.trace_model.specs.Sent.{chunk_at, offset_at, AllChunksBelow}
use Rattle.trace_model.proofs.PacketLemmas.{flat_written}
use Rattle.cut_steps.specs.RawChains.{settled_piece}
use Rattle.cut_steps.specs.Pieces.{Follows, StandInOnePiece, AllStandIn}
use Rattle.cut_steps.specs.Growth.{HasBytes, settled_bytes}
use Rattle.cut_steps.specs.Pending.{AllHaveFour}
use Rattle.cut_steps.proofs.Places.{with_bytes_left, with_bytes_right, length_with_bytes, flat_begun, flat_closed, open_places-innermost, bytes_of-patched, stands_within}
use Rattle.cut_steps.proofs.GrowingPlaces.{bytes_of-one, length_bytes-one, all_stand-grown, all_stand-before, stands-last}
use Rattle.cut_steps.proofs.SamePlaces.{SamePlaces, chunk_at-places, offset_at-places}
use Rattle.cut_steps.proofs.LaterPatches.{SettleAlike, SettleLater, bytes-alike, bytes-later, follows_settled, settled-places, stands-settled, settled-newer}

-- so many bytes are there
pub long_bytes : (patches : List Patch) (first : ℕ) (earlier : List Piece) (piece : Piece) (levels : List (List ℕ)) → HasBytes patches first earlier piece levels
    → length (bytes_of (earlier ++ piece ∷ [])) ≡ length (flat open_length levels)
long_bytes patches first earlier piece levels h =
    omega (arith, length_bytes-one earlier piece, h.long, length-append (settled_bytes patches earlier) piece.fragment.bytes, ap length h.exact)

pub follows_one : (pieces : List Piece) (first : ℕ) (piece : Piece) → Follows first pieces → piece.at.chunk_id ≡ first + length pieces → Follows first (pieces ++ piece ∷ [])
follows_one [] first piece follows chunk = (omega (arith, chunk), tt)
follows_one (one ∷ pieces) first piece follows chunk = (follows.0, follows_one pieces (suc first) piece follows.1 (omega (arith, chunk)))

pub follows_bytes : (patches : List Patch) (first : ℕ) (earlier : List Piece) (piece : Piece) (levels : List (List ℕ)) → HasBytes patches first earlier piece levels
    → Follows first (earlier ++ piece ∷ [])
follows_bytes patches first earlier piece levels h = follows_one earlier first piece h.follows h.chunk

-- patches that act alike
pub bytes_alike : (a b : List Patch) (first : ℕ) (earlier : List Piece) (piece : Piece) (levels : List (List ℕ)) → SettleAlike a b
    → HasBytes a first earlier piece levels → HasBytes b first earlier piece levels
bytes_alike a b first earlier piece levels alike h =
    let same : settled_bytes a earlier ≡ settled_bytes b earlier = bytes-alike earlier a b alike in
    record {
      exact = sym (ap (λ (xs : List ℕ). xs ++ piece.fragment.bytes) same) ∙ h.exact;
      follows = h.follows;
      chunk = h.chunk;
      long = sym (ap length same) ∙ h.long;
      stand = h.stand;
    }

pub bytes_write : (patches : List Patch) (first : ℕ) (earlier : List Piece) (q r : Piece) (level bytes : List ℕ) (others : List (List ℕ))
    → r.at.chunk_id ≡ q.at.chunk_id → r.fragment.bytes ≡ q.fragment.bytes ++ bytes
    → HasBytes patches first earlier q (level ∷ others) → HasBytes patches first earlier r ((level ++ bytes) ∷ others)
bytes_write patches first earlier q r level bytes others chunk more h =
    let longer : length q.fragment.bytes ≤ length r.fragment.bytes = omega (arith, ap length more, length-append q.fragment.bytes bytes) in
    record {
      exact = ap (λ (xs : List ℕ). settled_bytes patches earlier ++ xs) more
          ∙ sym (append_assoc (settled_bytes patches earlier) q.fragment.bytes bytes)
          ∙ ap (λ (xs : List ℕ). xs ++ bytes) h.exact
          ∙ sym (flat_written open_length bytes level others);
      follows = h.follows;
      chunk = chunk ∙ h.chunk;
      long = h.long;
      stand = subst (AllStandIn (earlier ++ r ∷ [])) (open_places-innermost level (level ++ bytes) others)
          (all_stand-grown (open_places (level ∷ others)) earlier q r longer h.stand);
    }

pub bytes_open : (patches : List Patch) (first : ℕ) (earlier : List Piece) (q r : Piece) (level : List ℕ) (others : List (List ℕ))
    → r.at.chunk_id ≡ q.at.chunk_id → r.fragment.bytes ≡ q.fragment.bytes ++ open_length
    → HasBytes patches first earlier q (level ∷ others) → HasBytes patches first earlier r ([] ∷ level ∷ others)
bytes_open patches first earlier q r level others chunk more h =
    let total : length (bytes_of (earlier ++ q ∷ [])) ≡ length (flat open_length (level ∷ others)) = long_bytes patches first earlier q (level ∷ others) h in
    let four : length r.fragment.bytes ≡ length q.fragment.bytes + 4 = ap length more ∙ length-append q.fragment.bytes open_length in
    record {
      exact = ap (λ (xs : List ℕ). settled_bytes patches earlier ++ xs) more
          ∙ sym (append_assoc (settled_bytes patches earlier) q.fragment.bytes open_length)
          ∙ ap (λ (xs : List ℕ). xs ++ open_length) h.exact
          ∙ sym (flat_begun open_length level others);
      follows = h.follows;
      chunk = chunk ∙ h.chunk;
      long = h.long;
      stand = (
        stands-last earlier r (length (flat open_length (level ∷ others))) (omega (arith, total, length_bytes-one earlier q)) (omega (arith, total, four, length_bytes-one earlier q)),
        all_stand-grown (open_places (level ∷ others)) earlier q r (omega (arith, four)) h.stand,
      );
    }

-- a message ends whose length is in the held chunk: any four bytes are put in for it
pub bytes_here : (patches : List Patch) (first : ℕ) (earlier : List Piece) (q r : Piece) (level outer v : List ℕ) (others : List (List ℕ))
    → length v ≡ 4 → length (bytes_of earlier) ≤ length (flat open_length (outer ∷ others))
    → r.at.chunk_id ≡ q.at.chunk_id
    → r.fragment.bytes ≡ with_bytes q.fragment.bytes (length (flat open_length (outer ∷ others)) - length (bytes_of earlier)) v
    → length r.fragment.bytes ≡ length q.fragment.bytes
    → HasBytes patches first earlier q (level ∷ outer ∷ others) → HasBytes patches first earlier r ((outer ++ v ++ level) ∷ others)
bytes_here patches first earlier q r level outer v others four there chunk put long h =
    let place : ℕ = length (flat open_length (outer ∷ others)) in
    let at : ℕ = place - length (bytes_of earlier) in
    let settled : List ℕ = settled_bytes patches earlier in
    record {
      exact = ap (λ (xs : List ℕ). settled ++ xs) put
          ∙ sym (with_bytes_right settled q.fragment.bytes v at)
          ∙ ap (λ (n : ℕ). with_bytes (settled ++ q.fragment.bytes) n v) (omega (arith, h.long, there))
          ∙ ap (λ (xs : List ℕ). with_bytes xs place v) h.exact
          ∙ sym (flat_closed v level outer others four);
      follows = h.follows;
      chunk = chunk ∙ h.chunk;
      long = h.long;
      stand = subst (AllStandIn (earlier ++ r ∷ [])) (open_places-innermost outer (outer ++ v ++ level) others)
          (all_stand-grown (open_places (outer ∷ others)) earlier q r (omega (arith, long)) h.stand.1);
    }

-- a message ends whose length is in an earlier chunk: its patch comes
pub bytes_later : (a : List Patch) (patch : Patch) (b : List Patch) (first : ℕ) (earlier : List Piece) (piece : Piece) (level outer v : List ℕ) (others : List (List ℕ))
    → SettleLater a patch b → AllHaveFour a → length v ≡ 4 → patch.bytes ≡ v
    → StandInOnePiece earlier (length (flat open_length (outer ∷ others)))
    → patch.chunk_id ≡ chunk_at earlier (length (flat open_length (outer ∷ others)))
    → patch.offset ≡ offset_at earlier (length (flat open_length (outer ∷ others)))
    → HasBytes a first earlier piece (level ∷ outer ∷ others) → HasBytes b first earlier piece ((outer ++ v ++ level) ∷ others)
bytes_later a patch b first earlier piece level outer v others later four long is stands chunk offset h =
    let place : ℕ = length (flat open_length (outer ∷ others)) in
    let settled : List ℕ = settled_bytes a earlier in
    let there : List Piece = map (settled_piece a) earlier in
    let placed : SamePlaces there earlier = settled-places a earlier four in
    let before : place + 4 ≤ length (bytes_of earlier) = stands_within earlier place stands in
    let changed : settled_bytes b earlier ≡ with_bytes settled place v =
    bytes-later earlier a patch b later
    ∙ bytes_of-patched there patch first place (ap length is ∙ long) (follows_settled earlier a first four h.follows) (stands-settled earlier a place four stands)
    (chunk ∙ sym (chunk_at-places there earlier place placed)) (offset ∙ sym (offset_at-places there earlier place placed))
    ∙ ap (with_bytes settled place) is in
    record {
      exact = ap (λ (xs : List ℕ). xs ++ piece.fragment.bytes) changed
          ∙ sym (with_bytes_left settled piece.fragment.bytes v place (omega (arith, before, h.long, long)))
          ∙ ap (λ (xs : List ℕ). with_bytes xs place v) h.exact
          ∙ sym (flat_closed v level outer others long);
      follows = h.follows;
      chunk = h.chunk;
      long = ap length changed ∙ length_with_bytes settled v place (omega (arith, before, h.long, long)) ∙ h.long;
      stand = subst (AllStandIn (earlier ++ piece ∷ [])) (open_places-innermost outer (outer ++ v ++ level) others) h.stand.1;
    }

-- the packet runs on: the finished piece is `ended`, and the next one has no byte yet
pub bytes_run : (patches : List Patch) (first : ℕ) (earlier : List Piece) (piece ended next : Piece) (levels : List (List ℕ))
    → ended.at.chunk_id ≡ piece.at.chunk_id → ended.fragment.bytes ≡ piece.fragment.bytes
    → next.at.chunk_id ≡ piece.at.chunk_id + 1 → next.fragment.bytes ≡ [] → AllChunksBelow piece.at.chunk_id patches
    → HasBytes patches first earlier piece levels → HasBytes patches first (earlier ++ ended ∷ []) next levels
bytes_run patches first earlier piece ended next levels chunk bytes behind none below h =
    let untouched : settled_piece patches ended ≡ ended = settled-newer patches ended (subst (λ (n : ℕ). AllChunksBelow n patches) (sym chunk) below) in
    let settled : settled_bytes patches (earlier ++ ended ∷ []) ≡ settled_bytes patches earlier ++ piece.fragment.bytes =
    ap bytes_of (map-append (settled_piece patches) earlier (ended ∷ []))
    ∙ bytes_of-one (map (settled_piece patches) earlier) (settled_piece patches ended)
    ∙ ap (λ (one : Piece). settled_bytes patches earlier ++ one.fragment.bytes) untouched
    ∙ ap (λ (xs : List ℕ). settled_bytes patches earlier ++ xs) bytes in
    record {
      exact = ap (λ (xs : List ℕ). settled_bytes patches (earlier ++ ended ∷ []) ++ xs) none
          ∙ append-nil (settled_bytes patches (earlier ++ ended ∷ []))
          ∙ settled
          ∙ h.exact;
      follows = follows_one earlier first ended h.follows (chunk ∙ h.chunk);
      chunk = omega (arith, behind, h.chunk, length-append earlier (ended ∷ []));
      long = ap length settled
          ∙ length-append (settled_bytes patches earlier) piece.fragment.bytes
          ∙ ap (λ (n : ℕ). n + length piece.fragment.bytes) h.long
          ∙ ap (λ (xs : List ℕ). length (bytes_of earlier) + length xs) (sym bytes)
          ∙ sym (length_bytes-one earlier ended);
      stand = all_stand-before (open_places levels) (earlier ++ ended ∷ []) (next ∷ [])
          (all_stand-grown (open_places levels) earlier piece ended (omega (arith, ap length bytes)) h.stand);
    }
