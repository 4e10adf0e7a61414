-- A packet begins to be given up: in the midst of bytes, or before a nested length.
use Rattle.std.proofs.Common.{◌≡◌, ◌∙◌, ℕ, ◌<◌, ◌≤◌, Bool, List, [], ◌∷◌, ◌++◌, length, map, refl, sym, ap, subst, arith, append_assoc, length-append, inr}
use Rattle.std.specs.Prelude.{IsTrue}
use Rattle.std.proofs.lemmas.List.{append-nil}
use Rattle.wire_varint.specs.Varint.{redundant}
use Rattle.wire_varint.proofs.Lengths.{length-redundant}
use Rattle.trace_model.specs.Images.{Patch}
use Rattle.trace_model.specs.Packets.{Packet, Text, NestedLength, flat, open_length, open_places, written, with_more, body_of, kept_of}
use Rattle.trace_model.specs.Pages.{Page}
use Rattle.trace_model.specs.Sequences.{is_among}
use Rattle.trace_model.specs.Row.{Piece, bytes_of}
use Rattle.trace_model.specs.Sent.{SentPatch, all_sent, open_in}
use Rattle.trace_model.specs.Cut.{length_places}
use Rattle.trace_model.proofs.PacketLemmas.{flat_written}
use Rattle.commit_body.specs.declared.hole.Hole.{Hole}
use Rattle.commit_body.specs.Patches.{hole_chunks}
use Rattle.cut_steps.specs.RawChains.{earlier_pieces, chains_before, current_piece, current_pieces}
use Rattle.cut_steps.specs.Pending.{HasSent, AllEndWithin, sent_now, patches_so_far}
use Rattle.cut_steps.specs.Writing.{with_open, IsWriting}
use Rattle.cut_steps.specs.GivingUp.{IsGivingUp, AllClearOf, zero_patches}
use Rattle.cut_steps.proofs.Places.{flat_begun, open_places-innermost}
use Rattle.cut_steps.proofs.Growing.{long_bytes}
use Rattle.cut_steps.proofs.StepLemmas.{all_end_well-more, open_places-written, came}
use Rattle.cut_steps.proofs.StrictPieces.{lengths_in_one}
use Rattle.cut_steps.proofs.ZeroPatches.{inside, inside-standing, inside-behind, clear-standing}

-- What is lost of the packet: the text goes on with these bytes, and its open lengths are those that stand, or come behind.
record Loses (text : Text) (closed : List NestedLength) (levels : List (List ℕ)) (pieces : List Piece) : Type 0 where
  lost : List ℕ
  zeros_are : flat (redundant 0) text.levels ≡ flat (redundant 0) levels ++ lost
  proper : 0 < length lost
  closed_are : text.closed ≡ closed
  opened : open_in pieces text ≡ open_places levels
  clear : AllClearOf (length (bytes_of pieces)) (open_places text.levels)

giving_from : (size : ℕ) (packet : Packet) (older : List Packet) (pages : List Page) (continues : Bool) (done : List (List ℕ)) (now : List ℕ)
    (unsent : List Patch) (holes : List Hole) (coming : List ℕ) (text : Text) (w : IsWriting size packet older pages continues done now unsent holes coming)
    → Loses text packet.text.closed (w.level ∷ w.outer) (current_pieces pages continues done now)
    → ((n : ℕ) → IsTrue (is_among n (coming ++ length_places packet.text)) → IsTrue (is_among n (length_places text)))
    → IsGivingUp size packet older pages continues done now unsent holes text w.level w.outer
giving_from size packet older pages continues done now unsent holes coming text w loses places =
    let earlier : List Piece = earlier_pieces pages continues done in
    let piece : Piece = current_piece pages done now in
    let pieces : List Piece = earlier ++ piece ∷ [] in
    let total : length (bytes_of pieces) ≡ length (flat open_length (w.level ∷ w.outer)) =
    long_bytes (patches_so_far pages holes unsent) w.first earlier piece (w.level ∷ w.outer) w.bytes in
    let before : List SentPatch = all_sent (kept_of older) (chains_before pages continues done) in
    record {
      extra = [];
      lost = loses.lost;
      kept = w.kept;
      first = w.first;
      first_offset = w.first_offset;
      begins_at = w.begins_at;
      bytes = w.bytes;
      earlier_run_on = w.earlier_run_on;
      sends = subst (λ (sent : List SentPatch). HasSent pages sent unsent (hole_chunks holes)) (sym (append-nil (before ++ sent_now pieces text.closed)))
          (subst (λ (closed : List NestedLength). HasSent pages (before ++ sent_now pieces closed) unsent (hole_chunks holes)) (sym loses.closed_are) w.sends);
      holes_are = w.holes_are;
      extra_is = ap (zero_patches pieces) (sym loses.opened);
      closed_in = subst (AllEndWithin (length (flat open_length (w.level ∷ w.outer)))) (sym loses.closed_are) w.closed_in;
      clear = subst (λ (n : ℕ). AllClearOf n (open_places text.levels)) total loses.clear;
      zeros_are = loses.zeros_are;
      proper = loses.proper;
      ends = all_end_well-more earlier size (coming ++ length_places packet.text) (length_places text) 0 places w.ends;
      four = w.four;
      begins = w.begins;
      older_chains = w.older_chains;
      older_begin = w.older_begin;
      older_end = w.older_end;
      goes_on = w.goes_on;
      lengths = lengths_in_one pieces text (open_places (w.level ∷ w.outer)) loses.opened w.bytes.stand;
      large = w.large;
      full = w.full;
      flags = w.flags;
      continues_is = w.continues_is;
    }

-- these bytes of the packet are lost
pub giving_started : (size : ℕ) (packet : Packet) (older : List Packet) (pages : List Page) (continues : Bool) (done : List (List ℕ)) (now rest : List ℕ)
    (unsent : List Patch) (holes : List Hole) → 0 < length rest
    → (w : IsWriting size packet older pages continues done now unsent holes [])
    → IsGivingUp size packet older pages continues done now unsent holes (with_more rest packet).text w.level w.outer
giving_started size packet older pages continues done now rest unsent holes some w =
    let pieces : List Piece = current_pieces pages continues done now in
    let places : open_places (written rest packet.text.levels) ≡ open_places (w.level ∷ w.outer) =
    open_places-written rest packet.text.levels ∙ ap open_places w.levels in
    giving_from size packet older pages continues done now unsent holes [] (with_more rest packet).text w
    (record {
      lost = rest;
      zeros_are = ap (λ (levels : List (List ℕ)). flat (redundant 0) (written rest levels)) w.levels ∙ flat_written (redundant 0) rest w.level w.outer;
      proper = some;
      closed_are = refl;
      opened = ap (inside (length (bytes_of pieces))) places ∙ inside-standing (open_places (w.level ∷ w.outer)) pieces w.bytes.stand;
      clear = subst (AllClearOf (length (bytes_of pieces))) (sym places) (clear-standing (open_places (w.level ∷ w.outer)) pieces w.bytes.stand);
    })
    (λ n among. subst (λ (xs : List ℕ). IsTrue (is_among n (map (λ (nested : NestedLength). nested.at) packet.text.closed ++ xs))) (sym (open_places-written rest packet.text.levels)) among)

-- these bytes, and a nested length behind them
pub giving_started_nested : (size : ℕ) (packet : Packet) (older : List Packet) (pages : List Page) (continues : Bool) (done : List (List ℕ)) (now rest : List ℕ)
    (unsent : List Patch) (holes : List Hole) (coming : List ℕ)
    → ((n : ℕ) → IsTrue (is_among n coming) → n ≡ length (body_of (with_more rest packet)))
    → (w : IsWriting size packet older pages continues done now unsent holes coming)
    → IsGivingUp size packet older pages continues done now unsent holes (with_open (with_more rest packet)).text w.level w.outer
giving_started_nested size packet older pages continues done now rest unsent holes coming only w =
    let earlier : List Piece = earlier_pieces pages continues done in
    let piece : Piece = current_piece pages done now in
    let pieces : List Piece = earlier ++ piece ∷ [] in
    let closed : List ℕ = map (λ (nested : NestedLength). nested.at) packet.text.closed in
    let more : List (List ℕ) = (w.level ++ rest) ∷ w.outer in
    let place : ℕ = length (flat open_length more) in
    let total : length (bytes_of pieces) ≡ length (flat open_length (w.level ∷ w.outer)) =
    long_bytes (patches_so_far pages holes unsent) w.first earlier piece (w.level ∷ w.outer) w.bytes in
    let behind : length (bytes_of pieces) ≤ place =
    omega (arith, total, ap length (flat_written open_length rest w.level w.outer), length-append (flat open_length (w.level ∷ w.outer)) rest) in
    let written_levels : written rest packet.text.levels ≡ more = ap (written rest) w.levels in
    let inner : open_places more ≡ open_places (w.level ∷ w.outer) = open_places-innermost (w.level ++ rest) w.level w.outer in
    let places : open_places ([] ∷ written rest packet.text.levels) ≡ place ∷ open_places (w.level ∷ w.outer) =
    ap (λ (levels : List (List ℕ)). open_places ([] ∷ levels)) written_levels ∙ ap (λ (xs : List ℕ). place ∷ xs) inner in
    let body : length (body_of (with_more rest packet)) ≡ place = ap (λ (levels : List (List ℕ)). length (flat open_length levels)) written_levels in
    giving_from size packet older pages continues done now unsent holes coming (with_open (with_more rest packet)).text w
    (record {
      lost = rest ++ redundant 0;
      zeros_are = ap (λ (levels : List (List ℕ)). flat (redundant 0) ([] ∷ levels)) written_levels
          ∙ flat_begun (redundant 0) (w.level ++ rest) w.outer
          ∙ ap (λ (xs : List ℕ). xs ++ redundant 0) (flat_written (redundant 0) rest w.level w.outer)
          ∙ append_assoc (flat (redundant 0) (w.level ∷ w.outer)) rest (redundant 0);
      proper = omega (arith, length-append rest (redundant 0), length-redundant 0);
      closed_are = refl;
      opened = ap (inside (length (bytes_of pieces))) places
          ∙ inside-behind place (open_places (w.level ∷ w.outer)) (length (bytes_of pieces)) behind
          ∙ inside-standing (open_places (w.level ∷ w.outer)) pieces w.bytes.stand;
      clear = subst (AllClearOf (length (bytes_of pieces))) (sym places) (inr behind, clear-standing (open_places (w.level ∷ w.outer)) pieces w.bytes.stand);
    })
    (λ n among. subst (λ (xs : List ℕ). IsTrue (is_among n (closed ++ xs))) (sym places)
    (came n coming closed place (open_places (w.level ∷ w.outer)) (λ first. only n first ∙ body)
    (subst (λ (levels : List (List ℕ)). IsTrue (is_among n (coming ++ (closed ++ open_places levels)))) w.levels among)))
