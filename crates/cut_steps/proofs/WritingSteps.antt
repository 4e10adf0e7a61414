-- The steps of a packet that is written in the held chunk: bytes, a nested length begun, a message ended.
use Rattle.std.proofs.Common.{◌≡◌, ◌∙◌, ℕ, ◌+◌, ◌≤◌, Bool, List, [], ◌∷◌, ◌++◌, length, map, refl, sym, ap, subst, arith, length-append, append_assoc, append-nil}
use Rattle.std.specs.Prelude.{IsTrue}
use Rattle.trace_model.specs.Images.{Patch}
use Rattle.trace_model.specs.Packets.{Packet, NestedLength, flat, open_length, open_places, written, with_more, body_of, kept_of}
use Rattle.trace_model.specs.Pages.{Page}
use Rattle.trace_model.specs.Sequences.{is_among}
use Rattle.trace_model.specs.Row.{Piece, bytes_of}
use Rattle.trace_model.specs.Sent.{SentPatch, all_sent, chunk_at, offset_at}
use Rattle.trace_model.specs.Cut.{length_places, all_end_well}
use Rattle.trace_model.proofs.PacketLemmas.{flat_written}
use Rattle.commit_body.specs.declared.hole.Hole.{Hole}
use Rattle.commit_body.specs.Patches.{hole_chunks}
use Rattle.cut_steps.specs.RawChains.{earlier_pieces, chains_before, current_piece, current_pieces, current_chain, offset_behind}
use Rattle.cut_steps.specs.Pending.{HasSent, sent_now, hole_at, patches_so_far, AllEndWithin}
use Rattle.cut_steps.specs.Writing.{with_open, IsWriting}
use Rattle.cut_steps.proofs.Places.{flat_begun, open_places-innermost}
use Rattle.cut_steps.proofs.GrowingPlaces.{SamePlacesBelow, same_grown, holes-same, sent_now-same, chunk_at-last, offset_at-last, length_bytes-one}
use Rattle.cut_steps.proofs.Sending.{sends_open}
use Rattle.cut_steps.proofs.LaterPatches.{so_far_alike, so_far_marked, chains-alike}
use Rattle.cut_steps.proofs.Growing.{long_bytes, bytes_alike, bytes_write, bytes_open}
use Rattle.cut_steps.proofs.StepLemmas.{begins_at-grown, begins_well-same, start_of-same, within-more, open_places-written, all_end_well-more, is_among-right, came}

-- Packets

-- bytes that are written one part after another
pub with_more-both : (packet : Packet) (a b : List ℕ) → with_more b (with_more a packet) ≡ with_more (a ++ b) packet
with_more-both packet a b = ap (λ (levels : List (List ℕ)). record packet { text = record packet.text { levels = levels } }) (both packet.text.levels)
  where
    both : (levels : List (List ℕ)) → written b (written a levels) ≡ written (a ++ b) levels
    both [] = refl
    both (level ∷ others) = ap (λ (xs : List ℕ). xs ∷ others) (append_assoc level a b)

pub with_more-none : (packet : Packet) → with_more [] packet ≡ packet
with_more-none packet = ap (λ (levels : List (List ℕ)). record packet { text = record packet.text { levels = levels } }) (none packet.text.levels)
  where
    none : (levels : List (List ℕ)) → written [] levels ≡ levels
    none [] = refl
    none (level ∷ others) = ap (λ (xs : List ℕ). xs ∷ others) (append-nil level)

-- What is known of a packet that is written

-- each open length of the packet has a hole
pub writing_holes : (size : ℕ) (packet : Packet) (older : List Packet) (pages : List Page) (continues : Bool) (done : List (List ℕ)) (now : List ℕ)
    (unsent : List Patch) (holes : List Hole) (coming : List ℕ) → IsWriting size packet older pages continues done now unsent holes coming
    → holes ≡ map (hole_at (current_pieces pages continues done now)) (open_places packet.text.levels)
writing_holes size packet older pages continues done now unsent holes coming w =
    w.holes_are ∙ ap (λ (levels : List (List ℕ)). map (hole_at (current_pieces pages continues done now)) (open_places levels)) (sym w.levels)

-- Steps

-- a length may come at further places
pub writing_coming : (size : ℕ) (packet : Packet) (older : List Packet) (pages : List Page) (continues : Bool) (done : List (List ℕ)) (now : List ℕ)
    (unsent : List Patch) (holes : List Hole) (coming : List ℕ) → IsWriting size packet older pages continues done now unsent holes []
    → IsWriting size packet older pages continues done now unsent holes coming
writing_coming size packet older pages continues done now unsent holes coming w =
    let earlier : List Piece = earlier_pieces pages continues done in
    record {
      kept = w.kept;
      given_up = w.given_up;
      finished = w.finished;
      level = w.level;
      outer = w.outer;
      levels = w.levels;
      first = w.first;
      first_offset = w.first_offset;
      begins_at = w.begins_at;
      bytes = w.bytes;
      earlier_run_on = w.earlier_run_on;
      sends = w.sends;
      holes_are = w.holes_are;
      closed_in = w.closed_in;
      ends = all_end_well-more earlier size (length_places packet.text) (coming ++ length_places packet.text) 0
          (λ n among. is_among-right n coming (length_places packet.text) among) w.ends;
      four = w.four;
      begins = w.begins;
      older_chains = w.older_chains;
      older_begin = w.older_begin;
      older_end = w.older_end;
      goes_on = w.goes_on;
      large = w.large;
      full = w.full;
      flags = w.flags;
      continues_is = w.continues_is;
    }

-- more bytes in the same fragment
pub writing_more : (size : ℕ) (packet : Packet) (older : List Packet) (pages : List Page) (continues : Bool) (done : List (List ℕ)) (now bytes : List ℕ)
    (unsent : List Patch) (holes : List Hole) (coming : List ℕ)
    → IsWriting size packet older pages continues done now unsent holes coming
    → IsWriting size (with_more bytes packet) older pages continues done (now ++ bytes) unsent holes coming
writing_more size packet older pages continues done now bytes unsent holes coming w =
    let earlier : List Piece = earlier_pieces pages continues done in
    let old : Piece = current_piece pages done now in
    let new : Piece = current_piece pages done (now ++ bytes) in
    let before : List Piece = earlier ++ old ∷ [] in
    let after : List Piece = earlier ++ new ∷ [] in
    let patches : List Patch = patches_so_far pages holes unsent in
    let total : length (bytes_of before) ≡ length (flat open_length (w.level ∷ w.outer)) = long_bytes patches w.first earlier old (w.level ∷ w.outer) w.bytes in
    let same : SamePlacesBelow (length (bytes_of before)) before after = same_grown earlier old new refl refl (omega (arith, length-append now bytes)) in
    let within : AllEndWithin (length (bytes_of before)) packet.text.closed = subst (λ (n : ℕ). AllEndWithin n packet.text.closed) (sym total) w.closed_in in
    let longer : length (flat open_length (w.level ∷ w.outer)) ≤ length (flat open_length ((w.level ++ bytes) ∷ w.outer)) =
    omega (arith, ap length (flat_written open_length bytes w.level w.outer), length-append (flat open_length (w.level ∷ w.outer)) bytes) in
    record {
      kept = w.kept;
      given_up = w.given_up;
      finished = w.finished;
      level = w.level ++ bytes;
      outer = w.outer;
      levels = ap (written bytes) w.levels;
      first = w.first;
      first_offset = w.first_offset;
      begins_at = begins_at-grown earlier old new w.first w.first_offset refl refl w.begins_at;
      bytes = bytes_write patches w.first earlier old new w.level bytes w.outer refl refl w.bytes;
      earlier_run_on = w.earlier_run_on;
      sends = subst (λ (sent : List SentPatch). HasSent pages (all_sent (kept_of older) (chains_before pages continues done) ++ sent) unsent (hole_chunks holes))
          (sent_now-same packet.text.closed (length (bytes_of before)) before after within same) w.sends;
      holes_are = w.holes_are
          ∙ holes-same (open_places (w.level ∷ w.outer)) before after w.bytes.stand same
          ∙ ap (map (hole_at after)) (open_places-innermost w.level (w.level ++ bytes) w.outer);
      closed_in = within-more packet.text.closed (length (flat open_length (w.level ∷ w.outer))) (length (flat open_length ((w.level ++ bytes) ∷ w.outer))) longer w.closed_in;
      ends = subst (λ (places : List ℕ). IsTrue (all_end_well size (coming ++ (map (λ (nested : NestedLength). nested.at) packet.text.closed ++ places)) 0 earlier))
          (sym (open_places-written bytes packet.text.levels)) w.ends;
      four = w.four;
      begins = begins_well-same size packet (with_more bytes packet) older (current_chain pages continues done now) (current_chain pages continues done (now ++ bytes))
          (chains_before pages continues done) w.kept w.kept refl (start_of-same earlier old new refl) w.begins;
      older_chains = w.older_chains;
      older_begin = w.older_begin;
      older_end = w.older_end;
      goes_on = w.goes_on;
      large = w.large;
      full = w.full;
      flags = w.flags;
      continues_is = w.continues_is;
    }

-- a nested length is begun
pub writing_nested : (size : ℕ) (packet : Packet) (older : List Packet) (pages : List Page) (continues : Bool) (done : List (List ℕ)) (now : List ℕ)
    (unsent : List Patch) (holes : List Hole) (coming : List ℕ)
    → ((n : ℕ) → IsTrue (is_among n coming) → n ≡ length (body_of packet))
    → IsWriting size packet older pages continues done now unsent holes coming
    → IsWriting size (with_open packet) older pages continues done (now ++ open_length) unsent
    (record { chunk_id = length pages; offset = offset_behind 4 done + length now } ∷ holes) []
writing_nested size packet older pages continues done now unsent holes coming only w =
    let earlier : List Piece = earlier_pieces pages continues done in
    let old : Piece = current_piece pages done now in
    let new : Piece = current_piece pages done (now ++ open_length) in
    let before : List Piece = earlier ++ old ∷ [] in
    let after : List Piece = earlier ++ new ∷ [] in
    let hole : Hole = record { chunk_id = length pages; offset = offset_behind 4 done + length now } in
    let patches : List Patch = patches_so_far pages holes unsent in
    let place : ℕ = length (flat open_length (w.level ∷ w.outer)) in
    let total : length (bytes_of before) ≡ place = long_bytes patches w.first earlier old (w.level ∷ w.outer) w.bytes in
    let four : length (now ++ open_length) ≡ length now + 4 = length-append now open_length in
    let long : length (bytes_of before) ≡ length (bytes_of earlier) + length now = length_bytes-one earlier old in
    let same : SamePlacesBelow (length (bytes_of before)) before after = same_grown earlier old new refl refl (omega (arith, four)) in
    let within : AllEndWithin (length (bytes_of before)) packet.text.closed = subst (λ (n : ℕ). AllEndWithin n packet.text.closed) (sym total) w.closed_in in
    let longer : place ≤ length (flat open_length ([] ∷ w.level ∷ w.outer)) =
    omega (arith, ap length (flat_begun open_length w.level w.outer), length-append (flat open_length (w.level ∷ w.outer)) open_length) in
    let chunk : chunk_at after place ≡ length pages = chunk_at-last earlier new place (omega (arith, total, long)) (omega (arith, total, long, four)) in
    let offset : offset_at after place ≡ offset_behind 4 done + length now =
    offset_at-last earlier new place (omega (arith, total, long)) (omega (arith, total, long, four))
    ∙ ap (λ (n : ℕ). offset_behind 4 done + n) (omega (arith, total, long)) in
    let new_hole : hole ≡ hole_at after place = cc in
    let body : length (body_of packet) ≡ place = ap (λ (levels : List (List ℕ)). length (flat open_length levels)) w.levels in
    let closed : List ℕ = map (λ (nested : NestedLength). nested.at) packet.text.closed in
    record {
      kept = w.kept;
      given_up = w.given_up;
      finished = w.finished;
      level = [];
      outer = w.level ∷ w.outer;
      levels = ap (λ (levels : List (List ℕ)). [] ∷ levels) w.levels;
      first = w.first;
      first_offset = w.first_offset;
      begins_at = begins_at-grown earlier old new w.first w.first_offset refl refl w.begins_at;
      bytes = bytes_alike patches (patches_so_far pages (hole ∷ holes) unsent) w.first earlier new ([] ∷ w.level ∷ w.outer) (so_far_alike pages holes (hole ∷ holes) unsent)
          (bytes_open patches w.first earlier old new w.level w.outer refl refl w.bytes);
      earlier_run_on = w.earlier_run_on;
      sends = sends_open pages (all_sent (kept_of older) (chains_before pages continues done) ++ sent_now after packet.text.closed) unsent (hole_chunks holes)
          (subst (λ (sent : List SentPatch). HasSent pages (all_sent (kept_of older) (chains_before pages continues done) ++ sent) unsent (hole_chunks holes))
          (sent_now-same packet.text.closed (length (bytes_of before)) before after within same) w.sends);
      holes_are = ap (λ (others : List Hole). hole ∷ others) (w.holes_are ∙ holes-same (open_places (w.level ∷ w.outer)) before after w.bytes.stand same)
          ∙ ap (λ (one : Hole). one ∷ map (hole_at after) (open_places (w.level ∷ w.outer))) new_hole;
      closed_in = within-more packet.text.closed place (length (flat open_length ([] ∷ w.level ∷ w.outer))) longer w.closed_in;
      ends = subst (λ (levels : List (List ℕ)). IsTrue (all_end_well size (closed ++ open_places ([] ∷ levels)) 0 earlier)) (sym w.levels)
          (all_end_well-more earlier size (coming ++ (closed ++ open_places (w.level ∷ w.outer))) (closed ++ place ∷ open_places (w.level ∷ w.outer)) 0
          (λ n among. came n coming closed place (open_places (w.level ∷ w.outer)) (λ first. only n first ∙ body) among)
          (subst (λ (levels : List (List ℕ)). IsTrue (all_end_well size (coming ++ (closed ++ open_places levels)) 0 earlier)) w.levels w.ends));
      four = so_far_marked pages holes (hole ∷ holes) unsent w.four;
      begins = begins_well-same size packet (with_open packet) older (current_chain pages continues done now) (current_chain pages continues done (now ++ open_length))
          (chains_before pages continues done) w.kept w.kept refl (start_of-same earlier old new refl) w.begins;
      older_chains = chains-alike (kept_of older) (chains_before pages continues done) size patches (patches_so_far pages (hole ∷ holes) unsent)
          (so_far_alike pages holes (hole ∷ holes) unsent) w.older_chains;
      older_begin = w.older_begin;
      older_end = w.older_end;
      goes_on = w.goes_on;
      large = w.large;
      full = w.full;
      flags = w.flags;
      continues_is = w.continues_is;
    }
