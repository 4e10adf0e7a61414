-- A packet that is given up: its holes are closed with 0, one after another, in the held chunk or in an earlier one.
use Rattle.std.proofs.Common.{◌≡◌, ◌≢◌, ◌∙◌, ℕ, ◌+◌, ◌-◌, ◌≤◌, Bool, List, [], ◌∷◌, ◌++◌, length, map, refl, sym, ap, subst, arith, append_assoc}
use Rattle.std.specs.Prelude.{IsTrue}
use Rattle.std.specs.List.{list_all}
use Rattle.wire_varint.specs.Varint.{redundant}
use Rattle.wire_varint.proofs.Lengths.{length-redundant}
use Rattle.trace_model.specs.Images.{Patch, with_bytes}
use Rattle.trace_model.specs.Packets.{Packet, Text, flat, open_length, open_places, kept_of}
use Rattle.trace_model.specs.Pages.{Page}
use Rattle.trace_model.specs.Row.{Piece, bytes_of}
use Rattle.trace_model.specs.Sent.{SentPatch, as_sent, sent_at_drop, last_chunk, all_sent, chunk_at, offset_at, is_placed, open_in, is_in_one}
use Rattle.commit_body.specs.declared.hole.Hole.{Hole}
use Rattle.commit_body.specs.Patches.{hole_chunks}
use Rattle.commit_body.specs.Pending.{patch_for}
use Rattle.cut_steps.specs.RawChains.{earlier_pieces, chains_before, current_piece, current_chain, offset_behind}
use Rattle.cut_steps.specs.Pending.{HasSent, sent_now, sent_chunks, hole_at, patches_so_far, AllEndWithin}
use Rattle.cut_steps.specs.GivingUp.{IsGivingUp, AllClearOf, zero_patches}
use Rattle.cut_steps.proofs.Places.{flat_ended, length_flat_closed, open_places-innermost}
use Rattle.cut_steps.proofs.GrowingPlaces.{SamePlacesBelow, same_grown, holes-same, sent_now-same, length_bytes-one}
use Rattle.cut_steps.proofs.Sending.{sends_here, sends_later}
use Rattle.cut_steps.proofs.LaterPatches.{SettleLater, StandsBehind, so_far_alike, so_far_later, so_far_four, so_far_marked, chains-alike, chains-later, stands_behind-begin}
use Rattle.cut_steps.proofs.Growing.{long_bytes, follows_bytes, bytes_alike, bytes_here, bytes_later}
use Rattle.cut_steps.proofs.PlacedPatches.{placed_earlier, is_among-here}
use Rattle.cut_steps.proofs.OpenLengths.{StandsHere, StandsEarlier, stands_here, stands_earlier, length_put_here}
use Rattle.cut_steps.proofs.StepLemmas.{begins_at-grown, begins_well-same, start_of-same}
use Rattle.cut_steps.proofs.EndingSteps.{Holes, holes_from}
use Rattle.cut_steps.proofs.StrictPieces.{in_one-same}
use Rattle.cut_steps.proofs.ZeroPatches.{last_chunk-one, inside, below-standing, below-inside, zero_patches-same, zero_patches-earlier, zero_patches-here}

-- the hole in the held chunk lies in its fragment
pub giving_stands_here : (size : ℕ) (packet : Packet) (older : List Packet) (pages : List Page) (continues : Bool) (done : List (List ℕ)) (now : List ℕ)
    (unsent : List Patch) (hole : Hole) (holes : List Hole) (text : Text) (level outer : List ℕ) (others : List (List ℕ)) → hole.chunk_id ≡ length pages
    → IsGivingUp size packet older pages continues done now unsent (hole ∷ holes) text level (outer ∷ others)
    → (offset_behind 4 done ≤ hole.offset) × (hole.offset + 4 ≤ offset_behind 4 done + length now)
giving_stands_here size packet older pages continues done now unsent hole holes text level outer others held g =
    let earlier : List Piece = earlier_pieces pages continues done in
    let piece : Piece = current_piece pages done now in
    let of : Holes (earlier ++ piece ∷ []) hole holes outer others = holes_from (earlier ++ piece ∷ []) hole holes level outer others g.holes_are in
    let here : StandsHere earlier piece (length (flat open_length (outer ∷ others))) hole.offset =
    stands_here (patches_so_far pages (hole ∷ holes) unsent) g.first earlier piece level outer others hole.offset g.bytes (sym of.chunk ∙ held) of.offset in
    (here.low, here.high)

-- the innermost open length is in the held chunk
pub giving_here : (size : ℕ) (packet : Packet) (older : List Packet) (pages : List Page) (continues : Bool) (done : List (List ℕ)) (now : List ℕ)
    (unsent : List Patch) (hole : Hole) (holes : List Hole) (text : Text) (level outer : List ℕ) (others : List (List ℕ)) → hole.chunk_id ≡ length pages
    → IsGivingUp size packet older pages continues done now unsent (hole ∷ holes) text level (outer ∷ others)
    → IsGivingUp size packet older pages continues done (with_bytes now (hole.offset - offset_behind 4 done) (redundant 0)) unsent holes
    text (outer ++ redundant 0 ++ level) others
giving_here size packet older pages continues done now unsent hole holes text level outer others held g =
    let v : List ℕ = redundant 0 in
    let put : List ℕ = with_bytes now (hole.offset - offset_behind 4 done) v in
    let earlier : List Piece = earlier_pieces pages continues done in
    let old : Piece = current_piece pages done now in
    let new : Piece = current_piece pages done put in
    let before : List Piece = earlier ++ old ∷ [] in
    let after : List Piece = earlier ++ new ∷ [] in
    let patches : List Patch = patches_so_far pages (hole ∷ holes) unsent in
    let place : ℕ = length (flat open_length (outer ∷ others)) in
    let four : length v ≡ 4 = length-redundant 0 in
    let of : Holes before hole holes outer others = holes_from before hole holes level outer others g.holes_are in
    let here : StandsHere earlier old place hole.offset = stands_here patches g.first earlier old level outer others hole.offset g.bytes (sym of.chunk ∙ held) of.offset in
    let long : length put ≡ length now = length_put_here earlier old place hole.offset v four here in
    let total : length (bytes_of before) ≡ length (flat open_length (level ∷ outer ∷ others)) = long_bytes patches g.first earlier old (level ∷ outer ∷ others) g.bytes in
    let as_long : length (bytes_of before) ≡ length (bytes_of after) = omega (arith, length_bytes-one earlier old, length_bytes-one earlier new, long) in
    let kept_long : length (flat open_length (level ∷ outer ∷ others)) ≡ length (flat open_length ((outer ++ v ++ level) ∷ others)) = sym (length_flat_closed v level outer others four) in
    let same : SamePlacesBelow (length (bytes_of before)) before after = same_grown earlier old new refl refl (omega (arith, long)) in
    let last : last_chunk before ≡ last_chunk after = last_chunk-one earlier old ∙ sym (last_chunk-one earlier new) in
    let inner : open_places (outer ∷ others) ≡ open_places ((outer ++ v ++ level) ∷ others) = open_places-innermost outer (outer ++ v ++ level) others in
    let sent_same : sent_now before text.closed ≡ sent_now after text.closed =
    sent_now-same text.closed (length (bytes_of before)) before after (subst (λ (n : ℕ). AllEndWithin n text.closed) (sym total) g.closed_in) same in
    let left : zero_patches before (place ∷ open_places (outer ∷ others)) ≡ zero_patches after (open_places ((outer ++ v ++ level) ∷ others)) =
    zero_patches-here before place (open_places (outer ∷ others)) (sym of.chunk ∙ held ∙ sym (last_chunk-one earlier old))
    ∙ zero_patches-same (open_places (outer ∷ others)) (length (bytes_of before)) before after (below-standing (open_places (outer ∷ others)) before g.bytes.stand.1) same last
    ∙ ap (zero_patches after) inner in
    let all : zero_patches before (open_in before text) ≡ zero_patches after (open_in after text) =
    zero_patches-same (open_in before text) (length (bytes_of before)) before after (below-inside (open_places text.levels) (length (bytes_of before))) same last
    ∙ ap (λ (n : ℕ). zero_patches after (inside n (open_places text.levels))) as_long in
    let sent : List SentPatch = all_sent (kept_of older) (chains_before pages continues done) in
    record {
      extra = g.extra;
      lost = g.lost;
      kept = g.kept;
      first = g.first;
      first_offset = g.first_offset;
      begins_at = begins_at-grown earlier old new g.first g.first_offset refl refl g.begins_at;
      bytes = bytes_alike patches (patches_so_far pages holes unsent) g.first earlier new ((outer ++ v ++ level) ∷ others) (so_far_alike pages (hole ∷ holes) holes unsent)
          (bytes_here patches g.first earlier old new level outer v others four here.behind refl (ap (λ (n : ℕ). with_bytes now n v) here.place_is) long g.bytes);
      earlier_run_on = g.earlier_run_on;
      sends = sends_here pages ((sent ++ sent_now after text.closed) ++ g.extra) unsent (hole_chunks holes)
          (subst (λ (ss : List SentPatch). HasSent pages ((sent ++ ss) ++ g.extra) unsent (length pages ∷ hole_chunks holes)) sent_same
          (subst (λ (n : ℕ). HasSent pages ((sent ++ sent_now before text.closed) ++ g.extra) unsent (n ∷ hole_chunks holes)) held g.sends));
      holes_are = of.rest ∙ holes-same (open_places (outer ∷ others)) before after g.bytes.stand.1 same ∙ ap (map (hole_at after)) inner;
      extra_is = ap (λ (ss : List SentPatch). g.extra ++ ss) (sym left) ∙ g.extra_is ∙ all;
      closed_in = subst (λ (n : ℕ). AllEndWithin n text.closed) kept_long g.closed_in;
      clear = subst (λ (n : ℕ). AllClearOf n (open_places text.levels)) kept_long g.clear;
      zeros_are = g.zeros_are ∙ ap (λ (xs : List ℕ). xs ++ g.lost) (sym (flat_ended v v level outer others));
      proper = g.proper;
      ends = g.ends;
      four = so_far_marked pages (hole ∷ holes) holes unsent g.four;
      begins = begins_well-same size packet packet older (current_chain pages continues done now) (current_chain pages continues done put)
          (chains_before pages continues done) g.kept g.kept refl (start_of-same earlier old new refl) g.begins;
      older_chains = chains-alike (kept_of older) (chains_before pages continues done) size patches (patches_so_far pages holes unsent)
          (so_far_alike pages (hole ∷ holes) holes unsent) g.older_chains;
      older_begin = g.older_begin;
      older_end = g.older_end;
      goes_on = g.goes_on;
      lengths = subst (λ (n : ℕ). IsTrue (list_all (is_in_one after) (inside n (open_places text.levels)))) as_long
          (sym (in_one-same (open_places text.levels) (length (bytes_of before)) before after same) ∙ g.lengths);
      large = g.large;
      full = g.full;
      flags = g.flags;
      continues_is = g.continues_is;
    }

-- it is in an earlier chunk: its patch is kept
pub giving_later : (size : ℕ) (packet : Packet) (older : List Packet) (pages : List Page) (continues : Bool) (done : List (List ℕ)) (now : List ℕ)
    (unsent : List Patch) (hole : Hole) (holes : List Hole) (text : Text) (level outer : List ℕ) (others : List (List ℕ)) → hole.chunk_id ≢ length pages
    → IsGivingUp size packet older pages continues done now unsent (hole ∷ holes) text level (outer ∷ others)
    → IsGivingUp size packet older pages continues done now (unsent ++ patch_for hole 0 ∷ []) holes text (outer ++ redundant 0 ++ level) others
giving_later size packet older pages continues done now unsent hole holes text level outer others apart g =
    let v : List ℕ = redundant 0 in
    let patch : Patch = patch_for hole 0 in
    let earlier : List Piece = earlier_pieces pages continues done in
    let piece : Piece = current_piece pages done now in
    let pieces : List Piece = earlier ++ piece ∷ [] in
    let patches : List Patch = patches_so_far pages (hole ∷ holes) unsent in
    let more : List Patch = patches_so_far pages holes (unsent ++ patch ∷ []) in
    let later : SettleLater patches patch more = so_far_later pages (hole ∷ holes) holes unsent patch in
    let place : ℕ = length (flat open_length (outer ∷ others)) in
    let four : length v ≡ 4 = length-redundant 0 in
    let of : Holes pieces hole holes outer others = holes_from pieces hole holes level outer others g.holes_are in
    let there : StandsEarlier earlier piece place hole.chunk_id hole.offset =
    stands_earlier patches g.first earlier piece level outer others hole.chunk_id hole.offset g.bytes of.chunk of.offset apart in
    let kept_long : length (flat open_length (level ∷ outer ∷ others)) ≡ length (flat open_length ((outer ++ v ++ level) ∷ others)) = sym (length_flat_closed v level outer others four) in
    let inner : open_places (outer ∷ others) ≡ open_places ((outer ++ v ++ level) ∷ others) = open_places-innermost outer (outer ++ v ++ level) others in
    let last : last_chunk pieces ≡ length pages = last_chunk-one earlier piece in
    let one : sent_at_drop pieces place ≡ as_sent (length pages) patch =
    let chunk : chunk_at pieces place ≡ hole.chunk_id = sym of.chunk in
    let offset : offset_at pieces place ≡ hole.offset = sym of.offset in
    cc in
    let left : zero_patches pieces (place ∷ open_places (outer ∷ others)) ≡ as_sent (length pages) patch ∷ zero_patches pieces (open_places ((outer ++ v ++ level) ∷ others)) =
    zero_patches-earlier pieces place (open_places (outer ∷ others)) (λ e. apart (of.chunk ∙ e ∙ last))
    ∙ ap (λ (s : SentPatch). s ∷ zero_patches pieces (open_places (outer ∷ others))) one
    ∙ ap (λ (places : List ℕ). as_sent (length pages) patch ∷ zero_patches pieces places) inner in
    let sent : List SentPatch = all_sent (kept_of older) (chains_before pages continues done) ++ sent_now pieces text.closed in
    let placed : IsTrue (is_placed pages patch) =
    placed_earlier earlier pages (sent_chunks (sent ++ g.extra) ++ hole_chunks (hole ∷ holes)) place patch g.sends.awaits g.earlier_run_on there.stands there.chunk there.place_is four
    (is_among-here hole.chunk_id (sent_chunks (sent ++ g.extra)) (hole_chunks holes)) in
    let behind : StandsBehind g.first g.first_offset patch =
    stands_behind-begin pieces g.first g.first_offset place patch g.begins_at (follows_bytes patches g.first earlier piece (level ∷ outer ∷ others) g.bytes) g.bytes.stand.0 of.chunk of.offset in
    record {
      extra = g.extra ++ as_sent (length pages) patch ∷ [];
      lost = g.lost;
      kept = g.kept;
      first = g.first;
      first_offset = g.first_offset;
      begins_at = g.begins_at;
      bytes = bytes_later patches patch more g.first earlier piece level outer v others later g.four four refl there.stands there.chunk there.place_is g.bytes;
      earlier_run_on = g.earlier_run_on;
      sends = subst (λ (ss : List SentPatch). HasSent pages ss (unsent ++ patch ∷ []) (hole_chunks holes)) (append_assoc sent g.extra (as_sent (length pages) patch ∷ []))
          (sends_later pages (sent ++ g.extra) unsent (hole_chunks holes) patch there.lower placed g.sends);
      holes_are = of.rest ∙ ap (map (hole_at pieces)) inner;
      extra_is = append_assoc g.extra (as_sent (length pages) patch ∷ []) (zero_patches pieces (open_places ((outer ++ v ++ level) ∷ others)))
          ∙ ap (λ (ss : List SentPatch). g.extra ++ ss) (sym left)
          ∙ g.extra_is;
      closed_in = subst (λ (n : ℕ). AllEndWithin n text.closed) kept_long g.closed_in;
      clear = subst (λ (n : ℕ). AllClearOf n (open_places text.levels)) kept_long g.clear;
      zeros_are = g.zeros_are ∙ ap (λ (xs : List ℕ). xs ++ g.lost) (sym (flat_ended v v level outer others));
      proper = g.proper;
      ends = g.ends;
      four = so_far_four pages (hole ∷ holes) holes unsent (patch ∷ []) (four, tt) g.four;
      begins = g.begins;
      older_chains = chains-later (kept_of older) (chains_before pages continues done) size patches patch more g.first g.first_offset later g.four behind g.older_end g.older_chains;
      older_begin = g.older_begin;
      older_end = g.older_end;
      goes_on = g.goes_on;
      lengths = g.lengths;
      large = g.large;
      full = g.full;
      flags = g.flags;
      continues_is = g.continues_is;
    }
