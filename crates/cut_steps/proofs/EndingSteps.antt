-- A message of the packet that is written ends: its length stands in the held chunk, or in an earlier one.
use Rattle.std.proofs.Common.{◌≡◌, ◌≢◌, ◌∙◌, ℕ, ◌+◌, ◌-◌, ◌<◌, ◌≤◌, true, List, [], ◌∷◌, ◌++◌, length, map, refl, sym, ap, subst, arith, append_assoc, length-append, Bool}
use Rattle.std.specs.Prelude.{IsTrue}
use Rattle.wire_varint.specs.Varint.{redundant}
use Rattle.wire_varint.proofs.Lengths.{length-redundant}
use Rattle.trace_model.specs.Images.{Patch, with_bytes}
use Rattle.trace_model.specs.Packets.{Packet, NestedLength, flat, open_length, open_places, closed_levels, with_nested_ended, kept_of}
use Rattle.trace_model.specs.Pages.{Page}
use Rattle.trace_model.specs.Row.{Piece, bytes_of}
use Rattle.trace_model.specs.Sent.{SentPatch, as_sent, sent_for, all_sent, chunk_at, offset_at, crosses, is_placed}
use Rattle.trace_model.specs.Cut.{all_end_well}
use Rattle.commit_body.specs.declared.hole.Hole.{Hole}
use Rattle.commit_body.specs.Patches.{hole_chunks}
use Rattle.commit_body.specs.Pending.{patch_for}
use Rattle.cut_steps.specs.RawChains.{earlier_pieces, chains_before, current_piece, current_pieces, current_chain, offset_behind}
use Rattle.cut_steps.specs.Pending.{HasSent, sent_now, sent_chunks, hole_at, patches_so_far, AllEndWithin}
use Rattle.cut_steps.specs.Growth.{HasBytes}
use Rattle.cut_steps.specs.Writing.{IsWriting}
use Rattle.cut_steps.proofs.Places.{length_flat_closed, open_places-innermost}
use Rattle.cut_steps.proofs.GrowingPlaces.{SamePlacesBelow, same_grown, holes-same, sent_now-same, sent_now-crossing, sent_now-inside, ends_later, ends_here, crosses-later, length_bytes-one}
use Rattle.cut_steps.proofs.Sending.{sends_here, sends_later}
use Rattle.cut_steps.proofs.LaterPatches.{SettleLater, StandsBehind, so_far_alike, so_far_later, so_far_four, so_far_marked, chains-alike, chains-later, stands_behind-begin}
use Rattle.cut_steps.proofs.Growing.{long_bytes, follows_bytes, bytes_alike, bytes_here, bytes_later}
use Rattle.cut_steps.proofs.PlacedPatches.{placed_earlier, is_among-here}
use Rattle.cut_steps.proofs.OpenLengths.{StandsHere, StandsEarlier, stands_here, stands_earlier, length_put_here}
use Rattle.cut_steps.proofs.StepLemmas.{begins_at-grown, begins_well-same, start_of-same, within-one, length_places-ended}

-- the innermost hole and the others, where these are the open levels
pub record Holes (pieces : List Piece) (hole : Hole) (holes : List Hole) (outer : List ℕ) (others : List (List ℕ)) : Type 0 where
  pub chunk : hole.chunk_id ≡ chunk_at pieces (length (flat open_length (outer ∷ others)))
  pub offset : hole.offset ≡ offset_at pieces (length (flat open_length (outer ∷ others)))
  pub rest : holes ≡ map (hole_at pieces) (open_places (outer ∷ others))

pub holes_from : (pieces : List Piece) (hole : Hole) (holes : List Hole) (level outer : List ℕ) (others : List (List ℕ))
    → hole ∷ holes ≡ map (hole_at pieces) (open_places (level ∷ outer ∷ others)) → Holes pieces hole holes outer others
holes_from pieces hole holes level outer others are =
    let one : hole ≡ hole_at pieces (length (flat open_length (outer ∷ others))) = cc in
    record { chunk = ap (λ (h : Hole). h.chunk_id) one; offset = ap (λ (h : Hole). h.offset) one; rest = cc }

-- where a hole is open a message is open in another one
pub record Inner (outer : List (List ℕ)) : Type 0 where
  pub next : List ℕ
  pub others : List (List ℕ)
  pub is : outer ≡ next ∷ others

pub inner_of : (pieces : List Piece) (level : List ℕ) (outer : List (List ℕ)) (hole : Hole) (holes : List Hole)
    → hole ∷ holes ≡ map (hole_at pieces) (open_places (level ∷ outer)) → Inner outer
inner_of pieces level [] hole holes are = absurd (cc)
inner_of pieces level (next ∷ others) hole holes are = record { next = next; others = others; is = refl }

-- where none is open the packet's own level alone is
pub none_left : (pieces : List Piece) (level : List ℕ) (outer : List (List ℕ)) → [] ≡ map (hole_at pieces) (open_places (level ∷ outer)) → outer ≡ []
none_left pieces level [] are = refl
none_left pieces level (next ∷ others) are = absurd (cc)

pub record HasInner (levels : List (List ℕ)) : Type 0 where
  pub level : List ℕ
  pub outer : List ℕ
  pub others : List (List ℕ)
  pub is : levels ≡ level ∷ outer ∷ others

pub writing_inner : (size : ℕ) (packet : Packet) (older : List Packet) (pages : List Page) (continues : Bool) (done : List (List ℕ)) (now : List ℕ)
    (unsent : List Patch) (hole : Hole) (holes : List Hole) (coming : List ℕ)
    → IsWriting size packet older pages continues done now unsent (hole ∷ holes) coming → HasInner packet.text.levels
writing_inner size packet older pages continues done now unsent hole holes coming w =
    let inner : Inner w.outer = inner_of (current_pieces pages continues done now) w.level w.outer hole holes w.holes_are in
    record { level = w.level; outer = inner.next; others = inner.others; is = w.levels ∙ ap (λ (outer : List (List ℕ)). w.level ∷ outer) inner.is }

-- the packet once its innermost message has ended
abbrev ended : Packet → List ℕ → List ℕ → List (List ℕ) → Packet
ended packet level outer others = record packet {
  text = record {
    levels = (outer ++ redundant (length level) ++ level) ∷ others;
    closed = packet.text.closed ++ record { at = length (flat open_length (outer ∷ others)); size = length level } ∷ [];
  };
}

ended_is : (packet : Packet) (level outer : List ℕ) (others : List (List ℕ)) → packet.text.levels ≡ level ∷ outer ∷ others
    → with_nested_ended packet ≡ ended packet level outer others
ended_is packet level outer others levels =
    ap (λ (ls : List (List ℕ)). record packet { text = closed_levels ls packet.text.closed }) levels

-- the hole of a message that ends in the held chunk lies in its fragment
pub hole_stands_here : (size : ℕ) (packet : Packet) (older : List Packet) (pages : List Page) (continues : Bool) (done : List (List ℕ)) (now : List ℕ)
    (unsent : List Patch) (hole : Hole) (holes : List Hole) (coming : List ℕ) (level outer : List ℕ) (others : List (List ℕ))
    → packet.text.levels ≡ level ∷ outer ∷ others → hole.chunk_id ≡ length pages
    → IsWriting size packet older pages continues done now unsent (hole ∷ holes) coming
    → (offset_behind 4 done ≤ hole.offset) × (hole.offset + 4 ≤ offset_behind 4 done + length now)
hole_stands_here size packet older pages continues done now unsent hole holes coming level outer others levels held w =
    let earlier : List Piece = earlier_pieces pages continues done in
    let piece : Piece = current_piece pages done now in
    let patches : List Patch = patches_so_far pages (hole ∷ holes) unsent in
    let same_levels : w.level ∷ w.outer ≡ level ∷ outer ∷ others = sym w.levels ∙ levels in
    let bytes : HasBytes patches w.first earlier piece (level ∷ outer ∷ others) = subst (λ (ls : List (List ℕ)). HasBytes patches w.first earlier piece ls) same_levels w.bytes in
    let of : Holes (earlier ++ piece ∷ []) hole holes outer others =
    holes_from (earlier ++ piece ∷ []) hole holes level outer others (w.holes_are ∙ ap (λ (ls : List (List ℕ)). map (hole_at (earlier ++ piece ∷ [])) (open_places ls)) same_levels) in
    let here : StandsHere earlier piece (length (flat open_length (outer ∷ others))) hole.offset =
    stands_here patches w.first earlier piece level outer others hole.offset bytes (sym of.chunk ∙ held) of.offset in
    (here.low, here.high)

-- a message ends whose length is in the held chunk
pub writing_ended_here : (size : ℕ) (packet : Packet) (older : List Packet) (pages : List Page) (continues : Bool) (done : List (List ℕ)) (now : List ℕ)
    (unsent : List Patch) (hole : Hole) (holes : List Hole) (coming : List ℕ) (level outer : List ℕ) (others : List (List ℕ))
    → packet.text.levels ≡ level ∷ outer ∷ others → hole.chunk_id ≡ length pages
    → IsWriting size packet older pages continues done now unsent (hole ∷ holes) coming
    → IsWriting size (with_nested_ended packet) older pages continues done
    (with_bytes now (hole.offset - offset_behind 4 done) (redundant (length level))) unsent holes coming
writing_ended_here size packet older pages continues done now unsent hole holes coming level outer others levels held w =
    let v : List ℕ = redundant (length level) in
    let put : List ℕ = with_bytes now (hole.offset - offset_behind 4 done) v in
    let earlier : List Piece = earlier_pieces pages continues done in
    let old : Piece = current_piece pages done now in
    let new : Piece = current_piece pages done put in
    let before : List Piece = earlier ++ old ∷ [] in
    let after : List Piece = earlier ++ new ∷ [] in
    let patches : List Patch = patches_so_far pages (hole ∷ holes) unsent in
    let place : ℕ = length (flat open_length (outer ∷ others)) in
    let nested : NestedLength = record { at = place; size = length level } in
    let closed : List NestedLength = packet.text.closed in
    let four : length v ≡ 4 = length-redundant (length level) in
    let same_levels : w.level ∷ w.outer ≡ level ∷ outer ∷ others = sym w.levels ∙ levels in
    let bytes : HasBytes patches w.first earlier old (level ∷ outer ∷ others) = subst (λ (ls : List (List ℕ)). HasBytes patches w.first earlier old ls) same_levels w.bytes in
    let of : Holes before hole holes outer others =
    holes_from before hole holes level outer others (w.holes_are ∙ ap (λ (ls : List (List ℕ)). map (hole_at before) (open_places ls)) same_levels) in
    let here : StandsHere earlier old place hole.offset = stands_here patches w.first earlier old level outer others hole.offset bytes (sym of.chunk ∙ held) of.offset in
    let long : length put ≡ length now = length_put_here earlier old place hole.offset v four here in
    let total : length (bytes_of before) ≡ length (flat open_length (level ∷ outer ∷ others)) = long_bytes patches w.first earlier old (level ∷ outer ∷ others) bytes in
    let whole : length (flat open_length (level ∷ outer ∷ others)) ≡ place + 4 + length level =
    length-append (flat open_length (outer ∷ others) ++ open_length) level ∙ ap (λ (n : ℕ). n + length level) (length-append (flat open_length (outer ∷ others)) open_length) in
    let kept_long : length (flat open_length ((outer ++ v ++ level) ∷ others)) ≡ length (flat open_length (level ∷ outer ∷ others)) = length_flat_closed v level outer others four in
    let within : AllEndWithin (length (flat open_length (level ∷ outer ∷ others))) closed = subst (λ (ls : List (List ℕ)). AllEndWithin (length (flat open_length ls)) closed) same_levels w.closed_in in
    let same : SamePlacesBelow (length (bytes_of before)) before after = same_grown earlier old new refl refl (omega (arith, long)) in
    let sent_same : sent_now before closed ≡ sent_now after (closed ++ nested ∷ []) =
    sent_now-same closed (length (bytes_of before)) before after (subst (λ (n : ℕ). AllEndWithin n closed) (sym total) within) same
    ∙ sym (sent_now-inside after closed nested
    (ends_here earlier new nested here.behind (omega (arith, length_bytes-one earlier old, length_bytes-one earlier new, total, whole, long)))) in
    subst (λ (p : Packet). IsWriting size p older pages continues done put unsent holes coming) (sym (ended_is packet level outer others levels))
    (record {
      kept = w.kept;
      given_up = w.given_up;
      finished = w.finished;
      level = outer ++ v ++ level;
      outer = others;
      levels = refl;
      first = w.first;
      first_offset = w.first_offset;
      begins_at = begins_at-grown earlier old new w.first w.first_offset refl refl w.begins_at;
      bytes = bytes_alike patches (patches_so_far pages holes unsent) w.first earlier new ((outer ++ v ++ level) ∷ others) (so_far_alike pages (hole ∷ holes) holes unsent)
          (bytes_here patches w.first earlier old new level outer v others four here.behind refl (ap (λ (n : ℕ). with_bytes now n v) here.place_is) long bytes);
      earlier_run_on = w.earlier_run_on;
      sends = sends_here pages (all_sent (kept_of older) (chains_before pages continues done) ++ sent_now after (closed ++ nested ∷ [])) unsent (hole_chunks holes)
          (subst (λ (sent : List SentPatch). HasSent pages (all_sent (kept_of older) (chains_before pages continues done) ++ sent) unsent (length pages ∷ hole_chunks holes)) sent_same
          (subst (λ (n : ℕ). HasSent pages (all_sent (kept_of older) (chains_before pages continues done) ++ sent_now before closed) unsent (n ∷ hole_chunks holes)) held w.sends));
      holes_are = of.rest ∙ holes-same (open_places (outer ∷ others)) before after bytes.stand.1 same
          ∙ ap (map (hole_at after)) (open_places-innermost outer (outer ++ v ++ level) others);
      closed_in = subst (λ (n : ℕ). AllEndWithin n (closed ++ nested ∷ [])) (sym kept_long)
          (within-one closed nested (length (flat open_length (level ∷ outer ∷ others))) within (omega (arith, whole)));
      ends = subst (λ (lengths : List ℕ). IsTrue (all_end_well size (coming ++ lengths) 0 earlier))
          (sym (ap (λ (places : List ℕ). map (λ (one : NestedLength). one.at) (closed ++ nested ∷ []) ++ places) (open_places-innermost (outer ++ v ++ level) outer others)
          ∙ length_places-ended closed nested (open_places (outer ∷ others))))
          (subst (λ (ls : List (List ℕ)). IsTrue (all_end_well size (coming ++ (map (λ (one : NestedLength). one.at) closed ++ open_places ls)) 0 earlier)) levels w.ends);
      four = so_far_marked pages (hole ∷ holes) holes unsent w.four;
      begins = begins_well-same size packet (ended packet level outer others) older (current_chain pages continues done now) (current_chain pages continues done put)
          (chains_before pages continues done) w.kept w.kept refl (start_of-same earlier old new refl) w.begins;
      older_chains = chains-alike (kept_of older) (chains_before pages continues done) size patches (patches_so_far pages holes unsent)
          (so_far_alike pages (hole ∷ holes) holes unsent) w.older_chains;
      older_begin = w.older_begin;
      older_end = w.older_end;
      goes_on = w.goes_on;
      large = w.large;
      full = w.full;
      flags = w.flags;
      continues_is = w.continues_is;
    })

-- a message ends whose length is in an earlier chunk: its patch is kept
pub writing_ended_later : (size : ℕ) (packet : Packet) (older : List Packet) (pages : List Page) (continues : Bool) (done : List (List ℕ)) (now : List ℕ)
    (unsent : List Patch) (hole : Hole) (holes : List Hole) (coming : List ℕ) (level outer : List ℕ) (others : List (List ℕ))
    → packet.text.levels ≡ level ∷ outer ∷ others → hole.chunk_id ≢ length pages → 0 < length now
    → IsWriting size packet older pages continues done now unsent (hole ∷ holes) coming
    → IsWriting size (with_nested_ended packet) older pages continues done now (unsent ++ patch_for hole (length level) ∷ []) holes coming
writing_ended_later size packet older pages continues done now unsent hole holes coming level outer others levels apart some w =
    let v : List ℕ = redundant (length level) in
    let patch : Patch = patch_for hole (length level) in
    let earlier : List Piece = earlier_pieces pages continues done in
    let piece : Piece = current_piece pages done now in
    let pieces : List Piece = earlier ++ piece ∷ [] in
    let patches : List Patch = patches_so_far pages (hole ∷ holes) unsent in
    let more : List Patch = patches_so_far pages holes (unsent ++ patch ∷ []) in
    let later : SettleLater patches patch more = so_far_later pages (hole ∷ holes) holes unsent patch in
    let place : ℕ = length (flat open_length (outer ∷ others)) in
    let nested : NestedLength = record { at = place; size = length level } in
    let closed : List NestedLength = packet.text.closed in
    let four : length v ≡ 4 = length-redundant (length level) in
    let same_levels : w.level ∷ w.outer ≡ level ∷ outer ∷ others = sym w.levels ∙ levels in
    let bytes : HasBytes patches w.first earlier piece (level ∷ outer ∷ others) = subst (λ (ls : List (List ℕ)). HasBytes patches w.first earlier piece ls) same_levels w.bytes in
    let of : Holes pieces hole holes outer others =
    holes_from pieces hole holes level outer others (w.holes_are ∙ ap (λ (ls : List (List ℕ)). map (hole_at pieces) (open_places ls)) same_levels) in
    let there : StandsEarlier earlier piece place hole.chunk_id hole.offset =
    stands_earlier patches w.first earlier piece level outer others hole.chunk_id hole.offset bytes of.chunk of.offset apart in
    let total : length (bytes_of pieces) ≡ length (flat open_length (level ∷ outer ∷ others)) = long_bytes patches w.first earlier piece (level ∷ outer ∷ others) bytes in
    let whole : length (flat open_length (level ∷ outer ∷ others)) ≡ place + 4 + length level =
    length-append (flat open_length (outer ∷ others) ++ open_length) level ∙ ap (λ (n : ℕ). n + length level) (length-append (flat open_length (outer ∷ others)) open_length) in
    let kept_long : length (flat open_length ((outer ++ v ++ level) ∷ others)) ≡ length (flat open_length (level ∷ outer ∷ others)) = length_flat_closed v level outer others four in
    let within : AllEndWithin (length (flat open_length (level ∷ outer ∷ others))) closed = subst (λ (ls : List (List ℕ)). AllEndWithin (length (flat open_length ls)) closed) same_levels w.closed_in in
    let end : chunk_at pieces (place + 3 + length level) ≡ length pages = ends_later earlier piece nested there.before (omega (arith, total, whole)) some in
    let crosses_it : crosses pieces nested ≡ true =
    crosses-later pieces nested (length pages) (omega (arith, of.chunk, there.lower)) end in
    let one : sent_for pieces nested ≡ as_sent (length pages) patch =
    let chunk : chunk_at pieces place ≡ hole.chunk_id = sym of.chunk in
    let offset : offset_at pieces place ≡ hole.offset = sym of.offset in
    cc in
    let before : List SentPatch = all_sent (kept_of older) (chains_before pages continues done) in
    let sent : (before ++ sent_now pieces closed) ++ as_sent (length pages) patch ∷ [] ≡ before ++ sent_now pieces (closed ++ nested ∷ []) =
    append_assoc before (sent_now pieces closed) (as_sent (length pages) patch ∷ [])
    ∙ ap (λ (s : SentPatch). before ++ (sent_now pieces closed ++ s ∷ [])) (sym one)
    ∙ ap (λ (ss : List SentPatch). before ++ ss) (sym (sent_now-crossing pieces closed nested crosses_it)) in
    let placed : IsTrue (is_placed pages patch) =
    placed_earlier earlier pages (sent_chunks (before ++ sent_now pieces closed) ++ hole_chunks (hole ∷ holes)) place patch w.sends.awaits w.earlier_run_on there.stands there.chunk there.place_is four
    (is_among-here hole.chunk_id (sent_chunks (before ++ sent_now pieces closed)) (hole_chunks holes)) in
    let behind : StandsBehind w.first w.first_offset patch =
    stands_behind-begin pieces w.first w.first_offset place patch w.begins_at (follows_bytes patches w.first earlier piece (level ∷ outer ∷ others) bytes) bytes.stand.0 of.chunk of.offset in
    subst (λ (p : Packet). IsWriting size p older pages continues done now (unsent ++ patch ∷ []) holes coming) (sym (ended_is packet level outer others levels))
    (record {
      kept = w.kept;
      given_up = w.given_up;
      finished = w.finished;
      level = outer ++ v ++ level;
      outer = others;
      levels = refl;
      first = w.first;
      first_offset = w.first_offset;
      begins_at = w.begins_at;
      bytes = bytes_later patches patch more w.first earlier piece level outer v others later w.four four refl there.stands there.chunk there.place_is bytes;
      earlier_run_on = w.earlier_run_on;
      sends = subst (λ (ss : List SentPatch). HasSent pages ss (unsent ++ patch ∷ []) (hole_chunks holes)) sent
          (sends_later pages (before ++ sent_now pieces closed) unsent (hole_chunks holes) patch there.lower placed w.sends);
      holes_are = of.rest ∙ ap (map (hole_at pieces)) (open_places-innermost outer (outer ++ v ++ level) others);
      closed_in = subst (λ (n : ℕ). AllEndWithin n (closed ++ nested ∷ [])) (sym kept_long)
          (within-one closed nested (length (flat open_length (level ∷ outer ∷ others))) within (omega (arith, whole)));
      ends = subst (λ (lengths : List ℕ). IsTrue (all_end_well size (coming ++ lengths) 0 earlier))
          (sym (ap (λ (places : List ℕ). map (λ (n : NestedLength). n.at) (closed ++ nested ∷ []) ++ places) (open_places-innermost (outer ++ v ++ level) outer others)
          ∙ length_places-ended closed nested (open_places (outer ∷ others))))
          (subst (λ (ls : List (List ℕ)). IsTrue (all_end_well size (coming ++ (map (λ (n : NestedLength). n.at) closed ++ open_places ls)) 0 earlier)) levels w.ends);
      four = so_far_four pages (hole ∷ holes) holes unsent (patch ∷ []) (four, tt) w.four;
      begins = begins_well-same size packet (ended packet level outer others) older (current_chain pages continues done now) (current_chain pages continues done now)
          (chains_before pages continues done) w.kept w.kept refl refl w.begins;
      older_chains = chains-later (kept_of older) (chains_before pages continues done) size patches patch more w.first w.first_offset later w.four behind w.older_end w.older_chains;
      older_begin = w.older_begin;
      older_end = w.older_end;
      goes_on = w.goes_on;
      large = w.large;
      full = w.full;
      flags = w.flags;
      continues_is = w.continues_is;
    })
