-- A packet whose last fragment ran on waits for a chunk: its pages are a cut as they are.
use Rattle.std.proofs.Common.{not, ◌&&◌, ◌||◌, ◌⊎◌, ◌+◌, ◌<◌, None, MatchOption, MatchBool, filter, nat_le, ⊎_elim, ◌≡◌, ◌∙◌, ℕ, Bool, true, false, IsTrue, List, [], ◌∷◌, ◌++◌, map, length, Option, is_some, unwrap_or, cond, refl, sym, ap, subst, arith, append-nil}
use Rattle.std.specs.List.{AllZip, list_all}
use Rattle.std.proofs.lemmas.Bool.{and_from, and_right, lt-leb, true≢false}
use Rattle.std.proofs.lemmas.List.Elements.{filter-append}
use Rattle.std.proofs.lemmas.Simd.{map-map}
use Rattle.trace_model.specs.Images.{Patch}
use Rattle.trace_model.specs.Packets.{Packet, Text, NestedLength, flat, open_length, open_places, body_of, kept_of, is_lost, is_writing}
use Rattle.trace_model.specs.Pages.{Page, patches_of}
use Rattle.trace_model.specs.Row.{Piece, Chain, Fate, Whole, Marked, IntoLost, CutOff, Open, bytes_of}
use Rattle.trace_model.specs.RowLaws.{is_open}
use Rattle.trace_model.specs.Sequences.{is_among}
use Rattle.trace_model.specs.Sent.{SentPatch, text_of, all_sent, chunk_at, open_in, is_in_one}
use Rattle.trace_model.specs.Cut.{IsWellFormedPage, Begins, IsGivenUp, AreBytesOf, left_behind, last_runs_on, newest_goes_on, length_places, all_end_well, begins_well, all_begin_well, is_marked_fate}
use Rattle.commit_body.specs.declared.hole.Hole.{Hole}
use Rattle.commit_body.specs.Patches.{hole_chunks, with_lasts}
use Rattle.cut_steps.specs.RawChains.{earlier_pieces, chains_before, current_piece, current_chain}
use Rattle.cut_steps.specs.RawCut.{IsRawChainOf, CutsRaw}
use Rattle.cut_steps.specs.Pieces.{AllStandIn}
use Rattle.cut_steps.specs.Pending.{sent_now, hole_at, patches_so_far, AllEndWithin}
use Rattle.cut_steps.specs.Growth.{settled_bytes}
use Rattle.cut_steps.specs.GoesOn.{GoesOn, AllFrom}
use Rattle.cut_steps.specs.Writing.{IsWriting}
use Rattle.cut_steps.proofs.ChainLemmas.{RunsOnOut, runs_on_out, start-is}
use Rattle.cut_steps.proofs.GrowingPlaces.{length_bytes-one, same_more, stands-earlier, holes-same, sent_now-same}
use Rattle.cut_steps.proofs.Growing.{long_bytes}
use Rattle.cut_steps.proofs.Places.{stands_within}
use Rattle.cut_steps.proofs.Sealing.{open_in-all, sent_of-kept, open_chunks-kept, sent_by_now, IsSealed, sealed_cut}
use Rattle.cut_steps.proofs.StrictPieces.{lengths_in_one}
use Rattle.cut_steps.proofs.RunningOn.{writing_run_on}
use Rattle.cut_steps.proofs.StepLemmas.{begins_well-same, last_runs_on-one, all_end_well-more, is_among-of_append, is_among-left, is_among-right}

-- The packet's bytes

-- it goes on behind those that stand there
are_bytes-part : (packet : Packet) (bytes : List ℕ) → packet.given_up ≡ None → packet.finished ≡ false → Begins bytes (body_of packet) → AreBytesOf packet bytes
are_bytes-part packet bytes given unfinished begins =
    subst (λ (o : Option Text). MatchOption o (MatchBool packet.finished (bytes ≡ body_of packet) (Begins bytes (body_of packet))) (IsGivenUp bytes)) (sym given)
    (subst (λ (b : Bool). MatchBool b (bytes ≡ body_of packet) (Begins bytes (body_of packet))) (sym unfinished) begins)

none_inside : (further : List ℕ) (count : ℕ) → AllFrom count further → filter (λ at. nat_le (at + 4) count) further ≡ []
none_inside [] count h = refl
none_inside (n ∷ further) count h =
    ap (λ (b : Bool). cond b (n ∷ filter (λ at. nat_le (at + 4) count) further) (filter (λ at. nat_le (at + 4) count) further)) (lt-leb (n + 4) count (omega (arith, h.0)))
    ∙ none_inside further count h.1

-- lengths behind its bytes don't stand in its pieces
open_in-further : (pieces : List Piece) (standing packet : Packet) (coming : List ℕ) → GoesOn standing packet coming
    → length (bytes_of pieces) ≡ length (flat open_length standing.text.levels)
    → open_in pieces packet.text ≡ open_in pieces standing.text
open_in-further pieces standing packet coming g long =
    let count : ℕ = length (bytes_of pieces) in
    ap (filter (λ at. nat_le (at + 4) count)) g.places
    ∙ filter-append (λ at. nat_le (at + 4) count) g.further (open_places standing.text.levels)
    ∙ ap (λ (ns : List ℕ). ns ++ open_in pieces standing.text) (none_inside g.further count (subst (λ (n : ℕ). AllFrom n g.further) (sym long) g.behind))

more_among : (n : ℕ) (standing packet : Packet) (coming : List ℕ) → GoesOn standing packet coming
    → IsTrue (is_among n (coming ++ length_places standing.text)) → IsTrue (is_among n (length_places packet.text))
more_among n standing packet coming g h =
    let ended : List ℕ = map (λ (nested : NestedLength). nested.at) standing.text.closed in
    let inner : List ℕ = open_places standing.text.levels in
    let whole : length_places packet.text ≡ ended ++ (g.further ++ inner) =
    ap (λ (ls : List NestedLength). map (λ (nested : NestedLength). nested.at) ls ++ open_places packet.text.levels) g.closed
    ∙ ap (λ (ns : List ℕ). ended ++ ns) g.places in
    let from_ended : IsTrue (is_among n (ended ++ inner)) → IsTrue (is_among n (ended ++ (g.further ++ inner))) = λ k.
    ⊎_elim (is_among-left n ended (g.further ++ inner))
    (λ i. is_among-right n ended (g.further ++ inner) (is_among-right n g.further inner i)) (is_among-of_append n ended inner k) in
    ap (is_among n) whole
    ∙ ⊎_elim (λ k. is_among-right n ended (g.further ++ inner) (is_among-left n g.further inner (g.come n k))) from_ended
    (is_among-of_append n coming (ended ++ inner) h)

-- the packet is neither lost nor finished
goes_on : (packet : Packet) (older : List Packet) → packet.kept ≡ true → packet.given_up ≡ None → packet.finished ≡ false → newest_goes_on (packet ∷ older) ≡ true
goes_on packet older k n f =
    ap (λ (b : Bool). not (not b || is_some packet.given_up) && not packet.finished) k
    ∙ ap (λ (o : Option Text). not (false || is_some o) && not packet.finished) n
    ∙ ap (λ (b : Bool). true && not b) f

-- The newest chain

unmarked : (fate : Fate) → is_open fate ≡ true → is_marked_fate fate ≡ false
unmarked Whole h = refl
unmarked Marked h = absurd (true≢false (sym h))
unmarked IntoLost h = refl
unmarked CutOff h = refl
unmarked Open h = refl

all_stand-earlier : (places : List ℕ) (earlier : List Piece) (piece : Piece) → length (bytes_of (earlier ++ piece ∷ [])) ≡ length (bytes_of earlier)
    → AllStandIn (earlier ++ piece ∷ []) places → AllStandIn earlier places
all_stand-earlier [] earlier piece e h = tt
all_stand-earlier (at ∷ places) earlier piece e h =
    (stands-earlier earlier piece at (omega (arith, e, stands_within (earlier ++ piece ∷ []) at h.0)) h.0, all_stand-earlier places earlier piece e h.1)

stalled_sealed : (size : ℕ) (packet later : Packet) (older : List Packet) (pages : List Page) (holes : List Hole) (coming : List ℕ)
    (w : IsWriting size packet older pages true [] [] [] holes coming) → GoesOn packet later coming → (r : RunsOnOut pages)
    → IsSealed size later older pages (patches_of pages) (hole_chunks holes) (sent_by_now packet older pages true [] [])
    (record r.chain { pieces = earlier_pieces pages true [] } ∷ chains_before pages true [])
stalled_sealed size packet later older pages holes coming w g r =
    let earlier : List Piece = earlier_pieces pages true [] in
    let before : List Chain = chains_before pages true [] in
    let current : Piece = current_piece pages [] [] in
    let pieces : List Piece = earlier ++ current ∷ [] in
    let chain : Chain = record r.chain { pieces = earlier } in
    let unfinished : Chain = current_chain pages true [] [] in
    let levels : List (List ℕ) = w.level ∷ w.outer in
    let no_more : length (bytes_of pieces) ≡ length (bytes_of earlier) = length_bytes-one earlier current ∙ omega arith in
    let whole : length (bytes_of earlier) ≡ length (flat open_length levels) =
    sym no_more ∙ long_bytes (patches_so_far pages holes []) w.first earlier current levels w.bytes in
    let long : length (bytes_of earlier) ≡ length (flat open_length packet.text.levels) = whole ∙ ap (λ (ls : List (List ℕ)). length (flat open_length ls)) (sym w.levels) in
    let stand : AllStandIn earlier (open_places levels) = all_stand-earlier (open_places levels) earlier current no_more w.bytes.stand in
    let is_kept : later.kept ≡ true = g.kept ∙ w.kept in
    let text : text_of later ≡ later.text = ap (λ (o : Option Text). unwrap_or o later.text) g.given_up in
    let so_far : patches_so_far pages holes [] ≡ patches_of pages = append-nil (patches_of pages) in
    let bytes : settled_bytes (patches_of pages) earlier ≡ flat open_length packet.text.levels =
    ap (λ (ps : List Patch). settled_bytes ps earlier) (sym so_far)
    ∙ sym (append-nil (settled_bytes (patches_so_far pages holes []) earlier))
    ∙ w.bytes.exact
    ∙ ap (flat open_length) (sym w.levels) in
    let standing : open_in earlier later.text ≡ open_places levels =
    open_in-further earlier packet later coming g long
    ∙ open_in-all earlier packet.text (subst (λ (ls : List (List ℕ)). AllStandIn earlier (open_places ls)) (sym w.levels) stand)
    ∙ ap open_places w.levels in
    let newest : IsRawChainOf size (patches_of pages) later chain = record {
      marked = unmarked r.chain.fate r.open_end ∙ sym (ap (λ (o : Option Text). is_some o) g.given_up);
      bytes = subst (AreBytesOf later) (sym bytes) (are_bytes-part later (flat open_length packet.text.levels) g.given_up g.finished g.bytes);
      ends = subst (λ (t : Text). IsTrue (all_end_well size (length_places t) 0 earlier)) (sym text)
          (all_end_well-more earlier size (coming ++ length_places packet.text) (length_places later.text) 0 (λ n. more_among n packet later coming g) w.ends);
      goes_on = w.goes_on;
      lengths = subst (λ (t : Text). IsTrue (list_all (is_in_one earlier) (open_in earlier t))) (sym text)
          (lengths_in_one earlier later.text (open_places levels) standing stand);
    } in
    record {
      raw = r.raw;
      kept = ap (λ (b : Bool). cond b (later ∷ kept_of older) (kept_of older)) is_kept;
      chains_are = (newest, subst (λ (ps : List Patch). AllZip (IsRawChainOf size ps) (kept_of older) before) so_far w.older_chains);
      sent_is = ap (λ (xs : List SentPatch). all_sent (kept_of older) before ++ xs)
          (sent_of-kept later chain g.given_up ∙ ap (sent_now earlier) g.closed
          ∙ sent_now-same packet.text.closed (length (bytes_of earlier)) earlier pieces
          (subst (λ (n : ℕ). AllEndWithin n packet.text.closed) (sym whole) w.closed_in) (same_more earlier (current ∷ [])));
      open_is = open_chunks-kept later (kept_of older) chain before g.given_up
          ∙ ap (map (chunk_at earlier)) standing
          ∙ sym (map-map (λ (hole : Hole). hole.chunk_id) (hole_at earlier) (open_places levels))
          ∙ ap hole_chunks (holes-same (open_places levels) earlier pieces stand (same_more earlier (current ∷ [])) ∙ sym w.holes_are);
      begins = and_from (begins_well size later older (chain ∷ before)) (all_begin_well size older (cond later.kept before (chain ∷ before)))
          (begins_well-same size packet later older unfinished chain before w.kept is_kept (sym g.follows_flush) (start-is r.chain.at earlier current r.starts) w.begins)
          (subst (λ (b : Bool). IsTrue (all_begin_well size older (cond b before (chain ∷ before)))) (sym is_kept) w.older_begin);
    }

-- The packet ran on, and no byte stands in a next chunk: the pages alone are a cut.
pub stalled_cut : (size : ℕ) (packet later : Packet) (older : List Packet) (pages : List Page) (holes : List Hole) (coming : List ℕ)
    → IsWriting size packet older pages true [] [] [] holes coming → GoesOn packet later coming → CutsRaw size (later ∷ older) pages
stalled_cut size packet later older pages holes coming w g =
    let r : RunsOnOut pages = runs_on_out size pages w.full w.flags w.continues_is in
    sealed_cut size later older pages (hole_chunks holes) (sent_by_now packet older pages true [] [])
    (record r.chain { pieces = earlier_pieces pages true [] } ∷ chains_before pages true [])
    (stalled_sealed size packet later older pages holes coming w g r) w.full w.flags (λ e. goes_on later older (g.kept ∙ w.kept) g.given_up g.finished) w.sends

-- and the last of them runs on, as the packet goes on
pub stalled_runs : (size : ℕ) (packet later : Packet) (older : List Packet) (pages : List Page) (holes : List Hole) (coming : List ℕ)
    → IsWriting size packet older pages true [] [] [] holes coming → GoesOn packet later coming → last_runs_on false pages ≡ newest_goes_on (later ∷ older)
stalled_runs size packet later older pages holes coming w g =
    sym w.continues_is ∙ sym (goes_on later older (g.kept ∙ w.kept) g.given_up g.finished)

-- between two packets no packet goes on, and no last page runs on
pub idle_runs : (packets : List Packet) (pages : List Page) → is_writing packets ≡ false → last_runs_on false pages ≡ false
    → last_runs_on false pages ≡ newest_goes_on packets
idle_runs [] pages between stays = stays
idle_runs (packet ∷ older) pages between stays = stays ∙ sym (and_right (not (is_lost packet)) (not packet.finished) between)

-- the same where the page was just completed
pub writing_stalled_cut : (size : ℕ) (packet later : Packet) (older : List Packet) (pages : List Page) (q : Page) (done : List (List ℕ)) (now : List ℕ)
    (unsent : List Patch) (holes : List Hole) (coming : List ℕ)
    → q.fragments ≡ done ++ now ∷ [] → q.runs_on ≡ true → IsWellFormedPage size q
    → q.patches ≡ with_lasts (hole_chunks holes) unsent → q.awaits ≡ is_among (length pages) (hole_chunks holes)
    → (left_behind size (current_piece pages done now) ≡ 0)
    ⊎ ((left_behind size (current_piece pages done now) < 4) × IsTrue (is_among (length (body_of packet)) (coming ++ length_places packet.text)))
    → IsWriting size packet older pages q.continues done now unsent holes coming → GoesOn packet later coming
    → CutsRaw size (later ∷ older) (pages ++ q ∷ [])
writing_stalled_cut size packet later older pages q done now unsent holes coming fragments runs full brings awaits left w g =
    stalled_cut size packet later older (pages ++ q ∷ []) holes coming
    (writing_run_on size packet older pages q done now unsent holes coming fragments runs full brings awaits left w) g

-- a page that was just completed runs on, and the packet goes on
pub writing_stalled_runs : (size : ℕ) (packet later : Packet) (older : List Packet) (pages : List Page) (q : Page) (done : List (List ℕ)) (now : List ℕ)
    (unsent : List Patch) (holes : List Hole) (coming : List ℕ) → q.runs_on ≡ true
    → IsWriting size packet older pages q.continues done now unsent holes coming → GoesOn packet later coming
    → last_runs_on false (pages ++ q ∷ []) ≡ newest_goes_on (later ∷ older)
writing_stalled_runs size packet later older pages q done now unsent holes coming runs w g =
    last_runs_on-one pages false q ∙ runs ∙ sym (goes_on later older (g.kept ∙ w.kept) g.given_up g.finished)
