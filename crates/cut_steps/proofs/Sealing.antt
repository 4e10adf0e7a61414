-- While a packet is written its pages are a cut, with the held chunk as the last of them.
use Rattle.std.proofs.Common.{◌≡◌, ◌∙◌, ℕ, ◌+◌, ◌==◌, Bool, true, false, not, ◌&&◌, ◌||◌, nat_lt, nat_le, IsTrue, List, [], ◌∷◌, ◌++◌, map, filter, length, All, Option, None, is_some, unwrap_or, MatchOption, MatchBool, cond, refl, sym, ap, subst, append-nil}
use Rattle.std.specs.List.{AllZip, list_all}
use Rattle.std.proofs.lemmas.Bool.{and_from, le-leb, true≢false}
use Rattle.std.proofs.lemmas.List.{map-append}
use Rattle.std.proofs.lemmas.List.Elements.{All-push}
use Rattle.std.proofs.lemmas.Simd.{map-map}
use Rattle.trace_model.specs.Images.{Patch}
use Rattle.trace_model.specs.Packets.{Packet, Text, flat, open_length, open_places, body_of, kept_of}
use Rattle.trace_model.specs.Pages.{Page, patches_of}
use Rattle.trace_model.specs.Row.{Piece, Chain, bytes_of}
use Rattle.trace_model.specs.Sequences.{is_among}
use Rattle.trace_model.specs.Sent.{SentPatch, text_of, all_sent, sent_of, open_chunks, open_in, is_in_one, chunk_at, PatchesAre, LastsAre, AwaitsAre}
use Rattle.trace_model.specs.Cut.{IsWellFormedPage, FlagsAgree, last_runs_on, newest_goes_on, Begins, IsGivenUp, AreBytesOf, length_places, left_behind, ends_well, all_end_well, begins_well, all_begin_well, PatchesAgree}
use Rattle.commit_body.specs.declared.hole.Hole.{Hole}
use Rattle.commit_body.specs.Patches.{hole_chunks, with_lasts}
use Rattle.commit_body.proofs.PatchLemmas.{with_lasts_are}
use Rattle.cut_steps.specs.RawChains.{raw_chains, settled_piece, earlier_pieces, chains_before, piece_behind, current_piece, current_pieces, current_chain, chain_to}
use Rattle.cut_steps.specs.RawCut.{IsRawChainOf, CutsRaw}
use Rattle.cut_steps.specs.Pieces.{AllStandIn, ContinuesWithByte}
use Rattle.cut_steps.specs.Pending.{HasSent, sent_now, sent_chunks, hole_at, patches_so_far}
use Rattle.cut_steps.specs.Growth.{settled_bytes}
use Rattle.cut_steps.specs.Writing.{IsWriting}
use Rattle.cut_steps.proofs.ChainLemmas.{chains_end}
use Rattle.cut_steps.proofs.GrowingPlaces.{bytes_of-one}
use Rattle.cut_steps.proofs.LaterPatches.{settled-newer}
use Rattle.cut_steps.proofs.Places.{stands_within}
use Rattle.cut_steps.proofs.RunningOn.{so_far-one, so_far_below}
use Rattle.cut_steps.proofs.Sending.{sends_done}
use Rattle.cut_steps.proofs.StrictPieces.{goes_on-here, lengths_in_one}
use Rattle.cut_steps.proofs.StepLemmas.{begins_well-same, all_end_well-one, flags-one, last_runs_on-one}

-- What was sent

-- what a packet sent, once nothing is left to be sent
pub agree : (packets : List Packet) (chains : List Chain) (pages : List Page) (sent : List SentPatch) (open_ones : List ℕ) → HasSent pages sent [] open_ones
    → all_sent packets chains ≡ sent → open_chunks packets chains ≡ open_ones → PatchesAgree packets chains pages
agree packets chains pages sent open_ones h s o =
    let marked : LastsAre open_ones (patches_of pages) = subst (LastsAre open_ones) h.lasts (with_lasts_are open_ones (patches_of pages)) in
    record {
      sent = subst (λ (xs : List SentPatch). PatchesAre xs 0 pages) (sym s) h.patches;
      lasts = subst (λ (ns : List ℕ). LastsAre ns (patches_of pages)) (sym o) marked;
      awaits = subst (λ (xs : List SentPatch). AwaitsAre (sent_chunks xs ++ open_chunks packets chains) 0 pages) (sym s)
          (subst (λ (ns : List ℕ). AwaitsAre (sent_chunks sent ++ ns) 0 pages) (sym o) h.awaits);
      placed = h.sent_placed;
      behind = h.behind;
    }

-- The newest packet

all_stand : (places : List ℕ) (pieces : List Piece) → AllStandIn pieces places → filter (λ at. nat_le (at + 4) (length (bytes_of pieces))) places ≡ places
all_stand [] pieces h = refl
all_stand (at ∷ places) pieces h =
    ap (λ (b : Bool). cond b (at ∷ filter (λ n. nat_le (n + 4) (length (bytes_of pieces))) places) (filter (λ n. nat_le (n + 4) (length (bytes_of pieces))) places))
    (le-leb (at + 4) (length (bytes_of pieces)) (stands_within pieces at h.0))
    ∙ ap (λ (ns : List ℕ). at ∷ ns) (all_stand places pieces h.1)

-- the open lengths of a packet all stand in its pieces
pub open_in-all : (pieces : List Piece) (text : Text) → AllStandIn pieces (open_places text.levels) → open_in pieces text ≡ open_places text.levels
open_in-all pieces text h = all_stand (open_places text.levels) pieces h

-- all its bytes stand there
pub are_bytes-whole : (packet : Packet) (bytes : List ℕ) → packet.given_up ≡ None → bytes ≡ body_of packet → AreBytesOf packet bytes
are_bytes-whole packet bytes given e =
    subst (λ (o : Option Text). MatchOption o (MatchBool packet.finished (bytes ≡ body_of packet) (Begins bytes (body_of packet))) (IsGivenUp bytes)) (sym given)
    (by_end packet.finished)
  where
    by_end : (b : Bool) → MatchBool b (bytes ≡ body_of packet) (Begins bytes (body_of packet))
    by_end true = e
    by_end false = ([], sym e ∙ sym (append-nil bytes))

-- a fragment that runs on nowhere ends well anywhere
ends_anywhere : (size end : ℕ) (lengths : List ℕ) (piece : Piece) → piece.runs_on ≡ false → IsTrue (ends_well size lengths end piece)
ends_anywhere size end lengths piece e =
    ap (λ (b : Bool). not b || ((left_behind size piece == 0) || (nat_lt (left_behind size piece) 4 && is_among end lengths))) e

-- the patches that a packet sent while it is neither given up nor has a length left to close
pub sent_of-kept : (packet : Packet) (chain : Chain) → packet.given_up ≡ None → sent_of packet chain ≡ sent_now chain.pieces packet.text.closed
sent_of-kept packet chain g = ap (λ (o : Option Text). sent_given o) g ∙ append-nil (sent_now chain.pieces packet.text.closed)
  where
    sent_given : Option Text → List SentPatch
    sent_given o = sent_of (record packet { given_up = o }) chain

pub open_chunks-kept : (packet : Packet) (packets : List Packet) (chain : Chain) (chains : List Chain) → packet.given_up ≡ None
    → open_chunks (packet ∷ packets) (chain ∷ chains) ≡ map (chunk_at chain.pieces) (open_in chain.pieces packet.text)
open_chunks-kept packet packets chain chains g =
    ap (λ (o : Option Text). open_chunks (record packet { given_up = o } ∷ packets) (chain ∷ chains)) g

-- What holds of a packet of which these bytes stand in these pages, once these patches are put in.
pub record IsSealed (size : ℕ) (packet : Packet) (older : List Packet) (pages : List Page) (patches : List Patch) (open_ones : List ℕ)
    (sent : List SentPatch) (chains : List Chain) : Type 0 where
  pub raw : raw_chains pages ≡ chains
  pub kept : kept_of (packet ∷ older) ≡ packet ∷ kept_of older
  pub chains_are : AllZip (IsRawChainOf size patches) (packet ∷ kept_of older) chains
  pub sent_is : all_sent (packet ∷ kept_of older) chains ≡ sent
  pub open_is : open_chunks (packet ∷ kept_of older) chains ≡ open_ones
  pub begins : IsTrue (all_begin_well size (packet ∷ older) chains)

-- what was sent so far
abbrev pub sent_by_now : Packet → List Packet → List Page → Bool → List (List ℕ) → List ℕ → List SentPatch
sent_by_now packet older pages continues done now =
    all_sent (kept_of older) (chains_before pages continues done) ++ sent_now (current_pieces pages continues done now) packet.text.closed

-- A packet as it stands, finished or not, whose fragment doesn't run on.
pub sealed : (size : ℕ) (packet later : Packet) (older : List Packet) (pages : List Page) (q : Page) (done : List (List ℕ)) (now : List ℕ)
    (unsent : List Patch) (holes : List Hole) → IsWriting size packet older pages q.continues done now unsent holes []
    → q.fragments ≡ done ++ now ∷ [] → q.runs_on ≡ false → q.dropped ≡ false → ContinuesWithByte q.continues done now
    → later.kept ≡ packet.kept → later.follows_flush ≡ packet.follows_flush → later.text ≡ packet.text → later.given_up ≡ None
    → IsSealed size later older (pages ++ q ∷ []) (patches_so_far pages holes unsent) (hole_chunks holes) (sent_by_now packet older pages q.continues done now)
    (current_chain pages q.continues done now ∷ chains_before pages q.continues done)
sealed size packet later older pages q done now unsent holes w fragments stays unmarked some kept flush text given =
    let earlier : List Piece = earlier_pieces pages q.continues done in
    let before : List Chain = chains_before pages q.continues done in
    let piece : Piece = current_piece pages done now in
    let pieces : List Piece = earlier ++ piece ∷ [] in
    let chain : Chain = current_chain pages q.continues done now in
    let patches : List Patch = patches_so_far pages holes unsent in
    let is_kept : later.kept ≡ true = kept ∙ w.kept in
    let levels : later.text.levels ≡ w.level ∷ w.outer = ap (λ (t : Text). t.levels) text ∙ w.levels in
    let untouched : settled_piece patches piece ≡ piece = settled-newer patches piece (so_far_below pages (sent_by_now packet older pages q.continues done now) holes unsent w.sends) in
    let bytes : bytes_of (map (settled_piece patches) pieces) ≡ body_of later =
    ap bytes_of (map-append (settled_piece patches) earlier (piece ∷ []))
    ∙ bytes_of-one (map (settled_piece patches) earlier) (settled_piece patches piece)
    ∙ ap (λ (one : Piece). settled_bytes patches earlier ++ one.fragment.bytes) untouched
    ∙ w.bytes.exact
    ∙ ap (flat open_length) (sym levels) in
    let text_is : text_of later ≡ packet.text = ap (λ (o : Option Text). unwrap_or o later.text) given ∙ text in
    let standing : open_in pieces later.text ≡ open_places (w.level ∷ w.outer) =
    open_in-all pieces later.text (subst (λ (ls : List (List ℕ)). AllStandIn pieces (open_places ls)) (sym levels) w.bytes.stand) ∙ ap open_places levels in
    let ends : IsTrue (all_end_well size (length_places packet.text) 0 pieces) =
    all_end_well-one earlier size (length_places packet.text) 0 piece w.ends
    (ends_anywhere size (0 + length (bytes_of earlier) + length now) (length_places packet.text) piece refl) in
    let newest : IsRawChainOf size patches later chain = record {
      marked = sym (ap (λ (o : Option Text). is_some o) given);
      bytes = are_bytes-whole later (bytes_of (map (settled_piece patches) pieces)) given bytes;
      ends = subst (λ (t : Text). IsTrue (all_end_well size (length_places t) 0 pieces)) (sym text_is) ends;
      goes_on = goes_on-here pages q.continues done piece some w.goes_on;
      lengths = subst (λ (t : Text). IsTrue (list_all (is_in_one pieces) (open_in pieces t))) (sym (ap (λ (o : Option Text). unwrap_or o later.text) given))
          (lengths_in_one pieces later.text (open_places (w.level ∷ w.outer)) standing w.bytes.stand);
    } in
    record {
      raw = chains_end size pages q done now w.full w.flags fragments w.continues_is (λ e. absurd (true≢false (sym e ∙ unmarked)))
          ∙ ap (λ (b : Bool). chain_to pages q.continues done (piece_behind pages done now q.runs_on b) ∷ before) unmarked
          ∙ ap (λ (b : Bool). chain_to pages q.continues done (piece_behind pages done now b false) ∷ before) stays;
      kept = ap (λ (b : Bool). cond b (later ∷ kept_of older) (kept_of older)) is_kept;
      chains_are = (newest, w.older_chains);
      sent_is = ap (λ (xs : List SentPatch). all_sent (kept_of older) before ++ xs)
          (sent_of-kept later chain given ∙ ap (λ (t : Text). sent_now pieces t.closed) text);
      open_is = open_chunks-kept later (kept_of older) chain before given
          ∙ ap (map (chunk_at pieces)) standing
          ∙ sym (ap hole_chunks w.holes_are ∙ map-map (λ (hole : Hole). hole.chunk_id) (hole_at pieces) (open_places (w.level ∷ w.outer)));
      begins = and_from (begins_well size later older (chain ∷ before)) (all_begin_well size older (cond later.kept before (chain ∷ before)))
          (begins_well-same size packet later older chain chain before w.kept is_kept (sym flush) refl w.begins)
          (subst (λ (b : Bool). IsTrue (all_begin_well size older (cond b before (chain ∷ before)))) (sym is_kept) w.older_begin);
    }

-- The pages are a cut, where all patches came.
pub sealed_cut : (size : ℕ) (packet : Packet) (older : List Packet) (pages : List Page) (open_ones : List ℕ) (sent : List SentPatch) (chains : List Chain)
    → IsSealed size packet older pages (patches_of pages) open_ones sent chains
    → All (IsWellFormedPage size) pages → FlagsAgree false pages → (last_runs_on false pages ≡ true → newest_goes_on (packet ∷ older) ≡ true)
    → HasSent pages sent [] open_ones
    → CutsRaw size (packet ∷ older) pages
sealed_cut size packet older pages open_ones sent chains s full flags last h =
    let agrees : PatchesAgree (packet ∷ kept_of older) chains pages = agree (packet ∷ kept_of older) chains pages sent open_ones h s.sent_is s.open_is in
    record {
      full = full;
      flags = flags;
      last = last;
      chains = subst (λ (ps : List Packet). AllZip (IsRawChainOf size (patches_of pages)) ps (raw_chains pages)) (sym s.kept)
          (subst (AllZip (IsRawChainOf size (patches_of pages)) (packet ∷ kept_of older)) (sym s.raw) s.chains_are);
      patches = subst (λ (ps : List Packet). PatchesAgree ps (raw_chains pages) pages) (sym s.kept)
          (subst (λ (cs : List Chain). PatchesAgree (packet ∷ kept_of older) cs pages) (sym s.raw) agrees);
      begins = subst (λ (cs : List Chain). IsTrue (all_begin_well size (packet ∷ older) cs)) (sym s.raw) s.begins;
    }

-- The held chunk, as it stands, is the last page.
pub writing_cut : (size : ℕ) (packet later : Packet) (older : List Packet) (pages : List Page) (q : Page) (done : List (List ℕ)) (now : List ℕ)
    (unsent : List Patch) (holes : List Hole) → IsWriting size packet older pages q.continues done now unsent holes []
    → q.fragments ≡ done ++ now ∷ [] → q.runs_on ≡ false → q.dropped ≡ false → q.awaits ≡ false → ContinuesWithByte q.continues done now
    → q.patches ≡ with_lasts (hole_chunks holes) unsent → IsWellFormedPage size q
    → later.kept ≡ packet.kept → later.follows_flush ≡ packet.follows_flush → later.text ≡ packet.text → later.given_up ≡ None
    → CutsRaw size (later ∷ older) (pages ++ q ∷ [])
writing_cut size packet later older pages q done now unsent holes w fragments stays unmarked settled some brings full kept flush text given =
    let all : List Page = pages ++ q ∷ [] in
    let sent : List SentPatch = sent_by_now packet older pages q.continues done now in
    let chains : List Chain = current_chain pages q.continues done now ∷ chains_before pages q.continues done in
    let so_far : patches_so_far pages holes unsent ≡ patches_of all = sym (so_far-one pages q holes unsent brings) ∙ append-nil (patches_of all) in
    sealed_cut size later older all (hole_chunks holes) sent chains
    (subst (λ (ps : List Patch). IsSealed size later older all ps (hole_chunks holes) sent chains) so_far
    (sealed size packet later older pages q done now unsent holes w fragments stays unmarked some kept flush text given))
    (All-push (IsWellFormedPage size) pages q w.full full) (flags-one pages false q w.flags w.continues_is)
    (λ e. absurd (true≢false (sym e ∙ last_runs_on-one pages false q ∙ stays)))
    (sends_done pages sent unsent (hole_chunks holes) q brings
    (settled ∙ ap (λ (b : Bool). b && is_among (length pages) (sent_chunks sent ++ hole_chunks holes)) (sym stays)) w.sends)
