-- A packet that was given up, all of whose holes are closed: the drop mark is put in, and what is left of the payload is
-- unused. Its pages are a cut.
use Rattle.std.proofs.Common.{◌≡◌, ◌∙◌, ℕ, ◌+◌, ◌<◌, ◌≤◌, Bool, true, false, not, ◌&&◌, ◌||◌, cond, List, [], ◌∷◌, ◌++◌, length, map, refl, sym, ap, subst, arith, append_assoc, length-append, inl, Some, Option}
use Rattle.std.specs.Prelude.{IsTrue, ◌==◌, nat_lt, is_some, MatchOption, MatchBool, unwrap_or}
use Rattle.std.specs.List.{AllZip, list_all}
use Rattle.std.proofs.lemmas.List.{append-nil, map-append}
use Rattle.std.proofs.lemmas.List.Elements.{All-push}
use Rattle.std.proofs.lemmas.Bool.{and_from, or_left}
use Rattle.trace_model.specs.Images.{Patch}
use Rattle.trace_model.specs.Packets.{Packet, Text, open_places, body_of, kept_of}
use Rattle.trace_model.specs.Pages.{Page}
use Rattle.trace_model.specs.Sequences.{is_among}
use Rattle.trace_model.specs.Row.{Piece, Chain, Marked, Open, Whole, bytes_of}
use Rattle.trace_model.specs.Sent.{SentPatch, all_sent, open_chunks, open_in, is_in_one, last_chunk, chunk_at}
use Rattle.trace_model.specs.Cut.{IsWellFormedPage, Begins, IsGivenUp, length_places, all_end_well, ends_well, left_behind, is_marked_fate, begins_well, all_begin_well}
use Rattle.commit_body.specs.Patches.{with_lasts}
use Rattle.cut_steps.specs.RawChains.{offset_behind, raw_chains, earlier_pieces, chains_before, piece_behind, current_piece, current_chain, chain_to, settled_piece}
use Rattle.cut_steps.specs.RawCut.{IsRawChainOf, CutsRaw}
use Rattle.cut_steps.specs.Pending.{HasSent, sent_now, sent_chunks, patches_so_far, AllEndWithin, AllHaveFour}
use Rattle.cut_steps.specs.Growth.{settled_bytes}
use Rattle.cut_steps.specs.Between.{IsBetween}
use Rattle.cut_steps.specs.GivingUp.{IsGivingUp, AllClearOf, zero_patches}
use Rattle.cut_steps.proofs.BetweenCuts.{chains_end_before-more, all_end_before-last, begin_reaches, between_cut}
use Rattle.cut_steps.proofs.ChainLemmas.{chains_end}
use Rattle.cut_steps.proofs.GrowingPlaces.{SamePlacesBelow, same_grown, sent_now-same, length_bytes-one, bytes_of-one}
use Rattle.cut_steps.proofs.LaterPatches.{settled-newer}
use Rattle.cut_steps.proofs.Sending.{sends_done}
use Rattle.cut_steps.proofs.Growing.{long_bytes}
use Rattle.cut_steps.proofs.RunningOn.{so_far-one, so_far_below}
use Rattle.cut_steps.proofs.StepLemmas.{begins_well-same, start_of-same, all_end_well-one, flags-one, last_runs_on-one}
use Rattle.cut_steps.proofs.StrictPieces.{goes_on-here, marked_byte, in_one-same}
use Rattle.cut_steps.proofs.ZeroPatches.{last_chunk-one, inside-more, below-inside, zero_patches-same, sent_of-given}

-- the piece with the drop mark, of which the patches of earlier chunks change nothing
marked_bytes : (patches : List Patch) (earlier : List Piece) (piece : Piece) → settled_piece patches piece ≡ piece
    → bytes_of (map (settled_piece patches) (earlier ++ piece ∷ [])) ≡ settled_bytes patches earlier ++ piece.fragment.bytes
marked_bytes patches earlier piece untouched =
    ap bytes_of (map-append (settled_piece patches) earlier (piece ∷ []))
    ∙ bytes_of-one (map (settled_piece patches) earlier) (settled_piece patches piece)
    ∙ ap (λ (one : Piece). settled_bytes patches earlier ++ one.fragment.bytes) untouched

-- a fragment that doesn't run on may end anywhere
ends_anywhere : (size : ℕ) (lengths : List ℕ) (end : ℕ) (piece : Piece) → piece.runs_on ≡ false → IsTrue (ends_well size lengths end piece)
ends_anywhere size lengths end piece ends = or_left (not piece.runs_on) ((left_behind size piece == 0) || (nat_lt (left_behind size piece) 4 && is_among end lengths)) (ap not ends)

-- The packet's end: no chunk is held.
pub given_between : (size : ℕ) (packet next : Packet) (older : List Packet) (pages : List Page) (page : Page) (done : List (List ℕ)) (now unused : List ℕ)
    (unsent : List Patch) (text : Text) (level : List ℕ)
    → page.fragments ≡ done ++ (now ++ unused) ∷ [] → page.dropped ≡ true → page.awaits ≡ false → page.patches ≡ with_lasts [] unsent → IsWellFormedPage size page
    → length unused ≤ 3
    → (0 < length unused → IsTrue (is_among (length (bytes_of (earlier_pieces pages page.continues done)) + length now) (open_places text.levels)))
    → next.kept ≡ true → next.follows_flush ≡ packet.follows_flush → next.given_up ≡ Some text
    → IsGivingUp size packet older pages page.continues done now unsent [] text level []
    → IsBetween size (next ∷ older) (pages ++ page ∷ []) (raw_chains (pages ++ page ∷ [])) [] 4
given_between size packet next older pages page done now unused unsent text level holds dropped awaits brings full few lies kept flush given g =
    let stays : page.runs_on ≡ false = (full.dropped dropped).0 in
    let further : List Page = pages ++ page ∷ [] in
    let earlier : List Piece = earlier_pieces pages page.continues done in
    let old : Piece = current_piece pages done now in
    let piece : Piece = piece_behind pages done (now ++ unused) page.runs_on page.dropped in
    let before : List Piece = earlier ++ old ∷ [] in
    let after : List Piece = earlier ++ piece ∷ [] in
    let chain : Chain = chain_to pages page.continues done piece in
    let chains : List Chain = chains_before pages page.continues done in
    let patches : List Patch = patches_so_far pages [] unsent in
    let longer : length (now ++ unused) ≡ length now + length unused = length-append now unused in
    let total : length (bytes_of before) ≡ length level = long_bytes patches g.first earlier old (level ∷ []) g.bytes in
    let same : SamePlacesBelow (length (bytes_of before)) before after = same_grown earlier old piece refl refl (omega (arith, longer)) in
    let last : last_chunk before ≡ last_chunk after = last_chunk-one earlier old ∙ sym (last_chunk-one earlier piece) in
    let sent : List SentPatch = all_sent (kept_of older) chains in
    let closed_same : sent_now before text.closed ≡ sent_now after text.closed =
    sent_now-same text.closed (length (bytes_of before)) before after (subst (λ (n : ℕ). AllEndWithin n text.closed) (sym total) g.closed_in) same in
    let long : length (bytes_of after) ≡ length (bytes_of before) + length unused =
    length_bytes-one earlier piece ∙ omega (arith, longer, length_bytes-one earlier old) in
    let open_same : open_in before text ≡ open_in after text =
    sym (inside-more (open_places text.levels) (length (bytes_of before)) (length (bytes_of after)) (omega (arith, long)) (omega (arith, long, few))
    (subst (λ (n : ℕ). AllClearOf n (open_places text.levels)) (sym total) g.clear)) in
    let extra : g.extra ≡ zero_patches after (open_in after text) =
    sym (append-nil g.extra)
    ∙ g.extra_is
    ∙ zero_patches-same (open_in before text) (length (bytes_of before)) before after (below-inside (open_places text.levels) (length (bytes_of before))) same last
    ∙ ap (zero_patches after) open_same in
    let all : (sent ++ sent_now before text.closed) ++ g.extra ≡ all_sent (next ∷ kept_of older) (chain ∷ chains) =
    append_assoc sent (sent_now before text.closed) g.extra
    ∙ ap (λ (ss : List SentPatch). sent ++ (ss ++ g.extra)) closed_same
    ∙ ap (λ (ss : List SentPatch). sent ++ (sent_now after text.closed ++ ss)) extra
    ∙ ap (λ (ss : List SentPatch). sent ++ ss) (sym (sent_of-given next chain text given)) in
    let none_open : open_chunks (next ∷ kept_of older) (chain ∷ chains) ≡ [] =
    ap (λ (o : Option Text). cond (is_some o) [] (map (chunk_at chain.pieces) (open_in chain.pieces (unwrap_or o next.text)))) given in
    let waits : page.awaits ≡ (page.runs_on && is_among (length pages) (sent_chunks ((sent ++ sent_now before text.closed) ++ g.extra) ++ [])) =
    awaits ∙ sym (ap (λ (b : Bool). b && is_among (length pages) (sent_chunks ((sent ++ sent_now before text.closed) ++ g.extra) ++ [])) stays) in
    let sends : HasSent further ((sent ++ sent_now before text.closed) ++ g.extra) [] [] =
    sends_done pages ((sent ++ sent_now before text.closed) ++ g.extra) unsent [] page brings waits g.sends in
    let untouched : settled_piece patches piece ≡ piece = settled-newer patches piece (so_far_below pages ((sent ++ sent_now before text.closed) ++ g.extra) [] unsent g.sends) in
    let cut : bytes_of (map (settled_piece patches) after) ≡ level ++ unused =
    marked_bytes patches earlier piece untouched ∙ sym (append_assoc (settled_bytes patches earlier) now unused) ∙ ap (λ (xs : List ℕ). xs ++ unused) g.bytes.exact in
    let place : length (bytes_of earlier) + length now ≡ length level = sym (length_bytes-one earlier old) ∙ total in
    let given_bytes : IsGivenUp (bytes_of (map (settled_piece patches) after)) text = record {
      part = level;
      unused = unused;
      lost = g.lost;
      cut = cut;
      whole = g.zeros_are;
      proper = g.proper;
      few = few;
      next = λ some. subst (λ (n : ℕ). IsTrue (is_among n (open_places text.levels))) place (lies some);
    } in
    let newest : IsRawChainOf size patches next chain = record {
      marked = ap (λ (b : Bool). is_marked_fate (cond b Marked (cond page.runs_on Open Whole))) dropped ∙ sym (ap is_some given);
      bytes = subst (λ (o : Option Text). MatchOption o
          (MatchBool next.finished (bytes_of (map (settled_piece patches) after) ≡ body_of next) (Begins (bytes_of (map (settled_piece patches) after)) (body_of next)))
          (IsGivenUp (bytes_of (map (settled_piece patches) after)))) (sym given) given_bytes;
      ends = subst (λ (o : Option Text). IsTrue (all_end_well size (length_places (unwrap_or o next.text)) 0 after)) (sym given)
          (all_end_well-one earlier size (length_places text) 0 piece g.ends (ends_anywhere size (length_places text) (0 + length (bytes_of earlier) + length (now ++ unused)) piece stays));
      goes_on = goes_on-here pages page.continues done piece (marked_byte size page done (now ++ unused) g.large full holds dropped) g.goes_on;
      lengths = subst (λ (o : Option Text). IsTrue (list_all (is_in_one after) (open_in after (unwrap_or o next.text)))) (sym given)
          (subst (λ (ats : List ℕ). IsTrue (list_all (is_in_one after) ats)) open_same
          (sym (in_one-same (open_places text.levels) (length (bytes_of before)) before after same) ∙ g.lengths));
    } in
    let raw : chain ∷ chains ≡ raw_chains further =
    sym (chains_end size pages page done (now ++ unused) g.full g.flags holds g.continues_is (λ e. stays)) in
    let ours : next ∷ kept_of older ≡ kept_of (next ∷ older) = sym (ap (λ (b : Bool). cond b (next ∷ kept_of older) (kept_of older)) kept) in
    let so_far : patches ≡ patches_so_far further [] [] = sym (so_far-one pages page [] unsent brings) in
    let held : length further ≡ length pages + 1 = length-append pages (page ∷ []) in
    let end : ℕ = offset_behind 4 done + length (now ++ unused) in
    subst (λ (cs : List Chain). IsBetween size (next ∷ older) further cs [] 4) raw (record {
      chains_are = subst (λ (ps : List Packet). AllZip (IsRawChainOf size (patches_so_far further [] [])) ps (chain ∷ chains)) ours
          (subst (λ (ts : List Patch). AllZip (IsRawChainOf size ts) (next ∷ kept_of older) (chain ∷ chains)) so_far (newest, g.older_chains));
      begins = and_from (begins_well size next older (chain ∷ chains)) (all_begin_well size older (cond next.kept chains (chain ∷ chains)))
          (begins_well-same size packet next older (current_chain pages page.continues done now) chain chains g.kept kept (sym flush) (start_of-same earlier old piece refl) g.begins)
          (subst (λ (b : Bool). IsTrue (all_begin_well size older (cond b chains (chain ∷ chains)))) (sym kept) g.older_begin);
      sends = subst (λ (ps : List Packet). HasSent further (all_sent ps (chain ∷ chains)) [] []) ours (subst (λ (ss : List SentPatch). HasSent further ss [] []) all sends);
      none_open = ap (λ (ps : List Packet). open_chunks ps (chain ∷ chains)) (sym ours) ∙ none_open;
      four = subst AllHaveFour so_far g.four;
      ends = chains_end_before-more (chain ∷ chains) (length pages) end (length further) 4 (inl (omega (arith, held))) (
        all_end_before-last earlier g.first end piece g.bytes.follows g.bytes.chunk (omega arith),
        chains_end_before-more chains g.first g.first_offset (length pages) end (begin_reaches earlier g.first g.first_offset end old g.begins_at g.bytes.chunk (omega arith)) g.older_end,
      );
      large = g.large;
      full = All-push (IsWellFormedPage size) pages page g.full full;
      flags = flags-one pages false page g.flags g.continues_is;
    })

pub given_cut : (size : ℕ) (packet next : Packet) (older : List Packet) (pages : List Page) (page : Page) (done : List (List ℕ)) (now unused : List ℕ)
    (unsent : List Patch) (text : Text) (level : List ℕ)
    → page.fragments ≡ done ++ (now ++ unused) ∷ [] → page.dropped ≡ true → page.awaits ≡ false → page.patches ≡ with_lasts [] unsent → IsWellFormedPage size page
    → length unused ≤ 3
    → (0 < length unused → IsTrue (is_among (length (bytes_of (earlier_pieces pages page.continues done)) + length now) (open_places text.levels)))
    → next.kept ≡ true → next.follows_flush ≡ packet.follows_flush → next.given_up ≡ Some text
    → IsGivingUp size packet older pages page.continues done now unsent [] text level []
    → CutsRaw size (next ∷ older) (pages ++ page ∷ [])
given_cut size packet next older pages page done now unused unsent text level holds dropped awaits brings full few lies kept flush given g =
    between_cut size (next ∷ older) (pages ++ page ∷ []) 4
    (given_between size packet next older pages page done now unused unsent text level holds dropped awaits brings full few lies kept flush given g)
    (last_runs_on-one pages false page ∙ (full.dropped dropped).0)
