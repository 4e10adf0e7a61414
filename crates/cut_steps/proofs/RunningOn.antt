-- The packet that is written runs on: its chunk is completed, and its next fragment begins the next one.
use Rattle.std.proofs.Common.{◌≡◌, ◌∙◌, ℕ, ◌+◌, ◌<◌, ◌⊎◌, Bool, true, false, ◌&&◌, ◌||◌, List, [], ◌∷◌, ◌++◌, length, map, refl, sym, ap, subst, arith, length-append, inl, inr}
use Rattle.std.specs.Prelude.{IsTrue}
use Rattle.std.specs.List.{AllZip}
use Rattle.std.proofs.lemmas.List.{append-nil}
use Rattle.std.proofs.lemmas.List.Elements.{All-push}
use Rattle.std.proofs.lemmas.Bool.{cases_Bool, true≢false}
use Rattle.trace_model.specs.Images.{Patch}
use Rattle.trace_model.specs.Packets.{Packet, flat, open_length, open_places, body_of, kept_of}
use Rattle.trace_model.specs.Pages.{Page, patches_of}
use Rattle.trace_model.specs.Sequences.{is_among}
use Rattle.trace_model.specs.Row.{Piece, Chain, bytes_of}
use Rattle.trace_model.specs.Sent.{SentPatch, all_sent, AllChunksBelow}
use Rattle.trace_model.specs.Cut.{IsWellFormedPage, left_behind, length_places, all_end_well, all_go_on, begins_well, all_begin_well}
use Rattle.commit_body.specs.declared.hole.Hole.{Hole}
use Rattle.commit_body.specs.Patches.{hole_chunks, with_lasts}
use Rattle.cut_steps.specs.RawChains.{earlier_pieces, chains_before, piece_behind, current_piece, current_pieces, current_chain, start_of}
use Rattle.cut_steps.specs.RawCut.{IsRawChainOf}
use Rattle.cut_steps.specs.Pieces.{BeginsAt, ChainsEndBefore, AllRunOn}
use Rattle.cut_steps.specs.Pending.{HasSent, sent_now, sent_chunks, hole_at, patches_so_far, AllEndWithin, AllHaveFour}
use Rattle.cut_steps.specs.Growth.{HasBytes}
use Rattle.cut_steps.specs.Writing.{IsWriting}
use Rattle.cut_steps.proofs.ChainLemmas.{earlier_pieces-run_on, chains_before-run_on}
use Rattle.cut_steps.proofs.GrowingPlaces.{SamePlacesBelow, same_grown, same_more, same_both, holes-same, sent_now-same, length_bytes-one}
use Rattle.cut_steps.proofs.Marks.{is_among-append, none_sent, patches_of-one, chunks_below-append, chunks_below-with_lasts}
use Rattle.cut_steps.proofs.Sending.{sends_done}
use Rattle.cut_steps.proofs.Growing.{long_bytes, bytes_run}
use Rattle.cut_steps.proofs.PlacedPatches.{all_run_on-one}
use Rattle.cut_steps.proofs.StrictPieces.{goes_on-here, filled_byte}
use Rattle.cut_steps.proofs.StepLemmas.{begins_at-grown, begins_at-more, begins_well-same, start_of-run, all_end_well-one, ends_well-from, flags-one, last_runs_on-one}

-- a page that runs on has no drop mark
pub unmarked : (size : ℕ) (page : Page) → IsWellFormedPage size page → page.runs_on ≡ true → page.dropped ≡ false
unmarked size page full runs = elim (cases_Bool page.dropped) [
  | inl marked ↦ absurd (true≢false (sym runs ∙ (full.dropped marked).0))
  | inr is ↦ is
]

-- the held chunk's patches are those of its page
pub so_far-one : (pages : List Page) (page : Page) (holes : List Hole) (unsent : List Patch) → page.patches ≡ with_lasts (hole_chunks holes) unsent
    → patches_so_far (pages ++ page ∷ []) holes [] ≡ patches_so_far pages holes unsent
so_far-one pages page holes unsent brings =
    append-nil (patches_of (pages ++ page ∷ [])) ∙ patches_of-one pages page ∙ ap (λ (xs : List Patch). patches_of pages ++ xs) brings

pub so_far_below : (pages : List Page) (sent : List SentPatch) (holes : List Hole) (unsent : List Patch) → HasSent pages sent unsent (hole_chunks holes)
    → AllChunksBelow (length pages) (patches_so_far pages holes unsent)
so_far_below pages sent holes unsent sends =
    chunks_below-append (length pages) (patches_of pages) (with_lasts (hole_chunks holes) unsent) sends.sent_below
    (chunks_below-with_lasts (hole_chunks holes) (length pages) unsent sends.unsent_below)

pub writing_run_on : (size : ℕ) (packet : Packet) (older : List Packet) (pages : List Page) (page : Page) (done : List (List ℕ)) (now : List ℕ)
    (unsent : List Patch) (holes : List Hole) (coming : List ℕ)
    → page.fragments ≡ done ++ now ∷ [] → page.runs_on ≡ true → IsWellFormedPage size page
    → page.patches ≡ with_lasts (hole_chunks holes) unsent → page.awaits ≡ is_among (length pages) (hole_chunks holes)
    → (left_behind size (current_piece pages done now) ≡ 0)
    ⊎ ((left_behind size (current_piece pages done now) < 4) × IsTrue (is_among (length (body_of packet)) (coming ++ length_places packet.text)))
    → IsWriting size packet older pages page.continues done now unsent holes coming
    → IsWriting size packet older (pages ++ page ∷ []) true [] [] [] holes coming
writing_run_on size packet older pages page done now unsent holes coming holds runs full brings awaits left w =
    let kept : page.dropped ≡ false = unmarked size page full runs in
    let further : List Page = pages ++ page ∷ [] in
    let earlier : List Piece = earlier_pieces pages page.continues done in
    let old : Piece = current_piece pages done now in
    let ended : Piece = piece_behind pages done now true false in
    let next : Piece = current_piece further [] [] in
    let before : List Piece = earlier ++ old ∷ [] in
    let behind : List Piece = earlier ++ ended ∷ [] in
    let after : List Piece = behind ++ next ∷ [] in
    let levels : List (List ℕ) = w.level ∷ w.outer in
    let patches : List Patch = patches_so_far pages holes unsent in
    let chains : List Chain = chains_before pages page.continues done in
    let same_pieces : behind ≡ earlier_pieces further true [] = sym (earlier_pieces-run_on size pages page done now w.full w.flags holds w.continues_is runs kept) in
    let same_chains : chains ≡ chains_before further true [] =
    sym (chains_before-run_on size pages page done now w.full w.flags holds w.continues_is (λ e. absurd (true≢false (sym e ∙ kept)))) in
    let same_patches : patches ≡ patches_so_far further holes [] = sym (so_far-one pages page holes unsent brings) in
    let held : length further ≡ length pages + 1 = length-append pages (page ∷ []) in
    let total : length (bytes_of before) ≡ length (flat open_length levels) = long_bytes patches w.first earlier old levels w.bytes in
    let whole : length (bytes_of behind) ≡ length (bytes_of before) = length_bytes-one earlier ended ∙ sym (length_bytes-one earlier old) in
    let same : SamePlacesBelow (length (bytes_of before)) before after =
    same_both (length (bytes_of before)) (length (bytes_of behind)) before behind after (omega (arith, whole)) (same_grown earlier old ended refl refl (omega arith)) (same_more behind (next ∷ [])) in
    let within : AllEndWithin (length (bytes_of before)) packet.text.closed = subst (λ (n : ℕ). AllEndWithin n packet.text.closed) (sym total) w.closed_in in
    let sent : List SentPatch = all_sent (kept_of older) chains in
    let waits : page.awaits ≡ (page.runs_on && is_among (length pages) (sent_chunks (sent ++ sent_now before packet.text.closed) ++ hole_chunks holes)) =
    awaits
    ∙ ap (λ (b : Bool). b || is_among (length pages) (hole_chunks holes)) (sym (none_sent (sent ++ sent_now before packet.text.closed) (length pages) w.sends.for))
    ∙ sym (is_among-append (length pages) (sent_chunks (sent ++ sent_now before packet.text.closed)) (hole_chunks holes))
    ∙ ap (λ (b : Bool). b && is_among (length pages) (sent_chunks (sent ++ sent_now before packet.text.closed) ++ hole_chunks holes)) (sym runs) in
    let few : left_behind size old < 4 = elim left [
      | inl none ↦ omega (arith, none)
      | inr some ↦ some.0
    ] in
    let sends : HasSent further (sent ++ sent_now after packet.text.closed) [] (hole_chunks holes) =
    subst (λ (ss : List SentPatch). HasSent further (sent ++ ss) [] (hole_chunks holes)) (sent_now-same packet.text.closed (length (bytes_of before)) before after within same)
    (sends_done pages (sent ++ sent_now before packet.text.closed) unsent (hole_chunks holes) page brings waits w.sends) in
    let end : length (body_of packet) ≡ 0 + length (bytes_of earlier) + length now =
    ap (λ (ls : List (List ℕ)). length (flat open_length ls)) w.levels ∙ sym total ∙ length_bytes-one earlier old ∙ omega arith in
    let ends : IsTrue (all_end_well size (coming ++ length_places packet.text) 0 behind) =
    all_end_well-one earlier size (coming ++ length_places packet.text) 0 ended w.ends
    (ends_well-from size (coming ++ length_places packet.text) (0 + length (bytes_of earlier) + length now) ended
    (subst (λ (n : ℕ). (left_behind size old ≡ 0) ⊎ ((left_behind size old < 4) × IsTrue (is_among n (coming ++ length_places packet.text)))) end left)) in
    record {
      kept = w.kept;
      given_up = w.given_up;
      finished = w.finished;
      level = w.level;
      outer = w.outer;
      levels = w.levels;
      first = w.first;
      first_offset = w.first_offset;
      begins_at = subst (λ (ps : List Piece). BeginsAt w.first w.first_offset (ps ++ next ∷ [])) same_pieces
          (begins_at-more behind (next ∷ []) w.first w.first_offset (begins_at-grown earlier old ended w.first w.first_offset refl refl w.begins_at));
      bytes = subst (λ (ps : List Piece). HasBytes (patches_so_far further holes []) w.first ps next levels) same_pieces
          (subst (λ (ts : List Patch). HasBytes ts w.first behind next levels) same_patches
          (bytes_run patches w.first earlier old ended next levels refl refl held refl
          (so_far_below pages (sent ++ sent_now before packet.text.closed) holes unsent w.sends) w.bytes));
      earlier_run_on = subst (AllRunOn further) same_pieces (all_run_on-one earlier pages page done now holds runs kept w.earlier_run_on);
      sends = subst (λ (cs : List Chain). HasSent further (all_sent (kept_of older) cs ++ sent_now (current_pieces further true [] []) packet.text.closed) [] (hole_chunks holes)) same_chains
          (subst (λ (ps : List Piece). HasSent further (sent ++ sent_now (ps ++ next ∷ []) packet.text.closed) [] (hole_chunks holes)) same_pieces sends);
      holes_are = w.holes_are
          ∙ holes-same (open_places levels) before after w.bytes.stand same
          ∙ ap (λ (ps : List Piece). map (hole_at (ps ++ next ∷ [])) (open_places levels)) same_pieces;
      closed_in = w.closed_in;
      ends = subst (λ (ps : List Piece). IsTrue (all_end_well size (coming ++ length_places packet.text) 0 ps)) same_pieces ends;
      four = subst AllHaveFour same_patches w.four;
      begins = subst (λ (cs : List Chain). IsTrue (begins_well size packet older (current_chain further true [] [] ∷ cs))) same_chains
          (begins_well-same size packet packet older (current_chain pages page.continues done now) (current_chain further true [] []) chains w.kept w.kept refl
          (start_of-run earlier old ended next refl ∙ ap (λ (ps : List Piece). start_of ps next) same_pieces) w.begins);
      older_chains = subst (λ (ts : List Patch). AllZip (IsRawChainOf size ts) (kept_of older) (chains_before further true [])) same_patches
          (subst (AllZip (IsRawChainOf size patches) (kept_of older)) same_chains w.older_chains);
      older_begin = subst (λ (cs : List Chain). IsTrue (all_begin_well size older cs)) same_chains w.older_begin;
      older_end = subst (ChainsEndBefore w.first w.first_offset) same_chains w.older_end;
      goes_on = subst (λ (ps : List Piece). IsTrue (all_go_on ps)) same_pieces
          (goes_on-here pages page.continues done ended (filled_byte size pages page.continues done now w.large few) w.goes_on);
      large = w.large;
      full = All-push (IsWellFormedPage size) pages page w.full full;
      flags = flags-one pages false page w.flags w.continues_is;
      continues_is = sym (last_runs_on-one pages false page ∙ runs);
    }
