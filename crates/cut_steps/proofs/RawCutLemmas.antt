-- What is said of the chains before any patch is said of them with all patches put in.
use Rattle.std.proofs.Common.{◌≡◌, ◌∙◌, ℕ, ◌+◌, ◌-◌, ◌==◌, Bool, not, ◌&&◌, ◌||◌, nat_lt, List, [], ◌∷◌, ◌++◌, map, length, refl, sym, ap, subst}
use Rattle.std.specs.List.{AllZip}
use Rattle.trace_model.specs.Images.{Patch}
use Rattle.trace_model.specs.Packets.{Packet, kept_of}
use Rattle.trace_model.specs.Pages.{Page, patches_of}
use Rattle.trace_model.specs.Sequences.{is_among}
use Rattle.trace_model.specs.Row.{Piece, Chain}
use Rattle.trace_model.specs.Sent.{SentPatch, text_of, all_sent, open_chunks, PatchesAre, LastsAre, AwaitsAre}
use Rattle.trace_model.specs.Written.{chains_of}
use Rattle.trace_model.specs.Cut.{CutsInto, IsChainOf, length_places, left_behind, ends_well, all_end_well, all_begin_well}
use Rattle.cut_steps.specs.Pending.{AllHaveFour}
use Rattle.cut_steps.specs.RawChains.{placeless, raw_chains, settled_piece, settled_chain}
use Rattle.cut_steps.specs.RawCut.{IsRawChainOf, CutsRaw}
use Rattle.cut_steps.proofs.LaterPatches.{settled_shape, settled-places}
use Rattle.cut_steps.proofs.SettledFragments.{settled-piece}
use Rattle.cut_steps.proofs.SamePlaces.{SameShape, SameChains, SamePlaces-refl, all_go_on-places, lengths-places, all_sent-places, open_chunks-places, all_begin_well-places}
use Rattle.cut_steps.proofs.Settling.{chains_of-settled, all_placed-four}

placeless-same : (chains : List Chain) → SameChains (map placeless chains) chains
placeless-same [] = tt
placeless-same (chain ∷ chains) = ((refl, SamePlaces-refl chain.pieces), placeless-same chains)

pub settled-same : (patches : List Patch) (chains : List Chain) → AllHaveFour patches → SameChains (map (settled_chain patches) chains) chains
settled-same patches [] four = tt
settled-same patches (chain ∷ chains) four = ((refl, settled-places patches chain.pieces four), settled-same patches chains four)

settled-runs_on : (patches : List Patch) (piece : Piece) → (settled_piece patches piece).runs_on ≡ piece.runs_on
settled-runs_on patches piece = ap (λ (q : Piece). q.runs_on) (settled-piece patches piece)

-- where pieces that run on end
pub settled-ends : (patches : List Patch) (pieces : List Piece) (size at : ℕ) (lengths : List ℕ) → AllHaveFour patches
    → all_end_well size lengths at (map (settled_piece patches) pieces) ≡ all_end_well size lengths at pieces
settled-ends patches [] size at lengths four = refl
settled-ends patches (piece ∷ pieces) size at lengths four =
    let one : Piece = settled_piece patches piece in
    let all : List Piece = map (settled_piece patches) pieces in
    let place : SameShape one piece = settled_shape patches piece four in
    ap (λ (b : Bool). (not b || ((left_behind size one == 0) || (nat_lt (left_behind size one) 4 && is_among (at + length one.fragment.bytes) lengths)))
    && all_end_well size lengths (at + length one.fragment.bytes) all) (settled-runs_on patches piece)
    ∙ ap (λ (n : ℕ). (not piece.runs_on || ((size - (n + length one.fragment.bytes) == 0) || (nat_lt (size - (n + length one.fragment.bytes)) 4 && is_among (at + length one.fragment.bytes) lengths)))
    && all_end_well size lengths (at + length one.fragment.bytes) all) place.offset
    ∙ ap (λ (n : ℕ). (not piece.runs_on || ((size - (piece.fragment.offset + n) == 0) || (nat_lt (size - (piece.fragment.offset + n)) 4 && is_among (at + n) lengths)))
    && all_end_well size lengths (at + n) all) place.long
    ∙ ap (λ (b : Bool). ends_well size lengths (at + length piece.fragment.bytes) piece && b) (settled-ends patches pieces size (at + length piece.fragment.bytes) lengths four)

chains-settled : (size : ℕ) (packets : List Packet) (chains : List Chain) (patches : List Patch) → AllHaveFour patches
    → AllZip (IsRawChainOf size patches) packets chains → AllZip (IsChainOf size) packets (map (settled_chain patches) chains)
chains-settled size [] [] patches four h = tt
chains-settled size [] (chain ∷ chains) patches four h = absurd h
chains-settled size (packet ∷ packets) [] patches four h = absurd h
chains-settled size (packet ∷ packets) (chain ∷ chains) patches four h = (
  record {
    marked = h.0.marked;
    bytes = h.0.bytes;
    ends = settled-ends patches chain.pieces size 0 (length_places (text_of packet)) four ∙ h.0.ends;
    goes_on = all_go_on-places (map (settled_piece patches) chain.pieces) chain.pieces (settled-places patches chain.pieces four) ∙ h.0.goes_on;
    lengths = lengths-places (map (settled_piece patches) chain.pieces) chain.pieces (text_of packet) (settled-places patches chain.pieces four) ∙ h.0.lengths;
  },
  chains-settled size packets chains patches four h.1,
)

chains-placed : (size : ℕ) (packets : List Packet) (chains : List Chain) → AllZip (IsChainOf size) packets (map placeless chains) → AllZip (IsChainOf size) packets chains
chains-placed size [] [] h = tt
chains-placed size [] (chain ∷ chains) h = absurd h
chains-placed size (packet ∷ packets) [] h = absurd h
chains-placed size (packet ∷ packets) (chain ∷ chains) h =
    (record { marked = h.0.marked; bytes = h.0.bytes; ends = h.0.ends; goes_on = h.0.goes_on; lengths = h.0.lengths }, chains-placed size packets chains h.1)

pub raw_cut_is_cut : (size : ℕ) (packets : List Packet) (pages : List Page) → CutsRaw size packets pages → CutsInto size packets pages
raw_cut_is_cut size packets pages cut =
    let patches : List Patch = patches_of pages in
    let raw : List Chain = raw_chains pages in
    let kept : List Packet = kept_of packets in
    let four : AllHaveFour patches = all_placed-four patches pages cut.patches.placed in
    let settled : map placeless (chains_of pages) ≡ map (settled_chain patches) raw = chains_of-settled pages cut.patches.placed in
    let sent : all_sent kept raw ≡ all_sent kept (chains_of pages) =
    sym (all_sent-places kept (map (settled_chain patches) raw) raw (settled-same patches raw four))
    ∙ ap (all_sent kept) (sym settled)
    ∙ all_sent-places kept (map placeless (chains_of pages)) (chains_of pages) (placeless-same (chains_of pages)) in
    let open_ones : open_chunks kept raw ≡ open_chunks kept (chains_of pages) =
    sym (open_chunks-places kept (map (settled_chain patches) raw) raw (settled-same patches raw four))
    ∙ ap (open_chunks kept) (sym settled)
    ∙ open_chunks-places kept (map placeless (chains_of pages)) (chains_of pages) (placeless-same (chains_of pages)) in
    let begins : all_begin_well size packets raw ≡ all_begin_well size packets (chains_of pages) =
    sym (all_begin_well-places size packets (map (settled_chain patches) raw) raw (settled-same patches raw four))
    ∙ ap (all_begin_well size packets) (sym settled)
    ∙ all_begin_well-places size packets (map placeless (chains_of pages)) (chains_of pages) (placeless-same (chains_of pages)) in
    record {
      full = cut.full;
      flags = cut.flags;
      last = cut.last;
      chains = chains-placed size kept (chains_of pages)
          (subst (AllZip (IsChainOf size) kept) (sym settled) (chains-settled size kept raw patches four cut.chains));
      patches = record {
        sent = subst (λ (xs : List SentPatch). PatchesAre xs 0 pages) sent cut.patches.sent;
        lasts = subst (λ (ns : List ℕ). LastsAre ns patches) open_ones cut.patches.lasts;
        awaits = subst (λ (ns : List ℕ). AwaitsAre (map (λ (one : SentPatch). one.chunk_id) (all_sent kept (chains_of pages)) ++ ns) 0 pages) open_ones
            (subst (λ (xs : List SentPatch). AwaitsAre (map (λ (one : SentPatch). one.chunk_id) xs ++ open_chunks kept raw) 0 pages) sent cut.patches.awaits);
        placed = cut.patches.placed;
        behind = cut.patches.behind;
      };
      begins = sym begins ∙ cut.begins;
    }
