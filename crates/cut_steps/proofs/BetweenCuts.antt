-- Between two packets: what a packet's end leaves, what a completed chunk changes, and that the pages are a cut.
use Rattle.std.proofs.Common.{◌≡◌, ◌∙◌, ℕ, suc, ◌+◌, ◌<◌, ◌≤◌, ◌⊎◌, Bool, false, ◌&&◌, List, [], ◌∷◌, ◌++◌, length, refl, sym, ap, subst, arith, inl, inr, length-append, append-nil}
use Rattle.std.specs.List.{AllZip}
use Rattle.std.proofs.lemmas.Bool.{true≢false}
use Rattle.std.proofs.lemmas.List.Elements.{All-push}
use Rattle.trace_model.specs.Images.{Patch}
use Rattle.trace_model.specs.Packets.{Packet, kept_of, finished_packet}
use Rattle.trace_model.specs.Pages.{Page, patches_of}
use Rattle.trace_model.specs.Row.{Piece, Chain}
use Rattle.trace_model.specs.Sequences.{is_among}
use Rattle.trace_model.specs.Sent.{SentPatch, all_sent, open_chunks}
use Rattle.trace_model.specs.Cut.{IsWellFormedPage, last_runs_on}
use Rattle.commit_body.specs.Patches.{with_lasts}
use Rattle.cut_steps.specs.RawChains.{current_chain, raw_chains, earlier_pieces, chains_before, offset_behind, current_piece}
use Rattle.cut_steps.specs.RawCut.{IsRawChainOf, CutsRaw}
use Rattle.cut_steps.specs.Pieces.{Follows, EndsBefore, AllEndBefore, ChainsEndBefore, BeginsAt, ContinuesWithByte}
use Rattle.cut_steps.specs.Pending.{HasSent, sent_chunks, patches_so_far, AllHaveFour}
use Rattle.cut_steps.specs.Writing.{IsWriting}
use Rattle.cut_steps.specs.Between.{IsBetween}
use Rattle.cut_steps.proofs.Sending.{sends_done}
use Rattle.cut_steps.proofs.Sealing.{agree, sent_by_now, IsSealed, sealed}
use Rattle.cut_steps.proofs.RunningOn.{so_far-one}
use Rattle.cut_steps.proofs.StepLemmas.{flags-one, last_runs_on-one}

-- Where chains end

-- the one place comes before the other, or is the same
abbrev pub Reaches : ℕ → ℕ → ℕ → ℕ → Type 0
Reaches chunk_id offset later further = (chunk_id < later) ⊎ ((chunk_id ≡ later) × (offset ≤ further))

ends_before-more : (piece : Piece) (chunk_id offset later further : ℕ) → Reaches chunk_id offset later further → EndsBefore chunk_id offset piece → EndsBefore later further piece
ends_before-more piece chunk_id offset later further (inl less) (inl before) = inl (omega (arith, less, before))
ends_before-more piece chunk_id offset later further (inl less) (inr before) = inl (omega (arith, less, before.0))
ends_before-more piece chunk_id offset later further (inr same) (inl before) = inl (omega (arith, same.0, before))
ends_before-more piece chunk_id offset later further (inr same) (inr before) = inr (before.0 ∙ same.0, omega (arith, same.1, before.1))

all_end_before-more : (pieces : List Piece) (chunk_id offset later further : ℕ) → Reaches chunk_id offset later further
    → AllEndBefore chunk_id offset pieces → AllEndBefore later further pieces
all_end_before-more [] chunk_id offset later further r h = tt
all_end_before-more (piece ∷ pieces) chunk_id offset later further r h =
    (ends_before-more piece chunk_id offset later further r h.0, all_end_before-more pieces chunk_id offset later further r h.1)

pub chains_end_before-more : (chains : List Chain) (chunk_id offset later further : ℕ) → Reaches chunk_id offset later further
    → ChainsEndBefore chunk_id offset chains → ChainsEndBefore later further chains
chains_end_before-more [] chunk_id offset later further r h = tt
chains_end_before-more (chain ∷ chains) chunk_id offset later further r h =
    (all_end_before-more chain.pieces chunk_id offset later further r h.0, chains_end_before-more chains chunk_id offset later further r h.1)

-- the pieces of a packet, the last of which is in this chunk
pub all_end_before-last : (earlier : List Piece) (first offset : ℕ) (piece : Piece) → Follows first earlier → piece.at.chunk_id ≡ first + length earlier
    → piece.fragment.offset + length piece.fragment.bytes ≤ offset → AllEndBefore piece.at.chunk_id offset (earlier ++ piece ∷ [])
all_end_before-last [] first offset piece f c h = (inr (refl, h), tt)
all_end_before-last (one ∷ earlier) first offset piece f c h =
    (inl (omega (arith, f.0, c)), all_end_before-last earlier (suc first) offset piece f.1 (omega (arith, c)) h)

-- a packet begins where its first piece does, and that is no later than its last one
pub begin_reaches : (earlier : List Piece) (first first_offset offset : ℕ) (piece : Piece) → BeginsAt first first_offset (earlier ++ piece ∷ [])
    → piece.at.chunk_id ≡ first + length earlier → piece.fragment.offset ≤ offset → Reaches first first_offset piece.at.chunk_id offset
begin_reaches [] first first_offset offset piece b c h = inr (sym b.0, omega (arith, b.1, h))
begin_reaches (one ∷ earlier) first first_offset offset piece b c h = inl (omega (arith, c))

pub offset_behind-last : (done : List (List ℕ)) (at : ℕ) (now : List ℕ) → offset_behind at (done ++ now ∷ []) ≡ offset_behind at done + length now + 4
offset_behind-last [] at now = refl
offset_behind-last (bytes ∷ others) at now = offset_behind-last others (at + length bytes + 4) now

-- A packet ends

-- the packet is finished in the held chunk
pub between_finished : (size : ℕ) (packet : Packet) (older : List Packet) (pages : List Page) (q : Page) (done : List (List ℕ)) (now : List ℕ)
    (unsent : List Patch) → IsWriting size packet older pages q.continues done now unsent [] []
    → q.fragments ≡ done ++ now ∷ [] → q.runs_on ≡ false → q.dropped ≡ false → ContinuesWithByte q.continues done now
    → IsBetween size (finished_packet packet ∷ older) pages (raw_chains (pages ++ q ∷ [])) unsent (offset_behind 4 (done ++ now ∷ []))
between_finished size packet older pages q done now unsent w fragments stays unmarked some =
    let later : Packet = finished_packet packet in
    let earlier : List Piece = earlier_pieces pages q.continues done in
    let piece : Piece = current_piece pages done now in
    let before : List Chain = chains_before pages q.continues done in
    let chains : List Chain = current_chain pages q.continues done now ∷ before in
    let offset : ℕ = offset_behind 4 (done ++ now ∷ []) in
    let sent : List SentPatch = sent_by_now packet older pages q.continues done now in
    let patches : List Patch = patches_so_far pages [] unsent in
    let s : IsSealed size later older (pages ++ q ∷ []) patches [] sent chains =
    sealed size packet later older pages q done now unsent [] w fragments stays unmarked some refl refl refl w.given_up in
    subst (λ (cs : List Chain). IsBetween size (later ∷ older) pages cs unsent offset) (sym s.raw) (record {
      chains_are = subst (λ (ps : List Packet). AllZip (IsRawChainOf size patches) ps chains) (sym s.kept) s.chains_are;
      begins = s.begins;
      sends = subst (λ (xs : List SentPatch). HasSent pages xs unsent []) (sym (ap (λ (ps : List Packet). all_sent ps chains) s.kept ∙ s.sent_is)) w.sends;
      none_open = ap (λ (ps : List Packet). open_chunks ps chains) s.kept ∙ s.open_is;
      four = w.four;
      ends = (
        all_end_before-last earlier w.first offset piece w.bytes.follows w.bytes.chunk (omega (arith, offset_behind-last done 4 now)),
        chains_end_before-more before w.first w.first_offset (length pages) offset
            (begin_reaches earlier w.first w.first_offset offset piece w.begins_at w.bytes.chunk (omega (arith, offset_behind-last done 4 now)))
            w.older_end,
      );
      large = w.large;
      full = w.full;
      flags = w.flags;
    })

-- Chunks

-- the held chunk is completed
pub between_completed : (size : ℕ) (packets : List Packet) (pages : List Page) (q : Page) (chains : List Chain) (unsent : List Patch) (offset : ℕ)
    → IsBetween size packets pages chains unsent offset
    → q.continues ≡ last_runs_on false pages → q.runs_on ≡ false → q.awaits ≡ false → q.patches ≡ with_lasts [] unsent → IsWellFormedPage size q
    → IsBetween size packets (pages ++ q ∷ []) chains [] 4
between_completed size packets pages q chains unsent offset b continues stays settled brings full =
    let all : List Page = pages ++ q ∷ [] in
    let longer : length all ≡ length pages + 1 = length-append pages (q ∷ []) in
    let same : patches_so_far all [] [] ≡ patches_so_far pages [] unsent =
    so_far-one pages q [] unsent brings in
    record {
      chains_are = subst (λ (ps : List Patch). AllZip (IsRawChainOf size ps) (kept_of packets) chains) (sym same) b.chains_are;
      begins = b.begins;
      sends = sends_done pages (all_sent (kept_of packets) chains) unsent [] q brings
          (settled ∙ ap (λ (x : Bool). x && is_among (length pages) (sent_chunks (all_sent (kept_of packets) chains) ++ [])) (sym stays)) b.sends;
      none_open = b.none_open;
      four = subst AllHaveFour (sym same) b.four;
      ends = chains_end_before-more chains (length pages) offset (length all) 4 (inl (omega (arith, longer))) b.ends;
      large = b.large;
      full = All-push (IsWellFormedPage size) pages q b.full full;
      flags = flags-one pages false q b.flags continues;
    }

-- no chunk is held: the pages are a cut
pub between_cut : (size : ℕ) (packets : List Packet) (pages : List Page) (offset : ℕ) → IsBetween size packets pages (raw_chains pages) [] offset
    → last_runs_on false pages ≡ false → CutsRaw size packets pages
between_cut size packets pages offset b stays = record {
  full = b.full;
  flags = b.flags;
  last = λ e. absurd (true≢false (sym e ∙ stays));
  chains = subst (λ (ps : List Patch). AllZip (IsRawChainOf size ps) (kept_of packets) (raw_chains pages)) (append-nil (patches_of pages)) b.chains_are;
  patches = agree (kept_of packets) (raw_chains pages) pages (all_sent (kept_of packets) (raw_chains pages)) [] b.sends refl b.none_open;
  begins = b.begins;
}

-- a chunk is held: they are with it as their last one
pub between_held_cut : (size : ℕ) (packets : List Packet) (pages : List Page) (q : Page) (unsent : List Patch) (offset : ℕ)
    → IsBetween size packets pages (raw_chains (pages ++ q ∷ [])) unsent offset
    → q.continues ≡ last_runs_on false pages → q.runs_on ≡ false → q.awaits ≡ false → q.patches ≡ with_lasts [] unsent → IsWellFormedPage size q
    → CutsRaw size packets (pages ++ q ∷ [])
between_held_cut size packets pages q unsent offset b continues stays settled brings full =
    between_cut size packets (pages ++ q ∷ []) 4
    (between_completed size packets pages q (raw_chains (pages ++ q ∷ [])) unsent offset b continues stays settled brings full)
    (last_runs_on-one pages false q ∙ stays)
