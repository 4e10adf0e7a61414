-- Each patch that a writer sends stands in what it wrote: of a chunk's last fragment, once all patches are put in, its four bytes are those of the patch.
use Rattle.std.proofs.Common.{◌≡◌, ◌∙◌, ℕ, suc, ◌+◌, ◌-◌, ◌≤◌, ◌⊎◌, Bool, true, false, not, ◌&&◌, List, [], ◌∷◌, ◌++◌, length, map, Option, Some, None, refl, sym, ap, subst, arith, inl, inr, unwrap_or}
use Rattle.std.specs.Prelude.{cond, ◌==◌, filter, is_some, nat_le, slice_get}
use Rattle.std.specs.List.{AllZip}
use Rattle.std.proofs.lemmas.Bool.{and_parts, eq-eqb, eqb-true, leb-true, or_left, or_right}
use Rattle.wire_varint.specs.Varint.{redundant}
use Rattle.wire_varint.proofs.Lengths.{length-redundant}
use Rattle.trace_model.specs.Cut.{IsChainOf}
use Rattle.trace_model.specs.Images.{Fragment, Patch, holds_patch, last_holds}
use Rattle.trace_model.specs.Packets.{Packet, NestedLength, Text, open_places}
use Rattle.trace_model.specs.Pages.{Page, chunk_of, patches_of}
use Rattle.trace_model.specs.Row.{Chain, Piece, bytes_of}
use Rattle.trace_model.specs.Sent.{AllChunksBelow, Behind, PatchesAre, SentPatch, all_sent, as_sent, chunk_at, crosses, is_placed, is_placed_in, last_chunk, offset_at, open_in, sent_at_drop, sent_for, sent_of, text_of}
use Rattle.trace_model.specs.Sequences.{is_among}
use Rattle.trace_model.specs.Written.{settled_fragments}
use Rattle.trace_model.proofs.CursorLemmas.{Each, each-append, each-filter, each-map, each-then}
use Rattle.commit_laws.proofs.ChainTexts.{closed_stands, open_stands}
use Rattle.commit_laws.proofs.LastFragments.{EndsBefore, front_below, front_or_last, holds_end, settled_end, with_text}
use Rattle.commit_laws.proofs.PageCompletes.{AllHeld, held_all_lie}
use Rattle.commit_laws.proofs.PatchOrder.{AllLieIn, AllStandIn, LiesIn, put_all, put_all_long}
use Rattle.commit_laws.proofs.RowPieces.{IsChainFrom, IsFrom, IsInPage, IsInPiece, chunk_inside, piece_at}
use Rattle.commit_laws.proofs.Standing.{Stands, stands_front, stands_part}
use Rattle.commit_laws.proofs.TextLengths.{HasAllLengths, HasLengths}

module _ (pages : List Page) where
  -- the bytes of a last fragment of this chunk once all patches are put in
  abbrev pub settled_bytes : ℕ → Fragment → List ℕ
  settled_bytes chunk_id last = put_all chunk_id last.offset (patches_of pages) last.bytes

  -- all patches for each page lie in its last fragment
  abbrev pub AllLie : Type 0
  AllLie = (chunk_id : ℕ) (page : Page) → slice_get pages chunk_id ≡ Some page → (front : List Fragment) (last : Fragment) → (chunk_of page).fragments ≡ front ++ last ∷ []
      → AllLieIn chunk_id last.offset (length last.bytes) (patches_of pages)

  -- four bytes at a place of the page's last fragment stand there
  abbrev StandThere : ℕ → ℕ → List ℕ → Type 0
  StandThere chunk_id offset bytes =
      (page : Page) → slice_get pages chunk_id ≡ Some page → (front : List Fragment) (last : Fragment) → (chunk_of page).fragments ≡ front ++ last ∷ []
      → last.offset ≤ offset → offset + 4 ≤ last.offset + length last.bytes → Stands (settled_bytes chunk_id last) (offset - last.offset) bytes

  -- a patch stands where it says
  abbrev IsRightThere : Patch → Type 0
  IsRightThere patch = StandThere patch.chunk_id patch.offset patch.bytes

  module _ (all : AllLie) where
    -- what stands in a chain stands in the page where it lies
    in_page : (pieces : List Piece) (least at : ℕ) (bytes : List ℕ) → Each (IsFrom (IsInPage pages) least) pieces → length bytes ≡ 4 → Stands (bytes_of pieces) at bytes
        → StandThere (chunk_at pieces at) (offset_at pieces at) bytes
    in_page pieces least at bytes each four stands page get front last is low high =
        found (piece_at (IsFrom (IsInPage pages) least) pieces at each (let fits = stands.fits in omega (arith, fits, four)))
      where
        found : IsInPiece (IsFrom (IsInPage pages) least) pieces at → Stands (settled_bytes (chunk_at pieces at) last) (offset_at pieces at - last.offset) bytes
        found in_piece = by_place (front_or_last (EndsBefore last.offset) front (with_text last (settled_bytes (chunk_at pieces at) last)) in_piece.piece.at.passed in_piece.piece.fragment
            (front_below 4 page.dropped page.fragments front last is)
            (subst (λ (fs : List Fragment). slice_get fs in_piece.piece.at.passed ≡ Some in_piece.piece.fragment) (settled_end (patches_of pages) (chunk_at pieces at) front last)
            (subst (λ (fs : List Fragment). slice_get (settled_fragments (patches_of pages) (chunk_at pieces at) fs) in_piece.piece.at.passed ≡ Some in_piece.piece.fragment) is same_page)))
          where
            there : IsInPage pages in_piece.piece.at.chunk_id in_piece.piece.at.passed in_piece.piece.fragment
            there = in_piece.holds.0

            same_page : slice_get (settled_fragments (patches_of pages) (chunk_at pieces at) (chunk_of page).fragments) in_piece.piece.at.passed ≡ Some in_piece.piece.fragment
            same_page =
                let one : slice_get pages in_piece.piece.at.chunk_id ≡ Some page = ap (slice_get pages) (sym in_piece.chunk) ∙ get in
                let other = there.get in
                let same : there.page ≡ page = cc in
                subst (λ (n : ℕ). slice_get (settled_fragments (patches_of pages) n (chunk_of page).fragments) in_piece.piece.at.passed ≡ Some in_piece.piece.fragment) (sym in_piece.chunk)
                (subst (λ (p : Page). slice_get (settled_fragments (patches_of pages) in_piece.piece.at.chunk_id (chunk_of p).fragments) in_piece.piece.at.passed ≡ Some in_piece.piece.fragment) same there.there)

            long : length (settled_bytes (chunk_at pieces at) last) ≡ length last.bytes
            long = put_all_long (chunk_at pieces at) last.offset (length last.bytes) (patches_of pages) last.bytes refl (all (chunk_at pieces at) page get front last is)

            by_place : EndsBefore last.offset in_piece.piece.fragment ⊎ (with_text last (settled_bytes (chunk_at pieces at) last) ≡ in_piece.piece.fragment)
                → Stands (settled_bytes (chunk_at pieces at) last) (offset_at pieces at - last.offset) bytes
            by_place (inl before) =
                let inside = in_piece.inside in
                let offset = in_piece.offset in
                absurd (omega (arith, before, inside, offset, low))
            by_place (inr same) =
                let text : settled_bytes (chunk_at pieces at) last ≡ in_piece.piece.fragment.bytes = ap (λ (f : Fragment). f.bytes) same in
                let start : last.offset ≡ in_piece.piece.fragment.offset = ap (λ (f : Fragment). f.offset) same in
                let as_long = ap (λ (xs : List ℕ). length xs) text in
                let l = long in
                let offset = in_piece.offset in
                let off_is : in_piece.off ≡ offset_at pieces at - last.offset = omega (arith, offset, start) in
                let behind : Stands (in_piece.piece.fragment.bytes ++ in_piece.behind) in_piece.off bytes =
                stands_part in_piece.front (in_piece.piece.fragment.bytes ++ in_piece.behind) in_piece.off bytes
                (subst (λ (n : ℕ). Stands (in_piece.front ++ (in_piece.piece.fragment.bytes ++ in_piece.behind)) n bytes) (sym in_piece.place)
                (subst (λ (xs : List ℕ). Stands xs at bytes) in_piece.bytes stands)) in
                subst (λ (xs : List ℕ). Stands xs (offset_at pieces at - last.offset) bytes) (sym text)
                (subst (λ (n : ℕ). Stands in_piece.piece.fragment.bytes n bytes) off_is
                (stands_front in_piece.piece.fragment.bytes in_piece.behind in_piece.off bytes behind (omega (arith, as_long, l, offset, start, high, four))))

    -- what is sent with another chunk than the first
    abbrev pub IsSentRight : SentPatch → Type 0
    IsSentRight one = 1 ≤ one.by → StandThere one.chunk_id one.offset one.bytes

    module _ (size : ℕ) (packet : Packet) (chain : Chain) (of : IsChainOf size packet chain) (texts : HasAllLengths packet) (from : IsChainFrom (IsInPage pages) chain) where
      -- each nested length of the text stands in the chain where it lies in it
      lengths_right : HasLengths (text_of packet)
      lengths_right = by_given packet.given_up refl
        where
          by_given : (given : Option Text) → packet.given_up ≡ given → HasLengths (unwrap_or given packet.text)
          by_given (Some text) e = texts.given_up text e
          by_given None e = texts.text

      closed_right : (closed : List NestedLength) → HasLengths (record { levels = (text_of packet).levels; closed = closed })
          → Each (λ (nested : NestedLength). IsSentRight (sent_for chain.pieces nested)) closed
      closed_right [] h = tt
      closed_right (nested ∷ closed) h = (
        (λ some page get front last is low high.
            let inside = chunk_inside chain.pieces (nested.at + 3 + nested.size) some in
            in_page chain.pieces chain.at.chunk_id nested.at (redundant nested.size) from (length-redundant nested.size)
            (closed_stands packet (bytes_of chain.pieces) of.bytes nested.at nested.size h.0 (omega (arith, inside)))
            page get front last is low high),
        closed_right closed h.1,
      )

      open_right : (text : Text) → packet.given_up ≡ Some text → (places : List ℕ) → ((n : ℕ) → is_among n places ≡ true → is_among n (open_places text.levels) ≡ true)
          → Each (λ (at : ℕ). IsSentRight (sent_at_drop chain.pieces at)) (filter (λ at. nat_le (at + 4) (length (bytes_of chain.pieces))) places)
      open_right text e [] among = tt
      open_right text e (at ∷ places) among =
          by_test (nat_le (at + 4) (length (bytes_of chain.pieces))) refl (open_right text e places (λ n h. among n (or_right (at == n) (is_among n places) h)))
        where
          by_test : (b : Bool) → nat_le (at + 4) (length (bytes_of chain.pieces)) ≡ b
              → Each (λ (n : ℕ). IsSentRight (sent_at_drop chain.pieces n)) (filter (λ n. nat_le (n + 4) (length (bytes_of chain.pieces))) places)
              → Each (λ (n : ℕ). IsSentRight (sent_at_drop chain.pieces n)) (cond b (at ∷ filter (λ n. nat_le (n + 4) (length (bytes_of chain.pieces))) places) (filter (λ n. nat_le (n + 4) (length (bytes_of chain.pieces))) places))
          by_test true t rest = (
            (λ some page get front last is low high.
                in_page chain.pieces chain.at.chunk_id at (redundant 0) from (length-redundant 0)
                (open_stands packet (bytes_of chain.pieces) of.bytes text e at (among at (or_left (at == at) (is_among at places) (eq-eqb at at refl))) (leb-true (at + 4) (length (bytes_of chain.pieces)) t))
                page get front last is low high),
            rest,
          )
          by_test false t rest = rest

      sent_right : Each IsSentRight (sent_of packet chain)
      sent_right =
          each-append IsSentRight (map (sent_for chain.pieces) (filter (crosses chain.pieces) (text_of packet).closed))
          (cond (is_some packet.given_up)
          (map (sent_at_drop chain.pieces) (filter (λ at. not (chunk_at chain.pieces at == last_chunk chain.pieces)) (open_in chain.pieces (text_of packet)))) [])
          (each-map (λ (nested : NestedLength). IsSentRight (sent_for chain.pieces nested)) IsSentRight (sent_for chain.pieces) (λ nested h. h) (filter (crosses chain.pieces) (text_of packet).closed)
          (each-filter (λ (nested : NestedLength). IsSentRight (sent_for chain.pieces nested)) (crosses chain.pieces) (text_of packet).closed
          (closed_right (text_of packet).closed lengths_right)))
          (by_given packet.given_up refl)
        where
          by_given : (given : Option Text) → packet.given_up ≡ given
              → Each IsSentRight (cond (is_some given)
              (map (sent_at_drop chain.pieces) (filter (λ at. not (chunk_at chain.pieces at == last_chunk chain.pieces)) (open_in chain.pieces (unwrap_or given packet.text)))) [])
          by_given None e = tt
          by_given (Some text) e =
              each-map (λ (at : ℕ). IsSentRight (sent_at_drop chain.pieces at)) IsSentRight (sent_at_drop chain.pieces) (λ at h. h)
              (filter (λ at. not (chunk_at chain.pieces at == last_chunk chain.pieces)) (open_in chain.pieces text))
              (each-filter (λ (at : ℕ). IsSentRight (sent_at_drop chain.pieces at)) (λ at. not (chunk_at chain.pieces at == last_chunk chain.pieces)) (open_in chain.pieces text)
              (open_right text e (open_places text.levels) (λ n h. h)))

    all_right : (size : ℕ) (packets : List Packet) (chains : List Chain) → AllZip (IsChainOf size) packets chains → Each HasAllLengths packets
        → Each (IsChainFrom (IsInPage pages)) chains → Each IsSentRight (all_sent packets chains)
    all_right size [] chains of texts from = tt
    all_right size (packet ∷ packets) [] of texts from = absurd of
    all_right size (packet ∷ packets) (chain ∷ chains) of texts from =
        each-append IsSentRight (all_sent packets chains) (sent_of packet chain)
        (all_right size packets chains of.1 texts.1 from.1) (sent_right size packet chain of.0 texts.0 from.0)

    -- The patches that the pages bring

    page_right : (by : ℕ) (patches : List Patch) → Each IsSentRight (map (as_sent by) patches) → AllChunksBelow by patches → Each IsRightThere patches
    page_right by [] h below = tt
    page_right by (patch ∷ patches) h below =
        let low = below.0 in
        (h.0 (omega (arith, low)), page_right by patches h.1 below.1)

    pages_right : (sent : List SentPatch) → Each IsSentRight sent → (others : List Page) (first : ℕ) → PatchesAre sent first others → Behind first others → Each IsRightThere (patches_of others)
    pages_right sent h [] first are behind = tt
    pages_right sent h (page ∷ others) first are behind =
        each-append IsRightThere page.patches (patches_of others)
        (page_right first page.patches (subst (Each IsSentRight) (sym are.0) (each-filter IsSentRight (λ one. one.by == first) sent h)) behind.0)
        (pages_right sent h others (suc first) are.1 behind.1)

  -- Placed patches

  -- what being placed says of a patch for this page
  pub placed_at : (chunk_id : ℕ) (page : Page) → slice_get pages chunk_id ≡ Some page → (patch : Patch) → is_placed pages patch ≡ true → (patch.chunk_id == chunk_id) ≡ true
      → (page.awaits ≡ true) × (last_holds (chunk_of page).fragments patch ≡ true) × (length patch.bytes ≡ 4)
  placed_at chunk_id page get patch placed e =
      let here : is_placed_in (Some page) patch ≡ true = ap (λ (o : Option Page). is_placed_in o patch) (sym get ∙ ap (slice_get pages) (sym (eqb-true patch.chunk_id chunk_id e))) ∙ placed in
      let one = and_parts (page.awaits && last_holds (chunk_of page).fragments patch) (length patch.bytes == 4) here in
      let two = and_parts page.awaits (last_holds (chunk_of page).fragments patch) one.0 in
      (two.0, two.1, eqb-true (length patch.bytes) 4 one.1)

  -- so the last fragment holds it
  pub held_at : (chunk_id : ℕ) (page : Page) → slice_get pages chunk_id ≡ Some page → (front : List Fragment) (last : Fragment) → (chunk_of page).fragments ≡ front ++ last ∷ []
      → (patches : List Patch) → Each (λ (patch : Patch). is_placed pages patch ≡ true) patches → AllHeld chunk_id front last patches
  held_at chunk_id page get front last is patches placed =
      each-then (λ (patch : Patch). is_placed pages patch ≡ true) (λ (patch : Patch). (patch.chunk_id == chunk_id) ≡ true → (holds_patch last patch ≡ true) × (length patch.bytes ≡ 4))
      (λ patch here e.
      let at = placed_at chunk_id page get patch here e in
      (sym (holds_end front last patch) ∙ sym (ap (λ (fs : List Fragment). last_holds fs patch) is) ∙ at.1, at.2))
      patches placed

  pub all_lie : Each (λ (patch : Patch). is_placed pages patch ≡ true) (patches_of pages) → AllLie
  all_lie placed chunk_id page get front last is =
      held_all_lie chunk_id front last (patches_of pages) (held_at chunk_id page get front last is (patches_of pages) placed)

  stand_all : (chunk_id : ℕ) (page : Page) → slice_get pages chunk_id ≡ Some page → (front : List Fragment) (last : Fragment) → (chunk_of page).fragments ≡ front ++ last ∷ []
      → (patches : List Patch) → AllLieIn chunk_id last.offset (length last.bytes) patches → Each IsRightThere patches → length (settled_bytes chunk_id last) ≡ length last.bytes
      → AllStandIn chunk_id last.offset (settled_bytes chunk_id last) patches
  stand_all chunk_id page get front last is [] lie right long = tt
  stand_all chunk_id page get front last is (patch ∷ patches) lie right long = (
    (λ e.
        let same : patch.chunk_id ≡ chunk_id = eqb-true patch.chunk_id chunk_id e in
        let lies = lie.0 e in
        record {
          lies = subst (λ (n : ℕ). LiesIn chunk_id last.offset n patch) (sym long) lies;
          stands = subst (λ (n : ℕ). Stands (settled_bytes n last) (patch.offset - last.offset) patch.bytes) same
              (right.0 page (ap (slice_get pages) same ∙ get) front last is lies.least lies.most);
        }),
    stand_all chunk_id page get front last is patches lie.1 right.1 long,
  )

  -- of each page all patches lie and stand in the last fragment
  pub all_stand : (size : ℕ) (packets : List Packet) (chains : List Chain) → AllZip (IsChainOf size) packets chains → Each HasAllLengths packets
      → Each (IsChainFrom (IsInPage pages)) chains → PatchesAre (all_sent packets chains) 0 pages → Behind 0 pages → AllLie
      → (chunk_id : ℕ) (page : Page) → slice_get pages chunk_id ≡ Some page → (front : List Fragment) (last : Fragment) → (chunk_of page).fragments ≡ front ++ last ∷ []
      → AllStandIn chunk_id last.offset (settled_bytes chunk_id last) (patches_of pages)
  all_stand size packets chains of texts from are behind all chunk_id page get front last is =
      let lie = all chunk_id page get front last is in
      stand_all chunk_id page get front last is (patches_of pages) lie
      (pages_right all (all_sent packets chains) (all_right all size packets chains of texts from) pages 0 are behind)
      (put_all_long chunk_id last.offset (length last.bytes) (patches_of pages) last.bytes refl lie)
