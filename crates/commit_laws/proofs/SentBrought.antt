-- Each patch that a writer sends is brought by one of its pages.
use Rattle.std.proofs.Common.{◌≡◌, ◌∙◌, ℕ, zero, suc, ◌+◌, ◌-◌, ◌<◌, ◌≤◌, ◌⊎◌, Bool, true, false, not, ◌||◌, List, [], ◌∷◌, ◌++◌, length, map, Some, refl, sym, ap, arith, inl, inr}
use Rattle.std.specs.Prelude.{cond, ◌==◌, filter, is_some, nat_lt, slice_get}
use Rattle.std.proofs.lemmas.Bool.{false≢true, eq-eqb, eqb-false, eqb-true, or_left, or_right}
use Rattle.trace_model.specs.Images.{Patch}
use Rattle.trace_model.specs.Packets.{Packet}
use Rattle.trace_model.specs.Pages.{Page, patches_of}
use Rattle.trace_model.specs.Row.{Chain, Piece}
use Rattle.trace_model.specs.Sent.{PatchesAre, SentPatch, all_sent, as_sent, chunk_at, chunks_of, crosses, last_chunk, open_in, sent_at_drop, sent_for, sent_of, text_of}
use Rattle.trace_model.specs.Sequences.{is_among}
use Rattle.trace_model.proofs.CursorLemmas.{Each, each-append, each-then}
use Rattle.commit_laws.proofs.RowPieces.{IsChainFrom, IsFrom, IsInPage}

-- Members

pub among_append : (i : ℕ) (xs ys : List ℕ) → is_among i (xs ++ ys) ≡ true → (is_among i xs ≡ true) ⊎ (is_among i ys ≡ true)
among_append i [] ys h = inr h
among_append i (x ∷ xs) ys h = by_first (x == i) h (among_append i xs ys)
  where
    by_first : (b : Bool) → (b || is_among i (xs ++ ys)) ≡ true → (is_among i (xs ++ ys) ≡ true → (is_among i xs ≡ true) ⊎ (is_among i ys ≡ true))
        → ((b || is_among i xs) ≡ true) ⊎ (is_among i ys ≡ true)
    by_first true h rest = inl refl
    by_first false h rest = rest h

each_mapped : {X Y : Type 0} (Q : Y → Type 0) (f : X → Y) → ((x : X) → Q (f x)) → (xs : List X) → Each Q (map f xs)
each_mapped Q f h [] = tt
each_mapped Q f h (x ∷ xs) = (h x, each_mapped Q f h xs)

-- What is sent, and what the pages bring

abbrev pub ids : List SentPatch → List ℕ
ids sent = map (λ (one : SentPatch). one.chunk_id) sent

abbrev sent_by : ℕ → List SentPatch → List SentPatch
sent_by by sent = filter (λ (one : SentPatch). one.by == by) sent

found_by : (i n : ℕ) (sent : List SentPatch) → Each (λ (one : SentPatch). one.by < n) sent → is_among i (ids sent) ≡ true
    → (by : ℕ) × (by < n) × (is_among i (ids (sent_by by sent)) ≡ true)
found_by i n [] low h = absurd (false≢true h)
found_by i n (one ∷ sent) low h = by_first (one.chunk_id == i) refl h (found_by i n sent low.1)
  where
    by_first : (b : Bool) → (one.chunk_id == i) ≡ b → (b || is_among i (ids sent)) ≡ true
        → (is_among i (ids sent) ≡ true → (by : ℕ) × (by < n) × (is_among i (ids (sent_by by sent)) ≡ true))
        → (by : ℕ) × (by < n) × (is_among i (ids (sent_by by (one ∷ sent))) ≡ true)
    by_first true e h rest = (
      one.by,
      low.0,
      ap (λ (b : Bool). is_among i (ids (cond b (one ∷ sent_by one.by sent) (sent_by one.by sent)))) (eq-eqb one.by one.by refl)
          ∙ or_left (one.chunk_id == i) (is_among i (ids (sent_by one.by sent))) e,
    )
    by_first false e h rest = let more = rest h in (more.0, more.1, kept (one.by == more.0) more.0 more.2)
      where
        kept : (c : Bool) (by : ℕ) → is_among i (ids (sent_by by sent)) ≡ true → is_among i (ids (cond c (one ∷ sent_by by sent) (sent_by by sent))) ≡ true
        kept true by k = or_right (one.chunk_id == i) (is_among i (ids (sent_by by sent))) k
        kept false by k = k

ids_as : (by : ℕ) (patches : List Patch) → ids (map (as_sent by) patches) ≡ chunks_of patches
ids_as by [] = refl
ids_as by (patch ∷ patches) = ap (λ (ns : List ℕ). patch.chunk_id ∷ ns) (ids_as by patches)

among_patches : (i : ℕ) (xs ys : List Patch) → is_among i (chunks_of (xs ++ ys)) ≡ (is_among i (chunks_of xs) || is_among i (chunks_of ys))
among_patches i [] ys = refl
among_patches i (x ∷ xs) ys = by_first (x.chunk_id == i) (among_patches i xs ys)
  where
    by_first : (b : Bool) → is_among i (chunks_of (xs ++ ys)) ≡ (is_among i (chunks_of xs) || is_among i (chunks_of ys))
        → (b || is_among i (chunks_of (xs ++ ys))) ≡ ((b || is_among i (chunks_of xs)) || is_among i (chunks_of ys))
    by_first true e = refl
    by_first false e = e

in_pages : (sent : List SentPatch) (i by : ℕ) (pages : List Page) (first : ℕ) → PatchesAre sent first pages → first ≤ by → by < first + length pages
    → is_among i (ids (sent_by by sent)) ≡ true → is_among i (chunks_of (patches_of pages)) ≡ true
in_pages sent i by [] first are low high h = absurd (omega (arith, low, high))
in_pages sent i by (page ∷ pages) first are low high h = by_first (first == by) refl (λ l. in_pages sent i by pages (suc first) are.1 l (omega (arith, high)) h)
  where
    by_first : (b : Bool) → (first == by) ≡ b → (suc first ≤ by → is_among i (chunks_of (patches_of pages)) ≡ true) → is_among i (chunks_of (page.patches ++ patches_of pages)) ≡ true
    by_first true e rest =
        among_patches i page.patches (patches_of pages)
        ∙ or_left (is_among i (chunks_of page.patches)) (is_among i (chunks_of (patches_of pages)))
        (ap (is_among i) (sym (ids_as first page.patches) ∙ ap ids are.0 ∙ ap (λ (n : ℕ). ids (sent_by n sent)) (eqb-true first by e)) ∙ h)
    by_first false e rest =
        let other : first ≡ by → ⊥ = eqb-false first by e in
        among_patches i page.patches (patches_of pages)
        ∙ or_right (is_among i (chunks_of page.patches)) (is_among i (chunks_of (patches_of pages))) (rest (grind (arith, low, other)))

-- no patch is sent with a chunk that there isn't
module _ (n : ℕ) (some : 0 < n) where
  abbrev PiecesLow : List Piece → Type 0
  PiecesLow pieces = Each (λ (piece : Piece). piece.at.chunk_id < n) pieces

  chunk_low : (pieces : List Piece) (at : ℕ) → PiecesLow pieces → chunk_at pieces at < n
  chunk_low [] at low = some
  chunk_low (piece ∷ pieces) at low = by_first (nat_lt at (length piece.fragment.bytes)) (chunk_low pieces (at - length piece.fragment.bytes) low.1)
    where
      by_first : (b : Bool) → chunk_at pieces (at - length piece.fragment.bytes) < n → cond b piece.at.chunk_id (chunk_at pieces (at - length piece.fragment.bytes)) < n
      by_first true rest = low.0
      by_first false rest = rest

  last_low : (pieces : List Piece) → PiecesLow pieces → last_chunk pieces < n
  last_low [] low = some
  last_low (piece ∷ []) low = low.0
  last_low (piece ∷ next ∷ pieces) low = last_low (next ∷ pieces) low.1

  abbrev SentLow : List SentPatch → Type 0
  SentLow sent = Each (λ (one : SentPatch). one.by < n) sent

  sent_low : (packet : Packet) (chain : Chain) → PiecesLow chain.pieces → SentLow (sent_of packet chain)
  sent_low packet chain low =
      each-append (λ (one : SentPatch). one.by < n) (map (sent_for chain.pieces) (filter (crosses chain.pieces) (text_of packet).closed))
      (at_drop (is_some packet.given_up))
      (each_mapped (λ (one : SentPatch). one.by < n) (sent_for chain.pieces) (λ nested. chunk_low chain.pieces (nested.at + 3 + nested.size) low) (filter (crosses chain.pieces) (text_of packet).closed))
      (drop_low (is_some packet.given_up))
    where
      places : List ℕ
      places = filter (λ at. not (chunk_at chain.pieces at == last_chunk chain.pieces)) (open_in chain.pieces (text_of packet))

      at_drop : Bool → List SentPatch
      at_drop b = cond b (map (sent_at_drop chain.pieces) places) []

      drop_low : (b : Bool) → SentLow (at_drop b)
      drop_low true = each_mapped (λ (one : SentPatch). one.by < n) (sent_at_drop chain.pieces) (λ at. last_low chain.pieces low) places
      drop_low false = tt

  all_low : (packets : List Packet) (chains : List Chain) → Each (λ (chain : Chain). PiecesLow chain.pieces) chains → SentLow (all_sent packets chains)
  all_low [] chains low = tt
  all_low (packet ∷ packets) [] low = tt
  all_low (packet ∷ packets) (chain ∷ chains) low =
      each-append (λ (one : SentPatch). one.by < n) (all_sent packets chains) (sent_of packet chain) (all_low packets chains low.1) (sent_low packet chain low.0)

piece_low : (pages : List Page) (least : ℕ) (piece : Piece) → IsFrom (IsInPage pages) least piece → piece.at.chunk_id < length pages
piece_low pages least piece h = within pages piece.at.chunk_id h.0.page h.0.get
  where
    within : (pages : List Page) (i : ℕ) (page : Page) → slice_get pages i ≡ Some page → i < length pages
    within [] i page get = absurd (cc)
    within (other ∷ pages) zero page get = omega arith
    within (other ∷ pages) (suc i) page get = let rest = within pages i page get in omega (arith, rest)

-- a chunk for which a patch is sent is among those for which the pages bring patches
pub sent_brought : (pages : List Page) (packets : List Packet) (chains : List Chain) (i : ℕ) → 0 < length pages → Each (IsChainFrom (IsInPage pages)) chains
    → PatchesAre (all_sent packets chains) 0 pages → is_among i (ids (all_sent packets chains)) ≡ true → is_among i (chunks_of (patches_of pages)) ≡ true
sent_brought pages packets chains i some from are h =
    let low =
    all_low (length pages) some packets chains
    (each-then (IsChainFrom (IsInPage pages)) (λ (chain : Chain). PiecesLow (length pages) some chain.pieces)
    (λ chain is. each-then (IsFrom (IsInPage pages) chain.at.chunk_id) (λ (piece : Piece). piece.at.chunk_id < length pages) (λ piece p. piece_low pages chain.at.chunk_id piece p) chain.pieces is)
    chains from) in
    let found = found_by i (length pages) (all_sent packets chains) low h in
    let high = found.1 in
    in_pages (all_sent packets chains) i found.0 pages 0 are (omega arith) (omega (arith, high)) found.2
