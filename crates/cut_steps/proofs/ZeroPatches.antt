-- The patches that give 0 for the lengths that a packet leaves open: they depend on the places of its bytes alone.
use Rattle.std.proofs.Common.{◌≡◌, ◌∙◌, ℕ, ◌+◌, ◌<◌, ◌≤◌, ◌⊎◌, Bool, true, false, not, cond, List, [], ◌∷◌, ◌++◌, length, map, refl, sym, ap, subst, arith, inl, inr}
use Rattle.std.specs.Prelude.{◌==◌, nat_le, filter, Some, Option, unwrap_or, is_some, ⊤}
use Rattle.std.proofs.lemmas.Bool.{cases_Bool, le-leb, lt-leb, leb-true, eq-eqb, ne_eqb}
use Rattle.trace_model.specs.Packets.{Packet, Text}
use Rattle.trace_model.specs.Row.{Piece, Chain, bytes_of}
use Rattle.trace_model.specs.Sent.{SentPatch, chunk_at, offset_at, last_chunk, sent_at_drop, sent_of, sent_for, crosses, open_in}
use Rattle.cut_steps.specs.Pieces.{AllStandIn}
use Rattle.cut_steps.specs.Pending.{sent_now}
use Rattle.cut_steps.specs.GivingUp.{is_earlier, zero_patches, AllClearOf}
use Rattle.cut_steps.proofs.Places.{stands_within}
use Rattle.cut_steps.proofs.GrowingPlaces.{SamePlacesBelow}

pub last_chunk-one : (a : List Piece) (piece : Piece) → last_chunk (a ++ piece ∷ []) ≡ piece.at.chunk_id
last_chunk-one [] piece = refl
last_chunk-one (one ∷ []) piece = refl
last_chunk-one (one ∷ next ∷ a) piece = last_chunk-one (next ∷ a) piece

-- Places

abbrev pub AllBelow : ℕ → List ℕ → Type 0
AllBelow count [] = ⊤
AllBelow count (at ∷ places) = (at < count) × AllBelow count places

pub below-standing : (places : List ℕ) (pieces : List Piece) → AllStandIn pieces places → AllBelow (length (bytes_of pieces)) places
below-standing [] pieces stand = tt
below-standing (at ∷ places) pieces stand = (omega (arith, stands_within pieces at stand.0), below-standing places pieces stand.1)

-- the lengths of these that stand inside so many bytes
abbrev pub inside : ℕ → List ℕ → List ℕ
inside count places = filter (λ at. nat_le (at + 4) count) places

pub below-inside : (places : List ℕ) (count : ℕ) → AllBelow count (inside count places)
below-inside [] count = tt
below-inside (at ∷ places) count = elim (cases_Bool (nat_le (at + 4) count)) [
  | inl met ↦
      subst (λ (b : Bool). AllBelow count (cond b (at ∷ inside count places) (inside count places))) (sym met)
      (omega (arith, leb-true (at + 4) count met), below-inside places count)
  | inr missed ↦
      subst (λ (b : Bool). AllBelow count (cond b (at ∷ inside count places) (inside count places))) (sym missed) (below-inside places count)
]

pub inside-standing : (places : List ℕ) (pieces : List Piece) → AllStandIn pieces places → inside (length (bytes_of pieces)) places ≡ places
inside-standing [] pieces stand = refl
inside-standing (at ∷ places) pieces stand =
    ap (λ (b : Bool). cond b (at ∷ inside (length (bytes_of pieces)) places) (inside (length (bytes_of pieces)) places))
    (le-leb (at + 4) (length (bytes_of pieces)) (stands_within pieces at stand.0))
    ∙ ap (λ (xs : List ℕ). at ∷ xs) (inside-standing places pieces stand.1)

pub inside-behind : (at : ℕ) (places : List ℕ) (count : ℕ) → count ≤ at → inside count (at ∷ places) ≡ inside count places
inside-behind at places count behind =
    ap (λ (b : Bool). cond b (at ∷ inside count places) (inside count places)) (lt-leb (at + 4) count (omega (arith, behind)))

pub clear-standing : (places : List ℕ) (pieces : List Piece) → AllStandIn pieces places → AllClearOf (length (bytes_of pieces)) places
clear-standing [] pieces stand = tt
clear-standing (at ∷ places) pieces stand = (inl (stands_within pieces at stand.0), clear-standing places pieces stand.1)

-- less than four bytes more hold no further length
pub inside-more : (places : List ℕ) (count more : ℕ) → count ≤ more → more ≤ count + 3 → AllClearOf count places → inside more places ≡ inside count places
inside-more [] count more low high clear = refl
inside-more (at ∷ places) count more low high clear =
    ap (λ (b : Bool). cond b (at ∷ inside more places) (inside more places)) (same clear.0)
    ∙ ap (λ (xs : List ℕ). cond (nat_le (at + 4) count) (at ∷ xs) xs) (inside-more places count more low high clear.1)
  where
    same : (at + 4 ≤ count) ⊎ (count ≤ at) → nat_le (at + 4) more ≡ nat_le (at + 4) count
    same (inl here) = le-leb (at + 4) more (omega (arith, here, low)) ∙ sym (le-leb (at + 4) count here)
    same (inr behind) = lt-leb (at + 4) more (omega (arith, behind, high)) ∙ sym (lt-leb (at + 4) count (omega (arith, behind)))

-- Patches

zero_patches-cons : (pieces : List Piece) (at : ℕ) (places : List ℕ)
    → zero_patches pieces (at ∷ places) ≡ cond (is_earlier pieces at) (sent_at_drop pieces at ∷ zero_patches pieces places) (zero_patches pieces places)
zero_patches-cons pieces at places = step (is_earlier pieces at)
  where
    step : (b : Bool) → map (sent_at_drop pieces) (cond b (at ∷ filter (is_earlier pieces) places) (filter (is_earlier pieces) places))
        ≡ cond b (sent_at_drop pieces at ∷ zero_patches pieces places) (zero_patches pieces places)
    step true = refl
    step false = refl

pub zero_patches-same : (places : List ℕ) (count : ℕ) (a b : List Piece) → AllBelow count places → SamePlacesBelow count a b → last_chunk a ≡ last_chunk b
    → zero_patches a places ≡ zero_patches b places
zero_patches-same [] count a b below same last = refl
zero_patches-same (at ∷ places) count a b below same last =
    let chunk : chunk_at a at ≡ chunk_at b at = same.chunks at below.0 in
    let offset : offset_at a at ≡ offset_at b at = same.offsets at below.0 in
    let earlier : is_earlier a at ≡ is_earlier b at =
    ap (λ (n : ℕ). not (n == last_chunk a)) chunk ∙ ap (λ (n : ℕ). not (chunk_at b at == n)) last in
    let one : sent_at_drop a at ≡ sent_at_drop b at = cc in
    zero_patches-cons a at places
    ∙ ap (λ (t : Bool). cond t (sent_at_drop a at ∷ zero_patches a places) (zero_patches a places)) earlier
    ∙ ap (λ (s : SentPatch). cond (is_earlier b at) (s ∷ zero_patches a places) (zero_patches a places)) one
    ∙ ap (λ (ss : List SentPatch). cond (is_earlier b at) (sent_at_drop b at ∷ ss) ss) (zero_patches-same places count a b below.1 same last)
    ∙ sym (zero_patches-cons b at places)

-- the length stands in an earlier chunk
pub zero_patches-earlier : (pieces : List Piece) (at : ℕ) (places : List ℕ) → (chunk_at pieces at ≡ last_chunk pieces → ⊥)
    → zero_patches pieces (at ∷ places) ≡ sent_at_drop pieces at ∷ zero_patches pieces places
zero_patches-earlier pieces at places apart =
    zero_patches-cons pieces at places
    ∙ ap (λ (t : Bool). cond (not t) (sent_at_drop pieces at ∷ zero_patches pieces places) (zero_patches pieces places)) (ne_eqb (chunk_at pieces at) (last_chunk pieces) apart)

-- it stands in the last one
pub zero_patches-here : (pieces : List Piece) (at : ℕ) (places : List ℕ) → chunk_at pieces at ≡ last_chunk pieces
    → zero_patches pieces (at ∷ places) ≡ zero_patches pieces places
zero_patches-here pieces at places same =
    zero_patches-cons pieces at places
    ∙ ap (λ (t : Bool). cond (not t) (sent_at_drop pieces at ∷ zero_patches pieces places) (zero_patches pieces places)) (eq-eqb (chunk_at pieces at) (last_chunk pieces) same)

-- what is sent for a packet that was given up
pub sent_of-given : (packet : Packet) (chain : Chain) (text : Text) → packet.given_up ≡ Some text
    → sent_of packet chain ≡ sent_now chain.pieces text.closed ++ zero_patches chain.pieces (open_in chain.pieces text)
sent_of-given packet chain text given =
    ap (λ (o : Option Text). map (sent_for chain.pieces) (filter (crosses chain.pieces) (unwrap_or o packet.text).closed)
    ++ cond (is_some o) (zero_patches chain.pieces (open_in chain.pieces (unwrap_or o packet.text))) []) given
