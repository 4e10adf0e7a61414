-- The places of a chain's bytes don't move while it grows at its end: so neither do its holes and the patches that were sent.
use Rattle.std.proofs.Common.{◌≡◌, ◌∙◌, ℕ, ◌+◌, ◌-◌, ◌<◌, ◌≤◌, Bool, true, false, not, cond, List, [], ◌∷◌, ◌++◌, length, map, refl, sym, ap, arith, length-append, inl, inr}
use Rattle.std.specs.Prelude.{◌==◌, filter}
use Rattle.std.proofs.lemmas.List.{map-append, append-nil}
use Rattle.std.proofs.lemmas.List.Elements.{filter-append}
use Rattle.std.proofs.lemmas.Bool.{cases_lt, eq-eqb, ne_eqb}
use Rattle.trace_model.specs.Packets.{NestedLength}
use Rattle.trace_model.specs.Row.{Piece, bytes_of}
use Rattle.trace_model.specs.Sent.{SentPatch, crosses, sent_for, chunk_at, offset_at}
use Rattle.trace_model.proofs.FadingLemmas.{bytes_append}
use Rattle.commit_body.specs.declared.hole.Hole.{Hole}
use Rattle.cut_steps.specs.Pieces.{StandInOnePiece, AllStandIn}
use Rattle.cut_steps.specs.Pending.{sent_now, hole_at, AllEndWithin}
use Rattle.cut_steps.proofs.Places.{chunk_at-here, chunk_at-behind, offset_at-here, offset_at-behind, stands-here, stands-behind, stands_from-here, stands_from-behind, stands_before, stands_within}

-- the first so many bytes of two chains stand in the same places
pub record SamePlacesBelow (count : ℕ) (a b : List Piece) : Type 0 where
  pub chunks : (at : ℕ) → at < count → chunk_at a at ≡ chunk_at b at
  pub offsets : (at : ℕ) → at < count → offset_at a at ≡ offset_at b at

-- Bytes of more pieces

pub bytes_of-one : (a : List Piece) (piece : Piece) → bytes_of (a ++ piece ∷ []) ≡ bytes_of a ++ piece.fragment.bytes
bytes_of-one a piece = bytes_append a (piece ∷ []) ∙ ap (λ (xs : List ℕ). bytes_of a ++ xs) (append-nil piece.fragment.bytes)

pub length_bytes-one : (a : List Piece) (piece : Piece) → length (bytes_of (a ++ piece ∷ [])) ≡ length (bytes_of a) + length piece.fragment.bytes
length_bytes-one a piece = ap length (bytes_of-one a piece) ∙ length-append (bytes_of a) piece.fragment.bytes

-- Places in longer chains

pub chunk_at-append : (a b : List Piece) (at : ℕ) → at < length (bytes_of a) → chunk_at (a ++ b) at ≡ chunk_at a at
chunk_at-append [] b at h = absurd (omega (arith, h))
chunk_at-append (piece ∷ a) b at h = elim (cases_lt at (length piece.fragment.bytes)) [
  | inl lt ↦ chunk_at-here piece (a ++ b) at lt ∙ sym (chunk_at-here piece a at lt)
  | inr ge ↦
      chunk_at-behind piece (a ++ b) at ge
      ∙ chunk_at-append a b (at - length piece.fragment.bytes) (omega (arith, ge, h, length-append piece.fragment.bytes (bytes_of a)))
      ∙ sym (chunk_at-behind piece a at ge)
]

pub offset_at-append : (a b : List Piece) (at : ℕ) → at < length (bytes_of a) → offset_at (a ++ b) at ≡ offset_at a at
offset_at-append [] b at h = absurd (omega (arith, h))
offset_at-append (piece ∷ a) b at h = elim (cases_lt at (length piece.fragment.bytes)) [
  | inl lt ↦ offset_at-here piece (a ++ b) at lt ∙ sym (offset_at-here piece a at lt)
  | inr ge ↦
      offset_at-behind piece (a ++ b) at ge
      ∙ offset_at-append a b (at - length piece.fragment.bytes) (omega (arith, ge, h, length-append piece.fragment.bytes (bytes_of a)))
      ∙ sym (offset_at-behind piece a at ge)
]

-- a byte behind the earlier pieces is in the last one
pub chunk_at-last : (a : List Piece) (piece : Piece) (at : ℕ) → length (bytes_of a) ≤ at → at < length (bytes_of a) + length piece.fragment.bytes
    → chunk_at (a ++ piece ∷ []) at ≡ piece.at.chunk_id
chunk_at-last [] piece at low high = chunk_at-here piece [] at (omega (arith, high))
chunk_at-last (x ∷ a) piece at low high =
    let long : length (bytes_of (x ∷ a)) ≡ length x.fragment.bytes + length (bytes_of a) = length-append x.fragment.bytes (bytes_of a) in
    chunk_at-behind x (a ++ piece ∷ []) at (omega (arith, low, long))
    ∙ chunk_at-last a piece (at - length x.fragment.bytes) (omega (arith, low, long)) (omega (arith, low, high, long))

pub offset_at-last : (a : List Piece) (piece : Piece) (at : ℕ) → length (bytes_of a) ≤ at → at < length (bytes_of a) + length piece.fragment.bytes
    → offset_at (a ++ piece ∷ []) at ≡ piece.fragment.offset + (at - length (bytes_of a))
offset_at-last [] piece at low high = offset_at-here piece [] at (omega (arith, high)) ∙ ap (λ (n : ℕ). piece.fragment.offset + n) (omega arith)
offset_at-last (x ∷ a) piece at low high =
    let long : length (bytes_of (x ∷ a)) ≡ length x.fragment.bytes + length (bytes_of a) = length-append x.fragment.bytes (bytes_of a) in
    offset_at-behind x (a ++ piece ∷ []) at (omega (arith, low, long))
    ∙ offset_at-last a piece (at - length x.fragment.bytes) (omega (arith, low, long)) (omega (arith, low, high, long))
    ∙ ap (λ (n : ℕ). piece.fragment.offset + n) (omega (arith, low, long))

-- the last piece grows
chunk_at-grown : (a : List Piece) (q r : Piece) (at : ℕ) → q.at.chunk_id ≡ r.at.chunk_id → length q.fragment.bytes ≤ length r.fragment.bytes
    → at < length (bytes_of a) + length q.fragment.bytes → chunk_at (a ++ q ∷ []) at ≡ chunk_at (a ++ r ∷ []) at
chunk_at-grown a q r at same longer h = elim (cases_lt at (length (bytes_of a))) [
  | inl lt ↦ chunk_at-append a (q ∷ []) at lt ∙ sym (chunk_at-append a (r ∷ []) at lt)
  | inr ge ↦ chunk_at-last a q at ge h ∙ same ∙ sym (chunk_at-last a r at ge (omega (arith, h, longer)))
]

offset_at-grown : (a : List Piece) (q r : Piece) (at : ℕ) → q.fragment.offset ≡ r.fragment.offset → length q.fragment.bytes ≤ length r.fragment.bytes
    → at < length (bytes_of a) + length q.fragment.bytes → offset_at (a ++ q ∷ []) at ≡ offset_at (a ++ r ∷ []) at
offset_at-grown a q r at same longer h = elim (cases_lt at (length (bytes_of a))) [
  | inl lt ↦ offset_at-append a (q ∷ []) at lt ∙ sym (offset_at-append a (r ∷ []) at lt)
  | inr ge ↦
      offset_at-last a q at ge h
      ∙ ap (λ (n : ℕ). n + (at - length (bytes_of a))) same
      ∙ sym (offset_at-last a r at ge (omega (arith, h, longer)))
]

pub same_grown : (a : List Piece) (q r : Piece) → q.at.chunk_id ≡ r.at.chunk_id → q.fragment.offset ≡ r.fragment.offset
    → length q.fragment.bytes ≤ length r.fragment.bytes → SamePlacesBelow (length (bytes_of (a ++ q ∷ []))) (a ++ q ∷ []) (a ++ r ∷ [])
same_grown a q r chunk offset longer =
    let long : length (bytes_of (a ++ q ∷ [])) ≡ length (bytes_of a) + length q.fragment.bytes = length_bytes-one a q in
    record {
      chunks = λ at h. chunk_at-grown a q r at chunk longer (omega (arith, h, long));
      offsets = λ at h. offset_at-grown a q r at offset longer (omega (arith, h, long));
    }

-- more pieces come
pub same_more : (a b : List Piece) → SamePlacesBelow (length (bytes_of a)) a (a ++ b)
same_more a b = record {
  chunks = λ at h. sym (chunk_at-append a b at h);
  offsets = λ at h. sym (offset_at-append a b at h);
}

pub same_both : (m n : ℕ) (a b c : List Piece) → m ≤ n → SamePlacesBelow m a b → SamePlacesBelow n b c → SamePlacesBelow m a c
same_both m n a b c h ab bc = record {
  chunks = λ at k. ab.chunks at k ∙ bc.chunks at (omega (arith, k, h));
  offsets = λ at k. ab.offsets at k ∙ bc.offsets at (omega (arith, k, h));
}

-- Four bytes that stand in one piece

stands-grown : (a : List Piece) (q r : Piece) (at : ℕ) → length q.fragment.bytes ≤ length r.fragment.bytes → StandInOnePiece (a ++ q ∷ []) at → StandInOnePiece (a ++ r ∷ []) at
stands-grown [] q r at longer stands = elim (cases_lt at (length q.fragment.bytes)) [
  | inl lt ↦ stands_from-here r [] at (omega (arith, lt, longer)) (omega (arith, longer, stands-here q [] at lt stands))
  | inr ge ↦ absurd (stands-behind q [] at ge stands)
]
stands-grown (x ∷ a) q r at longer stands = elim (cases_lt at (length x.fragment.bytes)) [
  | inl lt ↦ stands_from-here x (a ++ r ∷ []) at lt (stands-here x (a ++ q ∷ []) at lt stands)
  | inr ge ↦ stands_from-behind x (a ++ r ∷ []) at ge (stands-grown a q r (at - length x.fragment.bytes) longer (stands-behind x (a ++ q ∷ []) at ge stands))
]

pub all_stand-grown : (places : List ℕ) (a : List Piece) (q r : Piece) → length q.fragment.bytes ≤ length r.fragment.bytes
    → AllStandIn (a ++ q ∷ []) places → AllStandIn (a ++ r ∷ []) places
all_stand-grown [] a q r longer stand = tt
all_stand-grown (at ∷ places) a q r longer stand = (stands-grown a q r at longer stand.0, all_stand-grown places a q r longer stand.1)

pub all_stand-before : (places : List ℕ) (a more : List Piece) → AllStandIn a places → AllStandIn (a ++ more) places
all_stand-before [] a more stand = tt
all_stand-before (at ∷ places) a more stand = (stands_before a more at stand.0, all_stand-before places a more stand.1)

-- those at the end of the last piece
pub stands-last : (a : List Piece) (piece : Piece) (at : ℕ) → length (bytes_of a) ≤ at → at + 4 ≤ length (bytes_of a) + length piece.fragment.bytes
    → StandInOnePiece (a ++ piece ∷ []) at
stands-last [] piece at low high = stands_from-here piece [] at (omega (arith, high)) (omega (arith, high))
stands-last (x ∷ a) piece at low high =
    let long : length (bytes_of (x ∷ a)) ≡ length x.fragment.bytes + length (bytes_of a) = length-append x.fragment.bytes (bytes_of a) in
    stands_from-behind x (a ++ piece ∷ []) at (omega (arith, low, long))
    (stands-last a piece (at - length x.fragment.bytes) (omega (arith, low, long)) (omega (arith, low, high, long)))

-- those that don't stand in the last piece stand in the pieces before
pub stands-earlier : (a : List Piece) (piece : Piece) (at : ℕ) → at < length (bytes_of a) → StandInOnePiece (a ++ piece ∷ []) at → StandInOnePiece a at
stands-earlier [] piece at h stands = absurd (omega (arith, h))
stands-earlier (x ∷ a) piece at h stands = elim (cases_lt at (length x.fragment.bytes)) [
  | inl lt ↦ stands_from-here x a at lt (stands-here x (a ++ piece ∷ []) at lt stands)
  | inr ge ↦
      stands_from-behind x a at ge
      (stands-earlier a piece (at - length x.fragment.bytes) (omega (arith, ge, h, length-append x.fragment.bytes (bytes_of a))) (stands-behind x (a ++ piece ∷ []) at ge stands))
]

-- Holes

pub holes-same : (places : List ℕ) (a b : List Piece) → AllStandIn a places → SamePlacesBelow (length (bytes_of a)) a b
    → map (hole_at a) places ≡ map (hole_at b) places
holes-same [] a b stand same = refl
holes-same (at ∷ places) a b stand same =
    let within : at < length (bytes_of a) = omega (arith, stands_within a at stand.0) in
    ap (λ (n : ℕ). record { chunk_id = n; offset = offset_at a at } ∷ map (hole_at a) places) (same.chunks at within)
    ∙ ap (λ (n : ℕ). record { chunk_id = chunk_at b at; offset = n } ∷ map (hole_at a) places) (same.offsets at within)
    ∙ ap (λ (holes : List Hole). hole_at b at ∷ holes) (holes-same places a b stand.1 same)

-- Patches of closed lengths

sent_now-cons : (pieces : List Piece) (nested : NestedLength) (others : List NestedLength)
    → sent_now pieces (nested ∷ others) ≡ cond (crosses pieces nested) (sent_for pieces nested ∷ sent_now pieces others) (sent_now pieces others)
sent_now-cons pieces nested others = step (crosses pieces nested)
  where
    step : (b : Bool) → map (sent_for pieces) (cond b (nested ∷ filter (crosses pieces) others) (filter (crosses pieces) others))
        ≡ cond b (sent_for pieces nested ∷ sent_now pieces others) (sent_now pieces others)
    step true = refl
    step false = refl

pub sent_now-same : (closed : List NestedLength) (count : ℕ) (a b : List Piece) → AllEndWithin count closed → SamePlacesBelow count a b
    → sent_now a closed ≡ sent_now b closed
sent_now-same [] count a b within same = refl
sent_now-same (nested ∷ others) count a b within same =
    let start : chunk_at a nested.at ≡ chunk_at b nested.at = same.chunks nested.at (omega (arith, within.0)) in
    let end : chunk_at a (nested.at + 3 + nested.size) ≡ chunk_at b (nested.at + 3 + nested.size) = same.chunks (nested.at + 3 + nested.size) within.0 in
    let offset : offset_at a nested.at ≡ offset_at b nested.at = same.offsets nested.at (omega (arith, within.0)) in
    let cross : crosses a nested ≡ crosses b nested =
    ap (λ (n : ℕ). not (n == chunk_at a (nested.at + 3 + nested.size))) start ∙ ap (λ (n : ℕ). not (chunk_at b nested.at == n)) end in
    let one : sent_for a nested ≡ sent_for b nested = cc in
    sent_now-cons a nested others
    ∙ ap (λ t. cond t (sent_for a nested ∷ sent_now a others) (sent_now a others)) cross
    ∙ ap (λ (s : SentPatch). cond (crosses b nested) (s ∷ sent_now a others) (sent_now a others)) one
    ∙ ap (λ (ss : List SentPatch). cond (crosses b nested) (sent_for b nested ∷ ss) ss) (sent_now-same others count a b within.1 same)
    ∙ sym (sent_now-cons b nested others)

sent_now-append : (pieces : List Piece) (closed more : List NestedLength) → sent_now pieces (closed ++ more) ≡ sent_now pieces closed ++ sent_now pieces more
sent_now-append pieces closed more =
    ap (map (sent_for pieces)) (filter-append (crosses pieces) closed more)
    ∙ map-append (sent_for pieces) (filter (crosses pieces) closed) (filter (crosses pieces) more)

-- a closed length that crosses chunks adds its patch
pub sent_now-crossing : (pieces : List Piece) (closed : List NestedLength) (nested : NestedLength) → crosses pieces nested ≡ true
    → sent_now pieces (closed ++ nested ∷ []) ≡ sent_now pieces closed ++ sent_for pieces nested ∷ []
sent_now-crossing pieces closed nested h =
    sent_now-append pieces closed (nested ∷ [])
    ∙ ap (λ (ss : List SentPatch). sent_now pieces closed ++ ss) (sent_now-cons pieces nested [] ∙ ap (λ t. cond t (sent_for pieces nested ∷ []) []) h)

-- one that doesn't adds none
pub sent_now-inside : (pieces : List Piece) (closed : List NestedLength) (nested : NestedLength) → crosses pieces nested ≡ false
    → sent_now pieces (closed ++ nested ∷ []) ≡ sent_now pieces closed
sent_now-inside pieces closed nested h =
    sent_now-append pieces closed (nested ∷ [])
    ∙ ap (λ (ss : List SentPatch). sent_now pieces closed ++ ss) (sent_now-cons pieces nested [] ∙ ap (λ t. cond t (sent_for pieces nested ∷ []) []) h)
    ∙ append-nil (sent_now pieces closed)

-- a message whose length is in an earlier chunk ends in the last piece, which has a byte at least
pub ends_later : (a : List Piece) (piece : Piece) (nested : NestedLength) → nested.at < length (bytes_of a)
    → nested.at + 4 + nested.size ≡ length (bytes_of (a ++ piece ∷ [])) → 0 < length piece.fragment.bytes
    → chunk_at (a ++ piece ∷ []) (nested.at + 3 + nested.size) ≡ piece.at.chunk_id
ends_later a piece nested before ends some =
    let long : length (bytes_of (a ++ piece ∷ [])) ≡ length (bytes_of a) + length piece.fragment.bytes = length_bytes-one a piece in
    chunk_at-last a piece (nested.at + 3 + nested.size) (omega (arith, ends, some, long)) (omega (arith, ends, some, long))

pub crosses-later : (pieces : List Piece) (nested : NestedLength) (chunk_id : ℕ) → chunk_at pieces nested.at < chunk_id
    → chunk_at pieces (nested.at + 3 + nested.size) ≡ chunk_id → crosses pieces nested ≡ true
crosses-later pieces nested chunk_id before there =
    ap not (ne_eqb (chunk_at pieces nested.at) (chunk_at pieces (nested.at + 3 + nested.size)) (λ e. omega (arith, e, before, there)))

-- one whose length stands in the last piece crosses nothing
pub ends_here : (a : List Piece) (piece : Piece) (nested : NestedLength) → length (bytes_of a) ≤ nested.at
    → nested.at + 4 + nested.size ≡ length (bytes_of (a ++ piece ∷ [])) → crosses (a ++ piece ∷ []) nested ≡ false
ends_here a piece nested there ends =
    let long : length (bytes_of (a ++ piece ∷ [])) ≡ length (bytes_of a) + length piece.fragment.bytes = length_bytes-one a piece in
    ap not (eq-eqb (chunk_at (a ++ piece ∷ []) nested.at) (chunk_at (a ++ piece ∷ []) (nested.at + 3 + nested.size))
    (chunk_at-last a piece nested.at there (omega (arith, ends, long))
    ∙ sym (chunk_at-last a piece (nested.at + 3 + nested.size) (omega (arith, there)) (omega (arith, ends, long)))))
