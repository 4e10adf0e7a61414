-- How many chunks a writer begins: along the pieces of a packet, each that runs on and begins a chunk carries all its payload
-- but at most seven bytes of it; and over all packets, lost ones among them.
use Rattle.std.proofs.Common.{◌≡◌, ◌∙◌, ℕ, suc, ◌+◌, ◌-◌, ◌*◌, ◌/◌, ◌<◌, ◌≤◌, Bool, true, false, not, ◌&&◌, ◌||◌, List, [], ◌∷◌, ◌++◌, length, length-append, refl, sym, ap, subst, arith, Option, Some, None, is_some, inl, inr, cond}
use Rattle.std.specs.Prelude.{◌==◌, nat_lt, filter, unwrap_or, MatchOption, MatchBool}
use Rattle.std.specs.List.{AllZip}
use Rattle.std.proofs.lemmas.Bool.{and_parts, cases_lt, eqb-true, ltb-true}
use Rattle.std.proofs.lemmas.List.Sums.{sum_by-append}
use Rattle.std.proofs.lemmas.Nat.{le-div}
use Rattle.std.proofs.Math.Nat.{suc-mul}
use Rattle.wire_varint.specs.Varint.{redundant}
use Rattle.wire_varint.proofs.Lengths.{length-redundant}
use Rattle.trace_model.specs.Images.{Image}
use Rattle.trace_model.specs.Record.{mark_where}
use Rattle.trace_model.specs.Sequences.{is_among}
use Rattle.trace_model.specs.Packets.{Packet, Text, flat, open_length, open_places, body_of, front_of, packet_encoding, is_lost, packets_of, kept_of, lost_count, emissions_in}
use Rattle.trace_model.specs.PacketLaws.{AreFronted}
use Rattle.trace_model.specs.Row.{Piece, Chain, bytes_of}
use Rattle.trace_model.specs.Sent.{text_of}
use Rattle.trace_model.specs.Cut.{IsGivenUp, Begins, IsChainOf, length_places, left_behind, ends_well, all_end_well, is_marked_fate}
use Rattle.trace_model.specs.Enough.{most_chunks}
use Rattle.trace_model.specs.Written.{chains_of}
use Rattle.trace_model.proofs.PacketLemmas.{packets_are_fronted, emitted_more}
use Rattle.trace_model.proofs.PageLemmas.{images_long}
use Rattle.model_laws.specs.ChunkCounts.{EveryPageIsCounted, EveryImageIsCounted}
use Rattle.model_laws.proofs.LossLemmas.{emitted_one, losses_change_no_shape}
use Rattle.model_laws.proofs.TextSizes.{text_size, AllInside, inside_among, all_inside, open_inside, IsSized, AllSized, AllFinished, all_sized, all_finished}
use Rattle.model_laws.proofs.WrittenShapes.{is_first_of_chunk, firsts, chains_firsts, AreShaped, EachShaped, chains_counted, chains_shaped}

-- Along the pieces of a packet

-- So many chunks are begun: full ones, with so many bytes of the packet each and three bytes more in all, and beside them
-- one where the last piece isn't marked.
record IsFew (carried total : ℕ) (marked : Bool) (begun : ℕ) : Type 0 where
  full : ℕ
  few : begun ≤ full + cond marked 0 1
  fit : 0 < full → full * carried + 3 ≤ total

-- what a piece carries that runs on and begins a chunk
record RunsFull (carried total at : ℕ) (piece : Piece) : Type 0 where
  most : carried ≤ length piece.fragment.bytes
  more : (before : ℕ) → before ≤ at → at + length piece.fragment.bytes ≤ total → before + carried + 3 ≤ total

runs_full : (size carried total at : ℕ) (lengths : List ℕ) (piece : Piece) → size ≡ carried + 7 → AllInside total lengths → piece.fragment.offset ≡ 4
    → piece.runs_on ≡ true → ends_well size lengths (at + length piece.fragment.bytes) piece ≡ true → RunsFull carried total at piece
runs_full size carried total at lengths piece wide inside offset runs well =
    step (left_behind size piece == 0) refl (ap (λ (b : Bool). not b || ((left_behind size piece == 0) || (nat_lt (left_behind size piece) 4 && is_among (at + length piece.fragment.bytes) lengths))) (sym runs) ∙ well)
  where
    step : (b : Bool) → (left_behind size piece == 0) ≡ b → (b || (nat_lt (left_behind size piece) 4 && is_among (at + length piece.fragment.bytes) lengths)) ≡ true
        → RunsFull carried total at piece
    step true e h =
        let left = eqb-true (left_behind size piece) 0 e in
        record { most = omega (arith, left, offset, wide); more = λ before below fits. omega (arith, left, offset, wide, below, fits) }
    step false e h =
        let both = and_parts (nat_lt (left_behind size piece) 4) (is_among (at + length piece.fragment.bytes) lengths) h in
        let left = ltb-true (left_behind size piece) 4 both.0 in
        let behind = inside_among total (at + length piece.fragment.bytes) lengths inside both.1 in
        record { most = omega (arith, left, offset, wide); more = λ before below fits. omega (arith, left, offset, wide, below, behind) }

few_pieces : (size carried total : ℕ) (lengths : List ℕ) (pieces : List Piece) (at before : ℕ) (marked : Bool) → size ≡ carried + 7 → AllInside total lengths
    → AreShaped size marked pieces → all_end_well size lengths at pieces ≡ true → at + length (bytes_of pieces) ≤ total
    → before * carried ≤ at → (0 < before → before * carried + 3 ≤ total) → IsFew carried total marked (firsts pieces + before)
few_pieces size carried total lengths [] at before marked wide inside shaped well fits full fit = absurd shaped
few_pieces size carried total lengths (piece ∷ []) at before false wide inside shaped well fits full fit = step (is_first_of_chunk piece)
  where
    step : (b : Bool) → IsFew carried total false (cond b 1 0 + 0 + before)
    step true = record { full = before; few = omega arith; fit = fit }
    step false = record { full = before; few = omega arith; fit = fit }
few_pieces size carried total lengths (piece ∷ []) at before true wide inside shaped well fits full fit = step (is_first_of_chunk piece) refl
  where
    step : (b : Bool) → is_first_of_chunk piece ≡ b → IsFew carried total true (cond b 1 0 + 0 + before)
    step true e =
        let offset = shaped.0.first (eqb-true piece.at.passed 0 e) in
        let ends = shaped.1 refl in
        let long = length-append piece.fragment.bytes [] in
        let product = suc-mul before carried in
        record { full = suc before; few = omega arith; fit = λ some. omega (arith, offset, ends, long, product, wide, fits, full) }
    step false e = record { full = before; few = omega arith; fit = fit }
few_pieces size carried total lengths (piece ∷ next ∷ pieces) at before marked wide inside shaped well fits full fit =
    let both = and_parts (ends_well size lengths (at + length piece.fragment.bytes) piece) (all_end_well size lengths (at + length piece.fragment.bytes) (next ∷ pieces)) well in
    let long = length-append piece.fragment.bytes (bytes_of (next ∷ pieces)) in
    let inner : at + length piece.fragment.bytes + length (bytes_of (next ∷ pieces)) ≤ total = omega (arith, long, fits) in
    step (is_first_of_chunk piece) refl both.0 inner
    (λ count filled fit. few_pieces size carried total lengths (next ∷ pieces) (at + length piece.fragment.bytes) count marked wide inside shaped.1.1.1 both.1 inner filled fit)
  where
    step : (b : Bool) → is_first_of_chunk piece ≡ b → ends_well size lengths (at + length piece.fragment.bytes) piece ≡ true
        → at + length piece.fragment.bytes + length (bytes_of (next ∷ pieces)) ≤ total
        → ((count : ℕ) → count * carried ≤ at + length piece.fragment.bytes → (0 < count → count * carried + 3 ≤ total) → IsFew carried total marked (firsts (next ∷ pieces) + count))
        → IsFew carried total marked (cond b 1 0 + firsts (next ∷ pieces) + before)
    step true e ends inner later =
        let runs = runs_full size carried total at lengths piece wide inside (shaped.0.first (eqb-true piece.at.passed 0 e)) shaped.1.0 ends in
        let most = runs.most in
        let product = suc-mul before carried in
        let more = runs.more (before * carried) full (omega (arith, inner)) in
        let rest = later (suc before) (omega (arith, most, product, full)) (λ some. omega (arith, more, product)) in
        let few = rest.few in
        record { full = rest.full; few = omega (arith, few); fit = rest.fit }
    step false e ends inner later =
        let rest = later before (omega (arith, full)) fit in
        let few = rest.few in
        record { full = rest.full; few = omega (arith, few); fit = rest.fit }

-- Packets

-- as long, whatever four bytes stand for an open length
flat_long : (four : List ℕ) (levels : List (List ℕ)) → length four ≡ 4 → length (flat four levels) ≡ text_size levels
flat_long four [] is = refl
flat_long four (level ∷ []) is = refl
flat_long four (level ∷ outer ∷ others) is =
    let same = flat_long four (outer ∷ others) is in
    let long = length-append (flat four (outer ∷ others) ++ four) level in
    let before = length-append (flat four (outer ∷ others)) four in
    let other = length-append (flat open_length (outer ∷ others) ++ open_length) level in
    let other_before = length-append (flat open_length (outer ∷ others)) open_length in
    let open_four : length open_length ≡ 4 = refl in
    omega (arith, same, long, before, other, other_before, open_four, is)

given_long : (bytes : List ℕ) (text : Text) → IsGivenUp bytes text → length bytes ≤ text_size text.levels
given_long bytes text given =
    let cut = ap (λ (xs : List ℕ). length xs) given.cut in
    let whole = ap (λ (xs : List ℕ). length xs) given.whole in
    let same = flat_long (redundant 0) text.levels (length-redundant 0) in
    let written = length-append given.part given.unused in
    let all = length-append given.part given.lost in
    elim (cases_lt 0 (length given.unused)) [
      | inl some ↦
          let inside = inside_among (text_size text.levels) (length given.part) (open_places text.levels) (open_inside text.levels) (given.next some) in
          let few = given.few in
          omega (arith, cut, written, inside, few)
      | inr none ↦ omega (arith, cut, written, whole, same, all, none)
    ]

front_long : (packet : Packet) → length (front_of packet) ≤ 3
front_long packet = step (packet.kept && packet.follows_loss)
  where
    step : (b : Bool) → length (mark_where b) ≤ 3
    step true = omega arith
    step false = omega arith

-- the body has at most three bytes beside the encoding
body_long : (packet : Packet) → body_of packet ≡ front_of packet ++ packet_encoding packet → text_size packet.text.levels ≤ length (packet_encoding packet) + 3
body_long packet fronted =
    let long = ap (λ (xs : List ℕ). length xs) fronted in
    let both = length-append (front_of packet) (packet_encoding packet) in
    let front = front_long packet in
    omega (arith, long, both, front)

full_chunks : (carried total long full : ℕ) → 0 < carried → total ≤ long + 3 → (0 < full → full * carried + 3 ≤ total) → full ≤ long / carried
full_chunks carried total long full some whole fit = elim (cases_lt 0 full) [
  | inl more ↦ let fits = fit more in le-div full long carried some (omega (arith, fits, whole))
  | inr none ↦ let zero_full : full ≡ 0 = omega (arith, none) in subst (λ (n : ℕ). n ≤ long / carried) (sym zero_full) (omega arith)
]

packet_counted : (size : ℕ) (packet : Packet) (chain : Chain) → 7 < size → IsChainOf size packet chain → AreShaped size (is_marked_fate chain.fate) chain.pieces
    → IsSized packet → packet.kept ≡ true → packet.finished ≡ true → body_of packet ≡ front_of packet ++ packet_encoding packet
    → firsts chain.pieces + cond (is_lost packet) 1 0 ≤ 1 + length (packet_encoding packet) / (size - 7)
packet_counted size packet chain large is shaped sized kept finished fronted = step packet.given_up refl
  where
    result : (text : Text) (marked : Bool) → text_of packet ≡ text → is_marked_fate chain.fate ≡ marked → AllInside (text_size text.levels) (length_places text)
        → length (bytes_of chain.pieces) ≤ text_size text.levels → IsFew (size - 7) (text_size text.levels) marked (firsts chain.pieces + 0)
    result text marked same fate inside fits =
        few_pieces size (size - 7) (text_size text.levels) (length_places text) chain.pieces 0 0 marked (omega (arith, large)) inside
        (subst (λ (b : Bool). AreShaped size b chain.pieces) fate shaped)
        (ap (λ (t : Text). all_end_well size (length_places t) 0 chain.pieces) (sym same) ∙ is.ends)
        (omega (arith, fits)) (omega arith) (λ some. absurd (omega (arith, some)))

    step : (o : Option Text) → packet.given_up ≡ o → firsts chain.pieces + cond (is_lost packet) 1 0 ≤ 1 + length (packet_encoding packet) / (size - 7)
    step None e =
        let bytes : bytes_of chain.pieces ≡ body_of packet =
        subst (λ (b : Bool). MatchBool b (bytes_of chain.pieces ≡ body_of packet) (Begins (bytes_of chain.pieces) (body_of packet))) finished
        (subst (λ (o : Option Text). MatchOption o
        (MatchBool packet.finished (bytes_of chain.pieces ≡ body_of packet) (Begins (bytes_of chain.pieces) (body_of packet))) (IsGivenUp (bytes_of chain.pieces))) e is.bytes) in
        let long = ap (λ (xs : List ℕ). length xs) bytes in
        let counted = result packet.text false (ap (λ (o : Option Text). unwrap_or o packet.text) e) (is.marked ∙ ap (λ (o : Option Text). is_some o) e)
        (all_inside packet.text sized.whole) (omega (arith, long)) in
        let few = counted.few in
        let most = full_chunks (size - 7) (text_size packet.text.levels) (length (packet_encoding packet)) counted.full (omega (arith, large)) (body_long packet fronted) counted.fit in
        let held : cond {A = ℕ} (is_lost packet) 1 0 ≡ 0 = ap (λ (b : Bool). cond {A = ℕ} (not b || is_some packet.given_up) 1 0) kept ∙ ap (λ (o : Option Text). cond {A = ℕ} (is_some o) 1 0) e in
        omega (arith, few, most, held)
    step (Some text) e =
        let bytes : IsGivenUp (bytes_of chain.pieces) text =
        subst (λ (o : Option Text). MatchOption o
        (MatchBool packet.finished (bytes_of chain.pieces ≡ body_of packet) (Begins (bytes_of chain.pieces) (body_of packet))) (IsGivenUp (bytes_of chain.pieces))) e is.bytes in
        let part = sized.part text e in
        let counted = result text true (ap (λ (o : Option Text). unwrap_or o packet.text) e) (is.marked ∙ ap (λ (o : Option Text). is_some o) e)
        (all_inside text part.0) (given_long (bytes_of chain.pieces) text bytes) in
        let few = counted.few in
        let less = part.1 in
        let body = body_long packet fronted in
        let most = full_chunks (size - 7) (text_size text.levels) (length (packet_encoding packet)) counted.full (omega (arith, large)) (omega (arith, less, body)) counted.fit in
        let held : cond {A = ℕ} (is_lost packet) 1 0 ≡ 1 = ap (λ (b : Bool). cond {A = ℕ} (not b || is_some packet.given_up) 1 0) kept ∙ ap (λ (o : Option Text). cond {A = ℕ} (is_some o) 1 0) e in
        omega (arith, few, most, held)

-- All packets

most_more : (size : ℕ) (packet : Packet) (older : List Packet) → packet.finished ≡ true
    → most_chunks size (emissions_in (packet ∷ older)) ≡ most_chunks size (emissions_in older) + (1 + length (packet_encoding packet) / (size - 7))
most_more size packet older finished =
    let all = ap (most_chunks size) (emitted_more packet older packet.finished refl) in
    let both = sum_by-append (λ (one : List ℕ). 1 + length one / (size - 7)) (emissions_in older) (emitted_one packet) in
    let newest : most_chunks size (emitted_one packet) ≡ 0 + (1 + length (packet_encoding packet) / (size - 7)) =
    ap (λ (b : Bool). most_chunks size (cond b (packet_encoding packet ∷ []) [])) finished in
    omega (arith, all, both, newest)

lost_more : (packet : Packet) (older : List Packet) → lost_count (packet ∷ older) ≡ cond (is_lost packet) 1 0 + lost_count older
lost_more packet older = step (is_lost packet)
  where
    step : (b : Bool) → length (cond b (packet ∷ filter is_lost older) (filter is_lost older)) ≡ cond b 1 0 + length (filter is_lost older)
    step true = omega arith
    step false = omega arith

all_counted : (size : ℕ) (packets : List Packet) (chains : List Chain) → 7 < size → AllZip (IsChainOf size) (kept_of packets) chains → EachShaped size chains
    → AllSized packets → AllFinished packets → AreFronted packets → chains_firsts chains + lost_count packets ≤ most_chunks size (emissions_in packets)
all_counted size [] [] large are shaped sized finished fronted = omega arith
all_counted size [] (chain ∷ chains) large are shaped sized finished fronted = absurd are
all_counted size (packet ∷ older) chains large are shaped sized finished fronted =
    step packet.kept refl chains are shaped (λ rest ones shapes. all_counted size older rest large ones shapes sized.1 finished.1 fronted.2)
  where
    step : (b : Bool) → packet.kept ≡ b → (chains : List Chain) → AllZip (IsChainOf size) (cond b (packet ∷ kept_of older) (kept_of older)) chains → EachShaped size chains
        → ((rest : List Chain) → AllZip (IsChainOf size) (kept_of older) rest → EachShaped size rest → chains_firsts rest + lost_count older ≤ most_chunks size (emissions_in older))
        → chains_firsts chains + lost_count (packet ∷ older) ≤ most_chunks size (emissions_in (packet ∷ older))
    step true e [] are shaped later = absurd are
    step true e (chain ∷ rest) are shaped later =
        let one = packet_counted size packet chain large are.0 shaped.0 sized.0 e finished.0 fronted.1 in
        let others = later rest are.1 shaped.1 in
        let most = most_more size packet older finished.0 in
        let lost = lost_more packet older in
        omega (arith, one, others, most, lost)
    step false e chains are shaped later =
        let dropped : cond {A = ℕ} (is_lost packet) 1 0 ≡ 1 = ap (λ (b : Bool). cond {A = ℕ} (not b || is_some packet.given_up) 1 0) e in
        let others = later chains are shaped in
        let most = most_more size packet older finished.0 in
        let lost = lost_more packet older in
        omega (arith, dropped, others, most, lost)

pub every_page_is_counted : EveryPageIsCounted
every_page_is_counted size calls pages cut possible rests large =
    let pieces = chains_counted size pages cut.full in
    let all = all_counted size (packets_of calls) (chains_of pages) large cut.chains (chains_shaped size pages cut.full) (all_sized calls possible)
    (all_finished calls possible rests) (packets_are_fronted calls) in
    omega (arith, pieces, all)

pub every_image_is_counted : EveryImageIsCounted
every_image_is_counted size sequence asked noted images patches loses cut possible rests large =
    let many = ap (λ (all : List Image). length all) cut.images_are in
    let long = images_long sequence 0 cut.pages in
    let counted = every_page_is_counted size noted cut.pages cut.cut possible rests large in
    let same = ap (most_chunks size) (losses_change_no_shape asked noted loses).emitted in
    omega (arith, many, long, counted, same)
