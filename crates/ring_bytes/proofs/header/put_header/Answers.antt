use Rattle.std.proofs.Common.{◌≡◌, ℕ, ◌+◌, List, [], ◌∷◌, get_or, sym, ap, ◌∙◌, subst, arith}
use Rattle.std.specs.Int.{w16, to_le_bytes}
use Rattle.ring_bytes.specs.Bytes.{slice, SameOutside}
use Rattle.ring_bytes.specs.Header.{header_bytes, header_of, word_of, own_bits}
use Rattle.ring_bytes.proofs.SliceLemmas.{put_same, slice_put_here}
use Rattle.ring_bytes.proofs.HeaderLemmas.{IsSmall, header-back}
use Rattle.ring_bytes.proofs.header.put_header.Goals as goal

-- sixteen bytes of five numbers
abbrev joined : List ℕ → List ℕ → List ℕ → List ℕ → List ℕ → List ℕ
joined a b c d e =
    get_or a 0 0 ∷ get_or a 1 0 ∷ get_or a 2 0 ∷ get_or a 3 0
    ∷ get_or b 0 0 ∷ get_or b 1 0 ∷ get_or b 2 0 ∷ get_or b 3 0
    ∷ get_or c 0 0 ∷ get_or c 1 0 ∷ get_or c 2 0 ∷ get_or c 3 0
    ∷ get_or d 0 0 ∷ get_or d 1 0 ∷ get_or e 0 0 ∷ get_or e 1 0 ∷ []

pub returns-clause-same : goal.returns-clause-same
returns-clause-same c =
    let head : List ℕ = joined c.to_le_bytes-len.result c.to_le_bytes-sequence.result c.to_le_bytes-chunk_id.result c.to_le_bytes-word.result c.to_le_bytes-own.result in
    subst (λ b. SameOutside c.args.at (c.args.at + 16) c.args.bytes.now b) (sym c.put.ensures)
    (put_same c.args.at head c.args.bytes.now c.requires.room)

pub returns-clause-bytes : goal.returns-clause-bytes
unfolding header_bytes
returns-clause-bytes c =
    let head : List ℕ = joined c.to_le_bytes-len.result c.to_le_bytes-sequence.result c.to_le_bytes-chunk_id.result c.to_le_bytes-word.result c.to_le_bytes-own.result in
    let word : c.to_le_bytes-word.result ≡ to_le_bytes w16 (word_of c.args.header.key) =
    c.to_le_bytes-word.ensures ∙ ap (to_le_bytes w16) c.word_of.ensures in
    let own : c.to_le_bytes-own.result ≡ to_le_bytes w16 (own_bits c.args.header) =
    c.to_le_bytes-own.ensures ∙ ap (to_le_bytes w16) c.own_bits.ensures in
    let head_is : head ≡ header_bytes c.args.header =
    λ i. joined (c.to_le_bytes-len.ensures i) (c.to_le_bytes-sequence.ensures i) (c.to_le_bytes-chunk_id.ensures i) (word i) (own i) in
    ap (slice c.args.at 16) c.put.ensures
    ∙ slice_put_here c.args.at head c.args.bytes.now (omega (arith, c.requires.room))
    ∙ head_is

pub returns-clause-there : goal.returns-clause-there
returns-clause-there c =
    let small : IsSmall c.args.header = record { len = omega arith; sequence = omega arith; chunk_id = omega arith } in
    ap header_of (returns-clause-bytes c) ∙ header-back c.args.header c.requires.header small
