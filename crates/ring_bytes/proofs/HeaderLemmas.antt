-- A header reads as it was written.
use Rattle.std.proofs.Common.{◌≡◌, ℕ, ◌/◌, ◌%◌, ◌^◌, ◌<◌, ◌==◌, Bool, true, false, ap, ◌∙◌, arith}
use Rattle.std.specs.Int.{w16, to_le_bytes, from_le_bytes}
use Rattle.std.proofs.lemmas.Nat.{from_le_bytes-to_le_bytes_2, from_le_bytes-to_le_bytes_4}
use Rattle.ring_bytes.specs.declared.header.Header.{Header}
use Rattle.ring_bytes.specs.Header.{bit_of, word_of, own_bits, IsHeader, header_bytes, header_of}

-- the numbers of a header fit their types
pub record IsSmall (header : Header) : Type 0 where
  pub len : header.len < 2 ^ 32
  pub sequence : header.key.sequence < 2 ^ 32
  pub chunk_id : header.key.chunk_id < 2 ^ 32

bit_below : (b : Bool) → bit_of b < 2
bit_below true = omega arith
bit_below false = omega arith

bit_is : (b : Bool) (n : ℕ) → n ≡ bit_of b → (n == 1) ≡ b
bit_is true n is = grind arith
bit_is false n is = grind arith

pub header-back : (header : Header) → IsHeader header → IsSmall header → header_of (header_bytes header) ≡ header
unfolding header_of header_bytes
header-back header is small =
    let own : ℕ = own_bits header in
    let word : ℕ = word_of header.key in
    let p = bit_below header.key.partial in
    let a = bit_below header.key.awaits in
    let g = bit_below header.padding in
    let d = bit_below header.dead in
    let own_back : from_le_bytes w16 (to_le_bytes w16 own) ≡ own = from_le_bytes-to_le_bytes_2 own (omega arith) in
    let word_back : from_le_bytes w16 (to_le_bytes w16 word) ≡ word =
    from_le_bytes-to_le_bytes_2 word (omega (arith, is.count, is.flags)) in
    let len = from_le_bytes-to_le_bytes_4 header.len small.len in
    let sequence = from_le_bytes-to_le_bytes_4 header.key.sequence small.sequence in
    let chunk_id = from_le_bytes-to_le_bytes_4 header.key.chunk_id small.chunk_id in
    let count : word % 1024 ≡ header.key.count = omega (arith, is.count, is.flags) in
    let flags : word / 1024 ≡ header.key.flags = omega (arith, is.count, is.flags) in
    let partial : (own % 2 == 1) ≡ header.key.partial = bit_is header.key.partial (own % 2) (omega arith) in
    let awaits : (own / 2 % 2 == 1) ≡ header.key.awaits = bit_is header.key.awaits (own / 2 % 2) (omega arith) in
    let padding : (own / 4 % 2 == 1) ≡ header.padding = bit_is header.padding (own / 4 % 2) (omega arith) in
    let dead : (own / 8 % 2 == 1) ≡ header.dead = bit_is header.dead (own / 8 % 2) (omega arith) in
    λ i. record {
      len = len i;
      key = record {
        sequence = sequence i;
        chunk_id = chunk_id i;
        count = (ap (λ n. n % 1024) word_back ∙ count) i;
        flags = (ap (λ n. n / 1024) word_back ∙ flags) i;
        partial = (ap (λ n. n % 2 == 1) own_back ∙ partial) i;
        awaits = (ap (λ n. n / 2 % 2 == 1) own_back ∙ awaits) i;
      };
      padding = (ap (λ n. n / 4 % 2 == 1) own_back ∙ padding) i;
      dead = (ap (λ n. n / 8 % 2 == 1) own_back ∙ dead) i;
    }
