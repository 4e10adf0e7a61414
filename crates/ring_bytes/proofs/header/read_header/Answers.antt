use Rattle.std.proofs.Common.{◌≡◌, ℕ, ◌+◌, ◌-◌, ◌/◌, ◌%◌, ◌==◌, List, [], ◌∷◌, get_or, get_or-drop, take, drop, ap, ◌∙◌, arith}
use Rattle.std.specs.Int.{w16, w32, from_le_bytes}
use Rattle.ring_bytes.specs.declared.header.Header.{Header}
use Rattle.ring_bytes.specs.Header.{header_of}
use Rattle.ring_bytes.proofs.header.read_header.Goals as goal

four_at : (at : ℕ) (bytes : List ℕ) → from_le_bytes w32 (get_or bytes (at + 0) 0 ∷ get_or bytes (at + 1) 0 ∷ get_or bytes (at + 2) 0 ∷ get_or bytes (at + 3) 0 ∷ []) ≡ from_le_bytes w32 (drop at bytes)
four_at at bytes =
    omega (arith, get_or-drop at bytes 0 0, get_or-drop at bytes 1 0, get_or-drop at bytes 2 0, get_or-drop at bytes 3 0)

two_at : (at : ℕ) (bytes : List ℕ) → from_le_bytes w16 (get_or bytes (at + 0) 0 ∷ get_or bytes (at + 1) 0 ∷ []) ≡ from_le_bytes w16 (drop at bytes)
two_at at bytes = omega (arith, get_or-drop at bytes 0 0, get_or-drop at bytes 1 0)

pub returns-clause-header : goal.returns-clause-header
unfolding header_of
returns-clause-header c =
    let from : ℕ = c.args.at in
    let bytes : List ℕ = take (from + 16 - from) (drop from c.args.bytes.now) in
    let len : c.from_le_bytes.result ≡ from_le_bytes w32 bytes = c.from_le_bytes.ensures in
    let sequence : c.from_le_bytes-2.result ≡ from_le_bytes w32 (drop 4 bytes) = c.from_le_bytes-2.ensures ∙ four_at 4 bytes in
    let chunk_id : c.from_le_bytes-3.result ≡ from_le_bytes w32 (drop 8 bytes) = c.from_le_bytes-3.ensures ∙ four_at 8 bytes in
    let word : c.from_le_bytes-word.result ≡ from_le_bytes w16 (drop 12 bytes) = c.from_le_bytes-word.ensures ∙ two_at 12 bytes in
    let own : c.from_le_bytes-own.result ≡ from_le_bytes w16 (drop 14 bytes) = c.from_le_bytes-own.ensures ∙ two_at 14 bytes in
    let read : Header = record {
      len = c.from_le_bytes.result;
      key = record {
        sequence = c.from_le_bytes-2.result;
        chunk_id = c.from_le_bytes-3.result;
        count = c.from_le_bytes-word.result % 1024;
        flags = c.from_le_bytes-word.result / 1024;
        partial = c.from_le_bytes-own.result % 2 == 1;
        awaits = c.from_le_bytes-own.result / 2 % 2 == 1;
      };
      padding = c.from_le_bytes-own.result / 4 % 2 == 1;
      dead = c.from_le_bytes-own.result / 8 % 2 == 1;
    } in
    let is : read ≡ header_of bytes = λ i. record {
      len = len i;
      key = record {
        sequence = sequence i;
        chunk_id = chunk_id i;
        count = word i % 1024;
        flags = word i / 1024;
        partial = own i % 2 == 1;
        awaits = own i / 2 % 2 == 1;
      };
      padding = own i / 4 % 2 == 1;
      dead = own i / 8 % 2 == 1;
    } in
    let sixteen : from + 16 - from ≡ 16 = omega arith in
    is ∙ ap (λ n. header_of (take n (drop from c.args.bytes.now))) sixteen
