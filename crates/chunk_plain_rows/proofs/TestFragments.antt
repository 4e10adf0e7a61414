-- Bytes that begin with one short fragment, as the tests write them.
use Rattle.std.proofs.Common.{◌≡◌, ℕ, zero, suc, ◌+◌, ◌-◌, ◌<◌, subst, sym, refl, ap, ◌∙◌, arith}
use Rattle.chunk_plain.specs.Payload.{size_at, size_bytes, sealed_to, HasFragments, end_after, ends_from}
use Rattle.chunk_plain.proofs.Sealing.{one_byte}

one_fragment : (b : ℕ → ℕ) → b 0 < 128 → size_bytes b 0 ≡ 1 → HasFragments b (ends_from b 0 1)
one_fragment b small n zero below = (record { low = subst (λ m. b (0 + m - 1) < 128) (sym n) small; end = refl }, omega arith)
one_fragment b small n (suc k) below = absurd (omega arith)

pub short_fragment : (b : ℕ → ℕ) (size : ℕ) → b 0 ≡ size → size < 128 → HasFragments b (ends_from b 0 1) × (sealed_to (ends_from b 0 1) ≡ size + 1)
short_fragment b size is small =
    let n : size_bytes b 0 ≡ 1 = one_byte b 0 (omega arith) in
    let end : end_after b 0 ≡ size + 1 = ap (λ k. 0 + k + size_at b 0 k) n ∙ omega arith in
    (one_fragment b (omega arith) n, end)
