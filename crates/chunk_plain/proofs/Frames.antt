-- Bytes that begin with a writer's fragments read as these.
use Rattle.std.proofs.Common.{◌≡◌, ℕ, zero, suc, ◌+◌, ◌-◌, ◌*◌, ◌/◌, ◌%◌, ◌^◌, ◌<◌, ◌≤◌, List, [], ◌∷◌, ◌++◌, length, get_or, subst, sym, refl, ap, ◌∙◌, arith, length-append, add-zero, zero-add}
use Rattle.std.specs.List.{All, flat_map}
use Rattle.std.proofs.lemmas.List.{get_or-append_right}
use Rattle.std.proofs.lemmas.List.Elements.{All-head, All-tail}
use Rattle.wire_varint.specs.Varint.{redundant}
use Rattle.trace_model.specs.Pages.{framed}
use Rattle.chunk_plain.proofs.Sealing.{four_bytes, length-ends_from}
use Rattle.chunk_plain.specs.Payload.{byte_in, size_at, IsFragment, start_of, sealed_to, HasFragments, end_after, ends_from}

-- a number below 2 ^ 28 by its groups of seven bits
seven_bits : (n a b c d : ℕ) → n < 2 ^ 28 → a ≡ 128 + n % 128 → b ≡ 128 + n / 128 % 128 → c ≡ 128 + n / 16384 % 128 → d ≡ n / 2097152 % 128
    → a % 128 + 128 * (b % 128 + 128 * (c % 128 + 128 * (d % 128 + 128 * 0))) ≡ n
seven_bits n a b c d small first second third fourth =
    let low : n ≡ n % 128 + 128 * (n / 128) = omega arith in
    let next : n / 128 ≡ n / 128 % 128 + 128 * (n / 16384) = omega arith in
    let high : n / 16384 ≡ n / 16384 % 128 + 128 * (n / 2097152) = omega arith in
    let most : n / 2097152 % 128 ≡ n / 2097152 = omega arith in
    omega arith

-- the bytes from a place on are a size of four bytes and so many bytes, and more
one_frame : (b : ℕ → ℕ) (at : ℕ) (fragment rest : List ℕ) → length fragment < 2 ^ 28
    → ((j : ℕ) → j < length (framed fragment ++ rest) → b (at + j) ≡ byte_in (framed fragment ++ rest) j)
    → IsFragment b at (at + length (framed fragment)) × (end_after b at ≡ at + length (framed fragment))
unfolding redundant
one_frame b at fragment rest small same =
    let n = length fragment in
    let many : 4 ≤ length (framed fragment ++ rest) = omega (arith, length-append (framed fragment) rest) in
    let first : b at ≡ 128 + n % 128 = sym (ap b (add-zero at)) ∙ same 0 (omega arith) in
    let second : b (at + 1) ≡ 128 + n / 128 % 128 = same 1 (omega arith) in
    let third : b (at + 2) ≡ 128 + n / 16384 % 128 = same 2 (omega arith) in
    let fourth : b (at + 3) ≡ n / 2097152 % 128 = same 3 (omega arith) in
    let sized : size_at b at 4 ≡ n =
    ap (λ k. b at % 128 + 128 * (b (at + 1) % 128 + 128 * (b k % 128 + 128 * (b (at + 1 + 1 + 1) % 128 + 128 * 0)))) (let two : at + 1 + 1 ≡ at + 2 = omega arith in two)
    ∙ (ap (λ k. b at % 128 + 128 * (b (at + 1) % 128 + 128 * (b (at + 2) % 128 + 128 * (b k % 128 + 128 * 0)))) (let three : at + 1 + 1 + 1 ≡ at + 3 = omega arith in three)
    ∙ seven_bits n (b at) (b (at + 1)) (b (at + 2)) (b (at + 3)) small first second third fourth) in
    let four = four_bytes b at (omega arith) (omega arith) (omega arith) in
    let ends : end_after b at ≡ at + length (framed fragment) = ap (λ k. at + k + size_at b at k) four ∙ omega arith in (
      record { low = subst (λ k. b (at + k - 1) < 128) (sym four) (subst (λ k. b k < 128) (let back : at + 3 ≡ at + 4 - 1 = omega arith in back) (omega arith)); end = sym ends },
      ends,
    )

-- where the fragment with this number begins, where the first one begins at this place
abbrev start_at : ℕ → List ℕ → ℕ → ℕ
start_at at ends zero = at
start_at at ends (suc k) = get_or ends k 0

record IsAt (b : ℕ → ℕ) (at most : ℕ) (ends : List ℕ) (k : ℕ) : Type 0 where
  fragment : IsFragment b (start_at at ends k) (get_or ends k 0)
  inside : get_or ends k 0 ≤ most

-- the rest of the bytes, behind the first frame
behind_frame : (b : ℕ → ℕ) (at : ℕ) (frame rest : List ℕ) → ((j : ℕ) → j < length (frame ++ rest) → b (at + j) ≡ byte_in (frame ++ rest) j)
    → (j : ℕ) → j < length rest → b (at + length frame + j) ≡ byte_in rest j
behind_frame b at frame rest same j below =
    let many = length-append frame rest in
    ap b (let place : at + length frame + j ≡ at + (length frame + j) = omega arith in place)
    ∙ (same (length frame + j) (omega arith) ∙ (get_or-append_right frame rest (length frame) (length frame + j) 0 refl (omega arith) ∙ ap (λ i. get_or rest i 0) (let back : length frame + j - length frame ≡ j = omega arith in back)))

frames_at : (b : ℕ → ℕ) (done : List (List ℕ)) (at : ℕ) → All (λ (fragment : List ℕ). length fragment < 2 ^ 28) done
    → ((j : ℕ) → j < length (flat_map framed done) → b (at + j) ≡ byte_in (flat_map framed done) j)
    → (k : ℕ) → k < length done → IsAt b at (at + length (flat_map framed done)) (ends_from b at (length done)) k
frames_at b [] at small same k below = absurd (omega arith)
frames_at b (fragment ∷ done) at small same zero below =
    let one = one_frame b at fragment (flat_map framed done) (All-head (λ (f : List ℕ). length f < 2 ^ 28) fragment done small) same in
    record {
      fragment = subst (λ e. IsFragment b at e) (sym one.1) one.0;
      inside = let end = one.1 in omega (arith, length-append (framed fragment) (flat_map framed done));
    }
frames_at b (fragment ∷ done) at small same (suc k) below =
    let one = one_frame b at fragment (flat_map framed done) (All-head (λ (f : List ℕ). length f < 2 ^ 28) fragment done small) same in
    let end = end_after b at in
    let tail = frames_at b done end (All-tail (λ (f : List ℕ). length f < 2 ^ 28) fragment done small)
    (subst (λ e. (j : ℕ) → j < length (flat_map framed done) → b (e + j) ≡ byte_in (flat_map framed done) j) (sym one.1) (behind_frame b at (framed fragment) (flat_map framed done) same))
    k (omega arith) in
    record {
      fragment = subst (λ s. IsFragment b s (get_or (ends_from b end (length done)) k 0)) (starts_behind end (ends_from b end (length done)) k) tail.fragment;
      inside = let most = tail.inside in let is = one.1 in omega (arith, length-append (framed fragment) (flat_map framed done));
    }
  where
    starts_behind : (end : ℕ) (ends : List ℕ) (k : ℕ) → start_at end ends k ≡ get_or (end ∷ ends) k 0
    starts_behind end ends zero = refl
    starts_behind end ends (suc k) = refl

-- the last end is where the frames end
last_end : (b : ℕ → ℕ) (fragment : List ℕ) (done : List (List ℕ)) (at : ℕ) → All (λ (f : List ℕ). length f < 2 ^ 28) (fragment ∷ done)
    → ((j : ℕ) → j < length (flat_map framed (fragment ∷ done)) → b (at + j) ≡ byte_in (flat_map framed (fragment ∷ done)) j)
    → get_or (ends_from b at (suc (length done))) (length done) 0 ≡ at + length (flat_map framed (fragment ∷ done))
last_end b fragment [] at small same =
    let one = one_frame b at fragment [] (All-head (λ (f : List ℕ). length f < 2 ^ 28) fragment [] small) same in
    one.1 ∙ omega (arith, length-append (framed fragment) [])
last_end b fragment (next ∷ done) at small same =
    let one = one_frame b at fragment (flat_map framed (next ∷ done)) (All-head (λ (f : List ℕ). length f < 2 ^ 28) fragment (next ∷ done) small) same in
    let tail = last_end b next done (end_after b at) (All-tail (λ (f : List ℕ). length f < 2 ^ 28) fragment (next ∷ done) small)
    (subst (λ e. (j : ℕ) → j < length (flat_map framed (next ∷ done)) → b (e + j) ≡ byte_in (flat_map framed (next ∷ done)) j) (sym one.1) (behind_frame b at (framed fragment) (flat_map framed (next ∷ done)) same)) in
    let is = one.1 in
    tail ∙ omega (arith, is, length-append (framed fragment) (flat_map framed (next ∷ done)))

sealed_end : (b : ℕ → ℕ) (done : List (List ℕ)) → All (λ (fragment : List ℕ). length fragment < 2 ^ 28) done
    → ((j : ℕ) → j < length (flat_map framed done) → b j ≡ byte_in (flat_map framed done) j)
    → sealed_to (ends_from b 0 (length done)) ≡ length (flat_map framed done)
sealed_end b [] small same = refl
sealed_end b (fragment ∷ done) small same =
    let many = length-ends_from b 0 (suc (length done)) in
    let before : length (ends_from b 0 (suc (length done))) - 1 ≡ length done = omega (arith, many) in
    ap (λ n. get_or (ends_from b 0 (suc (length done))) n 0) before ∙ (last_end b fragment done 0 small (λ j below. ap b (zero-add j) ∙ same j below) ∙ zero-add (length (flat_map framed (fragment ∷ done))))

pub frames_read : (byte : ℕ → ℕ) (done : List (List ℕ)) → All (λ (fragment : List ℕ). length fragment < 2 ^ 28) done
    → ((j : ℕ) → j < length (flat_map framed done) → byte j ≡ byte_in (flat_map framed done) j)
    → HasFragments byte (ends_from byte 0 (length done)) × (sealed_to (ends_from byte 0 (length done)) ≡ length (flat_map framed done))
frames_read byte done small same =
    let last = sealed_end byte done small same in (
      λ k below.
          let is = frames_at byte done 0 small (λ j below. ap byte (zero-add j) ∙ same j below) k (omega (arith, length-ends_from byte 0 (length done))) in
          (subst (λ s. IsFragment byte s (get_or (ends_from byte 0 (length done)) k 0)) (starts byte (ends_from byte 0 (length done)) k) is.fragment, (let most = is.inside in omega arith)),
      last,
    )
  where
    starts : (b : ℕ → ℕ) (ends : List ℕ) (k : ℕ) → start_at 0 ends k ≡ start_of ends k
    starts b ends zero = refl
    starts b ends (suc k) = refl
