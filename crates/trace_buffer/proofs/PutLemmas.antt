-- A payload of which four bytes are replaced inside its last fragment.
use Rattle.std.proofs.Common.{◌≡◌, ℕ, zero, suc, ◌+◌, ◌-◌, ◌*◌, ◌%◌, ◌≤◌, ◌==◌, ◌⊎◌, ⊎_elim, inl, inr, nat_lt, nat_le, Bool, true, false, cond, List, [], ◌∷◌, length, take, drop, Option, Some, None, refl, sym, ap, ◌∙◌, subst, arith, append_assoc, true≢false}
use Rattle.std.proofs.lemmas.Bool.Decides.{nat_tests}
use Rattle.std.proofs.lemmas.List.{take_rest, length-drop}
use Rattle.std.proofs.lemmas.Bool.{and_parts}
use Rattle.trace_base.proofs.Choices.{more_isnt_none}
use Rattle.ring_bytes.specs.Value.{put_at}
use Rattle.ring_bytes.proofs.SliceLemmas.{length_put, put_same, slice_put_within}
use Rattle.trace_model.specs.Fragments.{drop_size}
use Rattle.trace_model.specs.Images.{Fragment, Patch, holds_patch, last_holds, patched_fragment, patched_last, with_bytes}
use Rattle.trace_model.specs.Reading.{Reading, Fragments, Unreadable, Size, size_of, longer_size, fragment_of, reading_from, reading_of, read_on, behind, fragment_end, fragments_of, is_readable}
use Rattle.trace_buffer.proofs.LossLemmas.{length_from}

-- Parts of a list into which a piece was put

part_before : (p w v : ℕ) (bs xs : List ℕ) → p + length bs ≤ length xs → w + v ≤ p → take v (drop w (put_at p bs xs)) ≡ take v (drop w xs)
part_before p w v bs xs fits low = (put_same p bs xs fits).below w v low

part_within : (p w v : ℕ) (bs xs : List ℕ) → w ≤ p → p + length bs ≤ w + v → w + v ≤ length xs → take v (drop w (put_at p bs xs)) ≡ put_at (p - w) bs (take v (drop w xs))
part_within p w v bs xs low high fits =
    let e : p ≡ w + (p - w) = omega arith in
    ap (λ k. take v (drop w (put_at k bs xs))) e ∙ slice_put_within w v (p - w) bs xs (omega arith) fits

drop_put : (p k : ℕ) (bs xs : List ℕ) → k ≤ p → p + length bs ≤ length xs → drop k (put_at p bs xs) ≡ put_at (p - k) bs (drop k xs)
drop_put p k bs xs low fits =
    sym (take_rest (put_at p bs xs) k)
    ∙ ap (λ n. take (n - k) (drop k (put_at p bs xs))) (length_put p bs xs fits)
    ∙ part_within p k (length xs - k) bs xs low (omega arith) (omega arith)
    ∙ ap (put_at (p - k) bs) (take_rest xs k)

-- as the definitions have it
put_is : (p : ℕ) (bs xs : List ℕ) → put_at p bs xs ≡ with_bytes xs p bs
put_is p bs xs = sym (append_assoc (take p xs) bs (drop (p + length bs) xs))

-- The size in front

size_same : (most : ℕ) (xs ys : List ℕ) (size : Size) → size_of most xs ≡ Some size → take size.width ys ≡ take size.width xs → size_of most ys ≡ Some size
size_same zero xs ys size is same = absurd (cc)
size_same (suc most) [] ys size is same = absurd (cc)
size_same (suc most) (x ∷ xs) ys size is same =
    of (nat_lt x 128) refl is (λ s h zs k. size_same most xs zs s h k)
  where
    ones : (size : Size) → record { value = x; width = 1 } ≡ size → take size.width ys ≡ take size.width (x ∷ xs) → (take 1 ys ≡ x ∷ [])
    ones size e same = subst (λ (s : Size). take s.width ys ≡ take s.width (x ∷ xs)) (sym e) same

    short : (ys : List ℕ) → take 1 ys ≡ x ∷ [] → nat_lt x 128 ≡ true → size_of (suc most) ys ≡ Some (record { value = x; width = 1 })
    short [] e small = absurd (cc)
    short (y ∷ ys) e small =
        let here : y ≡ x = cc in
        ap (λ z. cond (nat_lt z 128) (Some (record { value = z; width = 1 })) (longer_size z (size_of most ys))) here
        ∙ ap (λ b. cond b (Some (record { value = x; width = 1 })) (longer_size x (size_of most ys))) small

    long : (s : Size) (ys : List ℕ) → size_of most xs ≡ Some s → nat_lt x 128 ≡ false → take (suc s.width) ys ≡ x ∷ take s.width xs → ((zs : List ℕ) → take s.width zs ≡ take s.width xs → size_of most zs ≡ Some s) → size_of (suc most) ys ≡ longer_size x (Some s)
    long s [] is big e rest = absurd (cc)
    long s (y ∷ ys) is big e rest =
        let here : y ≡ x = cc in
        let tail : take s.width ys ≡ take s.width xs = cc in
        ap (λ z. cond (nat_lt z 128) (Some (record { value = z; width = 1 })) (longer_size z (size_of most ys))) here
        ∙ ap (λ b. cond b (Some (record { value = x; width = 1 })) (longer_size x (size_of most ys))) big
        ∙ ap (longer_size x) (rest ys tail)

    longer : (o : Option Size) → size_of most xs ≡ o → nat_lt x 128 ≡ false → longer_size x o ≡ Some size → ((s : Size) → size_of most xs ≡ Some s → (zs : List ℕ) → take s.width zs ≡ take s.width xs → size_of most zs ≡ Some s) → size_of (suc most) ys ≡ Some size
    longer None h big e rest = absurd (cc)
    longer (Some s) h big e rest =
        let whole : record { value = x % 128 + 128 * s.value; width = s.width + 1 } ≡ size = cc in
        let wide : s.width + 1 ≡ suc s.width = omega arith in
        long s ys h big
        (subst (λ n. take n ys ≡ take n (x ∷ xs)) wide (subst (λ (z : Size). take z.width ys ≡ take z.width (x ∷ xs)) (sym whole) same))
        (rest s h)
        ∙ e

    of : (b : Bool) → nat_lt x 128 ≡ b → cond b (Some (record { value = x; width = 1 })) (longer_size x (size_of most xs)) ≡ Some size → ((s : Size) → size_of most xs ≡ Some s → (zs : List ℕ) → take s.width zs ≡ take s.width xs → size_of most zs ≡ Some s) → size_of (suc most) ys ≡ Some size
    of true small e rest =
        let whole : record { value = x; width = 1 } ≡ size = cc in
        short ys (ones size whole same) small ∙ e
    of false big e rest = longer (size_of most xs) refl big e rest

-- A fragment

pub record IsFragment (last : Bool) (at : ℕ) (bytes : List ℕ) (f : Fragment) : Type 0 where
  pub size : Size
  pub sized : size_of 4 bytes ≡ Some size
  pub offset : f.offset ≡ at + size.width
  pub kind : ((size.value == drop_size) ≡ true × (last ≡ true) × (f ≡ record { bytes = drop size.width bytes; dropped = true; offset = at + size.width }))
      ⊎ ((size.value == drop_size) ≡ false × (nat_le (size.width + size.value) (length bytes) ≡ true) × (f ≡ record { bytes = take size.value (drop size.width bytes); dropped = false; offset = at + size.width }))

is_fragment : (last : Bool) (at : ℕ) (bytes : List ℕ) (f : Fragment) → fragment_of last at bytes (size_of 4 bytes) ≡ Some f → IsFragment last at bytes f
is_fragment last at bytes f is = of (size_of 4 bytes) refl is
  where
    plain : (s : Size) (b : Bool) → nat_le (s.width + s.value) (length bytes) ≡ b → size_of 4 bytes ≡ Some s → (s.value == drop_size) ≡ false → cond b (Some (record { bytes = take s.value (drop s.width bytes); dropped = false; offset = at + s.width })) None ≡ Some f → IsFragment last at bytes f
    plain s true fits sized d e =
        let same : record { bytes = take s.value (drop s.width bytes); dropped = false; offset = at + s.width } ≡ f = cc in
        record { size = s; sized = sized; offset = sym (ap (λ (x : Fragment). x.offset) same); kind = inr (d, fits, sym same) }
    plain s false fits sized d e = absurd (cc)

    marked : (s : Size) (b : Bool) → last ≡ b → size_of 4 bytes ≡ Some s → (s.value == drop_size) ≡ true → cond b (Some (record { bytes = drop s.width bytes; dropped = true; offset = at + s.width })) None ≡ Some f → IsFragment last at bytes f
    marked s true here sized d e =
        let same : record { bytes = drop s.width bytes; dropped = true; offset = at + s.width } ≡ f = cc in
        record { size = s; sized = sized; offset = sym (ap (λ (x : Fragment). x.offset) same); kind = inl (d, here, sym same) }
    marked s false here sized d e = absurd (cc)

    sized_by : (s : Size) (b : Bool) → (s.value == drop_size) ≡ b → size_of 4 bytes ≡ Some s → cond b (cond last (Some (record { bytes = drop s.width bytes; dropped = true; offset = at + s.width })) None) (cond (nat_le (s.width + s.value) (length bytes)) (Some (record { bytes = take s.value (drop s.width bytes); dropped = false; offset = at + s.width })) None) ≡ Some f → IsFragment last at bytes f
    sized_by s true d sized e = marked s last refl sized d e
    sized_by s false d sized e = plain s (nat_le (s.width + s.value) (length bytes)) refl sized d e

    of : (o : Option Size) → size_of 4 bytes ≡ o → fragment_of last at bytes o ≡ Some f → IsFragment last at bytes f
    of None sized e = absurd (cc)
    of (Some s) sized e = sized_by s (s.value == drop_size) refl sized e

le_is : (m n : ℕ) → nat_le m n ≡ true → m ≤ n
le_is m n h = grind (arith, nat_tests)

-- the patch lies inside these bytes
pub record IsInside (patch : Patch) (at : ℕ) (bytes : List ℕ) : Type 0 where
  pub from : at ≤ patch.offset
  pub to : patch.offset + 4 ≤ at + length bytes

pub put_in : Patch → ℕ → List ℕ → List ℕ
put_in patch at bytes = put_at (patch.offset - at) patch.bytes bytes

-- the last fragment has the patch, and all before is as it was
last_patched : (at : ℕ) (bytes : List ℕ) (f : Fragment) (patch : Patch) → length patch.bytes ≡ 4 → IsFragment true at bytes f → holds_patch f patch ≡ true → IsInside patch at bytes × (fragment_of true at (put_in patch at bytes) (size_of 4 (put_in patch at bytes)) ≡ Some (patched_fragment patch f))
unfolding put_in
last_patched at bytes f patch four is holds = ⊎_elim marked plain is.kind
  where
    w : ℕ
    w = is.size.width

    two : (nat_le f.offset patch.offset ≡ true) × (nat_le (patch.offset + 4) (f.offset + length f.bytes) ≡ true)
    two = and_parts (nat_le f.offset patch.offset) (nat_le (patch.offset + 4) (f.offset + length f.bytes)) holds

    low : f.offset ≤ patch.offset
    low = le_is f.offset patch.offset two.0

    high : patch.offset + 4 ≤ f.offset + length f.bytes
    high = le_is (patch.offset + 4) (f.offset + length f.bytes) two.1

    bytes_of : IsInside patch at bytes → size_of 4 (put_at (patch.offset - at) patch.bytes bytes) ≡ Some is.size
    bytes_of inside =
        size_same 4 bytes (put_at (patch.offset - at) patch.bytes bytes) is.size is.sized
        (part_before (patch.offset - at) 0 is.size.width patch.bytes bytes (omega (arith, inside.from, inside.to, four)) (omega (arith, low, is.offset)))

    marked : ((is.size.value == drop_size) ≡ true × (true ≡ true) × (f ≡ record { bytes = drop is.size.width bytes; dropped = true; offset = at + is.size.width })) → IsInside patch at bytes × (fragment_of true at (put_at (patch.offset - at) patch.bytes bytes) (size_of 4 (put_at (patch.offset - at) patch.bytes bytes)) ≡ Some (patched_fragment patch f))
    marked k =
        let long : length f.bytes ≡ length bytes - is.size.width = ap (λ (x : Fragment). length x.bytes) k.2 ∙ length-drop is.size.width bytes in
        let inside : IsInside patch at bytes = record { from = omega (arith, low, is.offset); to = omega (arith, low, high, is.offset, long) } in
        let shift : patch.offset - at - is.size.width ≡ patch.offset - (at + is.size.width) = omega arith in (
          inside,
          ap (fragment_of true at (put_at (patch.offset - at) patch.bytes bytes)) (bytes_of inside)
              ∙ ap (λ b. cond b (Some (record { bytes = drop is.size.width (put_at (patch.offset - at) patch.bytes bytes); dropped = true; offset = at + is.size.width })) (cond (nat_le (is.size.width + is.size.value) (length (put_at (patch.offset - at) patch.bytes bytes))) (Some (record { bytes = take is.size.value (drop is.size.width (put_at (patch.offset - at) patch.bytes bytes)); dropped = false; offset = at + is.size.width })) None)) k.0
              ∙ ap (λ xs. Some (record { bytes = xs; dropped = true; offset = at + is.size.width }))
              (drop_put (patch.offset - at) is.size.width patch.bytes bytes (omega (arith, low, is.offset)) (omega (arith, inside.from, inside.to, four))
              ∙ ap (λ n. put_at n patch.bytes (drop is.size.width bytes)) shift ∙ put_is (patch.offset - (at + is.size.width)) patch.bytes (drop is.size.width bytes))
              ∙ ap (λ (x : Fragment). Some (patched_fragment patch x)) (sym k.2),
        )

    plain : ((is.size.value == drop_size) ≡ false × (nat_le (is.size.width + is.size.value) (length bytes) ≡ true) × (f ≡ record { bytes = take is.size.value (drop is.size.width bytes); dropped = false; offset = at + is.size.width })) → IsInside patch at bytes × (fragment_of true at (put_at (patch.offset - at) patch.bytes bytes) (size_of 4 (put_at (patch.offset - at) patch.bytes bytes)) ≡ Some (patched_fragment patch f))
    plain k =
        let fits = le_is (is.size.width + is.size.value) (length bytes) k.1 in
        let long : length f.bytes ≤ is.size.value = subst (λ n. n ≤ is.size.value) (sym (ap (λ (x : Fragment). length x.bytes) k.2)) (short is.size.value (drop is.size.width bytes)) in
        let inside : IsInside patch at bytes = record { from = omega (arith, low, is.offset); to = omega (arith, low, high, is.offset, long, fits) } in
        let shift : patch.offset - at - is.size.width ≡ patch.offset - (at + is.size.width) = omega arith in (
          inside,
          ap (fragment_of true at (put_at (patch.offset - at) patch.bytes bytes)) (bytes_of inside)
              ∙ ap (λ b. cond b (Some (record { bytes = drop is.size.width (put_at (patch.offset - at) patch.bytes bytes); dropped = true; offset = at + is.size.width })) (cond (nat_le (is.size.width + is.size.value) (length (put_at (patch.offset - at) patch.bytes bytes))) (Some (record { bytes = take is.size.value (drop is.size.width (put_at (patch.offset - at) patch.bytes bytes)); dropped = false; offset = at + is.size.width })) None)) k.0
              ∙ ap (λ b. cond b (Some (record { bytes = take is.size.value (drop is.size.width (put_at (patch.offset - at) patch.bytes bytes)); dropped = false; offset = at + is.size.width })) None)
              (ap (nat_le (is.size.width + is.size.value)) (length_put (patch.offset - at) patch.bytes bytes (omega (arith, inside.from, inside.to, four))) ∙ k.1)
              ∙ ap (λ xs. Some (record { bytes = xs; dropped = false; offset = at + is.size.width }))
              (part_within (patch.offset - at) is.size.width is.size.value patch.bytes bytes (omega (arith, low, is.offset)) (omega (arith, low, high, is.offset, long, four)) fits
              ∙ ap (λ n. put_at n patch.bytes (take is.size.value (drop is.size.width bytes))) shift ∙ put_is (patch.offset - (at + is.size.width)) patch.bytes (take is.size.value (drop is.size.width bytes)))
              ∙ ap (λ (x : Fragment). Some (patched_fragment patch x)) (sym k.2),
        )
      where
        short : (n : ℕ) (xs : List ℕ) → length (take n xs) ≤ n
        short zero xs = omega arith
        short (suc n) [] = omega arith
        short (suc n) (x ∷ xs) = let rest = short n xs in omega arith

before_same : (at : ℕ) (bytes : List ℕ) (f : Fragment) (patch : Patch) → length patch.bytes ≡ 4 → IsFragment false at bytes f → fragment_end f ≤ patch.offset → IsInside patch at bytes → fragment_of false at (put_in patch at bytes) (size_of 4 (put_in patch at bytes)) ≡ Some f
unfolding put_in
before_same at bytes f patch four is behind_it inside = ⊎_elim marked plain is.kind
  where
    marked : ((is.size.value == drop_size) ≡ true × (false ≡ true) × (f ≡ record { bytes = drop is.size.width bytes; dropped = true; offset = at + is.size.width })) → fragment_of false at (put_at (patch.offset - at) patch.bytes bytes) (size_of 4 (put_at (patch.offset - at) patch.bytes bytes)) ≡ Some f
    marked k = absurd (true≢false (sym k.1))

    plain : ((is.size.value == drop_size) ≡ false × (nat_le (is.size.width + is.size.value) (length bytes) ≡ true) × (f ≡ record { bytes = take is.size.value (drop is.size.width bytes); dropped = false; offset = at + is.size.width })) → fragment_of false at (put_at (patch.offset - at) patch.bytes bytes) (size_of 4 (put_at (patch.offset - at) patch.bytes bytes)) ≡ Some f
    plain k =
        let fits = le_is (is.size.width + is.size.value) (length bytes) k.1 in
        let long : length f.bytes ≡ is.size.value = ap (λ (x : Fragment). length x.bytes) k.2 ∙ full is.size.value (drop is.size.width bytes) (omega (arith, fits, length-drop is.size.width bytes)) in
        let room : patch.offset - at + length patch.bytes ≤ length bytes = omega (arith, inside.from, inside.to, four) in
        ap (fragment_of false at (put_at (patch.offset - at) patch.bytes bytes))
        (size_same 4 bytes (put_at (patch.offset - at) patch.bytes bytes) is.size is.sized
        (part_before (patch.offset - at) 0 is.size.width patch.bytes bytes room (omega (arith, behind_it, is.offset))))
        ∙ ap (λ b. cond b None (cond (nat_le (is.size.width + is.size.value) (length (put_at (patch.offset - at) patch.bytes bytes))) (Some (record { bytes = take is.size.value (drop is.size.width (put_at (patch.offset - at) patch.bytes bytes)); dropped = false; offset = at + is.size.width })) None)) k.0
        ∙ ap (λ b. cond b (Some (record { bytes = take is.size.value (drop is.size.width (put_at (patch.offset - at) patch.bytes bytes)); dropped = false; offset = at + is.size.width })) None)
        (ap (nat_le (is.size.width + is.size.value)) (length_put (patch.offset - at) patch.bytes bytes room) ∙ k.1)
        ∙ ap (λ xs. Some (record { bytes = xs; dropped = false; offset = at + is.size.width }))
        (part_before (patch.offset - at) is.size.width is.size.value patch.bytes bytes room (omega (arith, behind_it, is.offset, long)))
        ∙ ap (λ (x : Fragment). Some x) (sym k.2)
      where
        full : (n : ℕ) (xs : List ℕ) → n ≤ length xs → length (take n xs) ≡ n
        full zero xs le = refl
        full (suc n) [] le = absurd (omega arith)
        full (suc n) (x ∷ xs) le = let rest = full n xs (omega arith) in omega arith

-- The reading of all

none_reads : (left number at : ℕ) (bytes : List ℕ) → reading_from (suc left) number at bytes ≡ Fragments [] → ⊥
none_reads left number at bytes is =
    let long = length_from (suc left) number at bytes (ap is_readable is) in
    let none : length (fragments_of (reading_from (suc left) number at bytes)) ≡ 0 = ap (λ r. length (fragments_of r)) is in
    omega (arith, long, none)

pub record IsPatched (patch : Patch) (left number at : ℕ) (bytes : List ℕ) (fs : List Fragment) : Type 0 where
  pub inside : IsInside patch at bytes
  pub reads : reading_from left number at (put_in patch at bytes) ≡ Fragments (patched_last patch fs)

one_patched : (number at : ℕ) (bytes : List ℕ) (fs : List Fragment) (patch : Patch) → length patch.bytes ≡ 4 → reading_from 1 number at bytes ≡ Fragments fs → last_holds fs patch ≡ true → IsPatched patch 1 number at bytes fs
one_patched number at bytes fs patch four reads holds = of (fragment_of true at bytes (size_of 4 bytes)) refl reads
  where
    of : (o : Option Fragment) → fragment_of true at bytes (size_of 4 bytes) ≡ o → read_on number (λ f. Fragments []) o ≡ Fragments fs → IsPatched patch 1 number at bytes fs
    of None found e = absurd (cc)
    of (Some f) found e =
        let all : f ∷ [] ≡ fs = cc in
        let held : holds_patch f patch ≡ true = ap (λ xs. last_holds xs patch) all ∙ holds in
        let done = last_patched at bytes f patch four (is_fragment true at bytes f found) held in
        record {
          inside = done.0;
          reads = ap (read_on number (λ x. Fragments [])) done.1 ∙ ap (λ xs. Fragments (patched_last patch xs)) all;
        }

step_patched : (left number at : ℕ) (bytes : List ℕ) (f : Fragment) (gs : List Fragment) (patch : Patch) → length patch.bytes ≡ 4 → IsFragment false at bytes f → IsPatched patch (suc left) (suc number) (fragment_end f) (drop (fragment_end f - at) bytes) gs → IsInside patch at bytes × (reading_from (suc (suc left)) number at (put_in patch at bytes) ≡ behind f (Fragments (patched_last patch gs)))
unfolding put_in
step_patched left number at bytes f gs patch four is later =
    let long = length-drop (fragment_end f - at) bytes in
    let inside : IsInside patch at bytes = record { from = omega (arith, later.inside.from, is.offset); to = omega (arith, later.inside.from, later.inside.to, is.offset, long) } in
    let same = before_same at bytes f patch four is later.inside.from inside in
    let shift : patch.offset - at - (fragment_end f - at) ≡ patch.offset - fragment_end f = omega (arith, later.inside.from, is.offset) in (
      inside,
      ap (λ b. read_on number (λ x. reading_from (suc left) (suc number) (fragment_end x) (drop (fragment_end x - at) (put_at (patch.offset - at) patch.bytes bytes))) (fragment_of b at (put_at (patch.offset - at) patch.bytes bytes) (size_of 4 (put_at (patch.offset - at) patch.bytes bytes)))) (more_isnt_none left)
          ∙ ap (read_on number (λ x. reading_from (suc left) (suc number) (fragment_end x) (drop (fragment_end x - at) (put_at (patch.offset - at) patch.bytes bytes)))) same
          ∙ ap (λ xs. behind f (reading_from (suc left) (suc number) (fragment_end f) xs))
          (drop_put (patch.offset - at) (fragment_end f - at) patch.bytes bytes (omega (arith, later.inside.from)) (omega (arith, inside.from, inside.to, four))
          ∙ ap (λ n. put_at n patch.bytes (drop (fragment_end f - at) bytes)) shift)
          ∙ ap (behind f) later.reads,
    )

many_patched : (left number at : ℕ) (bytes : List ℕ) (fs : List Fragment) (patch : Patch) → length patch.bytes ≡ 4 → reading_from (suc left) number at bytes ≡ Fragments fs → last_holds fs patch ≡ true → IsPatched patch (suc left) number at bytes fs
many_patched zero number at bytes fs patch four reads holds = one_patched number at bytes fs patch four reads holds
many_patched (suc left) number at bytes fs patch four reads holds =
    of (fragment_of false at bytes (size_of 4 bytes)) refl
    (sym (ap (λ b. read_on number (λ x. reading_from (suc left) (suc number) (fragment_end x) (drop (fragment_end x - at) bytes)) (fragment_of b at bytes (size_of 4 bytes))) (more_isnt_none left)) ∙ reads)
    (λ f gs e h. many_patched left (suc number) (fragment_end f) (drop (fragment_end f - at) bytes) gs patch four e h)
  where
    later : (f : Fragment) (gs : List Fragment) → IsFragment false at bytes f → reading_from (suc left) (suc number) (fragment_end f) (drop (fragment_end f - at) bytes) ≡ Fragments gs → f ∷ gs ≡ fs → (last_holds gs patch ≡ true → IsPatched patch (suc left) (suc number) (fragment_end f) (drop (fragment_end f - at) bytes) gs) → IsPatched patch (suc (suc left)) number at bytes fs
    later f [] is e all rest = absurd (none_reads left (suc number) (fragment_end f) (drop (fragment_end f - at) bytes) e)
    later f (g ∷ gs) is e all rest =
        let held : last_holds (g ∷ gs) patch ≡ true = ap (λ xs. last_holds xs patch) all ∙ holds in
        let done = step_patched left number at bytes f (g ∷ gs) patch four is (rest held) in
        record { inside = done.0; reads = done.1 ∙ ap (λ xs. Fragments (patched_last patch xs)) all }

    read : (f : Fragment) (r : Reading) → IsFragment false at bytes f → reading_from (suc left) (suc number) (fragment_end f) (drop (fragment_end f - at) bytes) ≡ r → behind f r ≡ Fragments fs → ((gs : List Fragment) → reading_from (suc left) (suc number) (fragment_end f) (drop (fragment_end f - at) bytes) ≡ Fragments gs → last_holds gs patch ≡ true → IsPatched patch (suc left) (suc number) (fragment_end f) (drop (fragment_end f - at) bytes) gs) → IsPatched patch (suc (suc left)) number at bytes fs
    read f (Fragments gs) is e all rest = let list : f ∷ gs ≡ fs = cc in later f gs is e list (rest gs e)
    read f (Unreadable n) is e all rest = absurd (cc)

    of : (o : Option Fragment) → fragment_of false at bytes (size_of 4 bytes) ≡ o → read_on number (λ x. reading_from (suc left) (suc number) (fragment_end x) (drop (fragment_end x - at) bytes)) o ≡ Fragments fs → ((f : Fragment) (gs : List Fragment) → reading_from (suc left) (suc number) (fragment_end f) (drop (fragment_end f - at) bytes) ≡ Fragments gs → last_holds gs patch ≡ true → IsPatched patch (suc left) (suc number) (fragment_end f) (drop (fragment_end f - at) bytes) gs) → IsPatched patch (suc (suc left)) number at bytes fs
    of None found e rest = absurd (cc)
    of (Some f) found e rest =
        read f (reading_from (suc left) (suc number) (fragment_end f) (drop (fragment_end f - at) bytes)) (is_fragment false at bytes f found) refl e (rest f)

-- The law: four bytes inside the last fragment's, replaced in the payload, are replaced in that fragment, and all else reads
-- as before.
pub record IsPayloadPatched (patch : Patch) (count : ℕ) (payload : List ℕ) (fs : List Fragment) : Type 0 where
  pub inside : patch.offset + 4 ≤ length payload
  pub reads : reading_of count (put_at patch.offset patch.bytes payload) ≡ Fragments (patched_last patch fs)

pub payload_patched : (count : ℕ) (payload : List ℕ) (fs : List Fragment) (patch : Patch) → length patch.bytes ≡ 4 → reading_of count payload ≡ Fragments fs → last_holds fs patch ≡ true → IsPayloadPatched patch count payload fs
unfolding put_in
payload_patched zero payload fs patch four reads holds = absurd (cc)
payload_patched (suc more) payload fs patch four reads holds =
    let done = many_patched more 0 0 payload fs patch four reads holds in
    let whole : patch.offset - 0 ≡ patch.offset = omega arith in
    record {
      inside = omega (arith, done.inside.to);
      reads = ap (λ n. reading_from (suc more) 0 0 (put_at n patch.bytes payload)) (sym whole) ∙ done.reads;
    }
