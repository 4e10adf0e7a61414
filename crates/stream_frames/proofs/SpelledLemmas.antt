-- A frame that is read is the one that was spelled, and what was spelled is read again.
use Rattle.std.proofs.Common.{◌≡◌, ◌⊎◌, ℕ, zero, suc, ◌+◌, ◌^◌, ◌<◌, ◌≤◌, Bool, true, false, cond, ltb, leb, eqb, ◌&&◌, List, [], ◌∷◌, ◌++◌, length, take, drop, Option, Some, None, refl, sym, ap, subst, ◌∙◌, append_assoc, arith, inl, inr}
use Rattle.std.specs.Int.{Width, w32, w64, byte_len, from_le_bytes, to_le_bytes}
use Rattle.std.specs.List.{flat_map, AllByRecursion}
use Rattle.std.proofs.lemmas.Bool.{cases_lt, ltb-false, le-ltb, le-leb, leb-true, eqb-true, and_parts, and_from}
use Rattle.std.proofs.lemmas.List.{nil_from_length, take_at, drop_at, take-append-drop, length-append, length-take, get_or-drop, get_or-take, get_or_past}
use Rattle.std.proofs.lemmas.Nat.{le_bytes_4, le_bytes_8, from_le_bytes-to_le_bytes_4, from_le_bytes-to_le_bytes_8}
use Rattle.std.proofs.lemmas.Option.{cond_some, same_Some}
use Rattle.page_geometry.specs.declared.chunk_header.ChunkHeader.{ChunkHeader}
use Rattle.page_geometry.specs.Header.{packed, unpacked}
use Rattle.page_geometry.proofs.HeaderLemmas.{packed-unpacked, unpacked-packed}
use Rattle.trace_model.specs.Images.{Patch}
use Rattle.stream_frames.specs.Decoding.{◌>>=◌, byte_at, number_at, four_at, flag_of, flag_at, patch_at, patches_at, counted_at, is_buffer, holds, is_within, commit_at, buffer_at, frame_of, decoded}
use Rattle.stream_frames.specs.Frames.{Commit, Frame, Commits, Reads, Closes, Limits, AreBytes, flag_byte, patch_bytes, commit_bytes, frame_bytes, IsBuffer, IsHeader, IsPatch, IsCommit, IsFrame, payload_size_of}
use Rattle.stream_frames.specs.Laws.{FramesAreSpelled}

bytes_behind : (n : ℕ) (bytes : List ℕ) → AreBytes bytes → AreBytes (drop n bytes)
bytes_behind n bytes fit i = rw get_or-drop (fit (n + i))

bytes_before : (n : ℕ) (bytes : List ℕ) → AreBytes bytes → AreBytes (take n bytes)
bytes_before n bytes fit i =
    elim (cases_lt i n) [
      | inl lt ↦ rw (get_or-take n bytes i 0 lt) (fit i)
      | inr le ↦ rw (get_or_past (take n bytes) i 0 (omega (arith, length-take n bytes))) (omega arith)
    ]

bytes_rest : (byte : ℕ) (bytes : List ℕ) → AreBytes (byte ∷ bytes) → AreBytes bytes
bytes_rest byte bytes fit i = fit (suc i)

-- the value of a step that is there
bind_some : {A B : Type 0} (r : Option A) (f : A → Option B) (y : B) → (r >>= f) ≡ Some y → (x : A) × (r ≡ Some x) × (f x ≡ Some y)
bind_some (Some x) f y e = (x, refl, e)
bind_some None f y e = absurd cc

guard_some : {A : Type 0} (b : Bool) (x : Option A) (y : A) → cond b None x ≡ Some y → (b ≡ false) × (x ≡ Some y)
guard_some true x y e = absurd cc
guard_some false x y e = (refl, e)

-- what a reader took from the front
record Takes (bytes text rest : List ℕ) : Type 0 where
  pub parts : bytes ≡ text ++ rest
  pub fit : AreBytes rest

takes_both : (a x b y c : List ℕ) → Takes a x b → Takes b y c → Takes a (x ++ y) c
takes_both a x b y c p q = record { parts = p.parts ∙ ap (λ (t : List ℕ). x ++ t) q.parts ∙ sym (append_assoc x y c); fit = q.fit }

-- ---- fields

record IsWide (w : Width) (limit : ℕ) : Type 0 where
  pub len : (n : ℕ) → length (to_le_bytes w n) ≡ byte_len w
  pub back : (bytes : List ℕ) → length bytes ≡ byte_len w → AreBytes bytes → to_le_bytes w (from_le_bytes w bytes) ≡ bytes
  pub again : (n : ℕ) → n < limit → from_le_bytes w (to_le_bytes w n) ≡ n
  pub below : (bytes : List ℕ) → AreBytes bytes → from_le_bytes w bytes < limit

wide32 : IsWide w32 (2 ^ 32)
wide32 = record {
  len = λ n. refl;
  back = λ bytes len fit. le_bytes_4 bytes _ len fit refl;
  again = λ n lt. from_le_bytes-to_le_bytes_4 n lt;
  below = λ bytes fit. omega (arith, fit 0, fit 1, fit 2, fit 3);
}

wide64 : IsWide w64 (2 ^ 64)
wide64 = record {
  len = λ n. refl;
  back = λ bytes len fit. le_bytes_8 bytes _ len fit refl;
  again = λ n lt. from_le_bytes-to_le_bytes_8 n lt;
  below = λ bytes fit. omega (arith, fit 0, fit 1, fit 2, fit 3, fit 4, fit 5, fit 6, fit 7);
}

number_takes : (w : Width) (limit : ℕ) (wide : IsWide w limit) (bytes : List ℕ) (x : ℕ × List ℕ) → AreBytes bytes → number_at w bytes ≡ Some x
    → Takes bytes (to_le_bytes w x.0) x.1 × (x.0 < limit)
number_takes w limit wide bytes x fit e =
    let made : ℕ × List ℕ = (from_le_bytes w (take (byte_len w) bytes), drop (byte_len w) bytes) in
    let g = guard_some (ltb (length bytes) (byte_len w)) (Some made) x e in
    let long : byte_len w ≤ length bytes = ltb-false _ _ g.0 in
    let small = bytes_before (byte_len w) bytes fit in
    let front : to_le_bytes w made.0 ≡ take (byte_len w) bytes = wide.back (take (byte_len w) bytes) (omega (arith, length-take (byte_len w) bytes)) small in
    subst (λ (y : ℕ × List ℕ). Takes bytes (to_le_bytes w y.0) y.1 × (y.0 < limit)) (same_Some made x g.1)
    (record { parts = rw front (sym (take-append-drop (byte_len w) bytes)); fit = bytes_behind (byte_len w) bytes fit }, wide.below (take (byte_len w) bytes) small)

number_again : (w : Width) (limit : ℕ) (wide : IsWide w limit) (n : ℕ) (rest : List ℕ) → n < limit → number_at w (to_le_bytes w n ++ rest) ≡ Some (n, rest)
number_again w limit wide n rest lt =
    let len = wide.len n in
    let long : ltb (length (to_le_bytes w n ++ rest)) (byte_len w) ≡ false = le-ltb _ _ (omega (arith, length-append (to_le_bytes w n) rest)) in
    rw (long, take_at (to_le_bytes w n) rest (byte_len w) len, drop_at (to_le_bytes w n) rest (byte_len w) len, wide.again n lt) refl

four_takes : (bytes : List ℕ) (x : List ℕ × List ℕ) → AreBytes bytes → four_at bytes ≡ Some x → Takes bytes x.0 x.1 × (length x.0 ≡ 4)
four_takes bytes x fit e =
    let made : List ℕ × List ℕ = (take 4 bytes, drop 4 bytes) in
    let g = guard_some (ltb (length bytes) 4) (Some made) x e in
    let long : 4 ≤ length bytes = ltb-false _ _ g.0 in
    subst (λ (y : List ℕ × List ℕ). Takes bytes y.0 y.1 × (length y.0 ≡ 4)) (same_Some made x g.1)
    (record { parts = sym (take-append-drop 4 bytes); fit = bytes_behind 4 bytes fit }, omega (arith, length-take 4 bytes))

four_again : (four rest : List ℕ) → length four ≡ 4 → four_at (four ++ rest) ≡ Some (four, rest)
four_again four rest len =
    let long : ltb (length (four ++ rest)) 4 ≡ false = le-ltb _ _ (omega (arith, length-append four rest)) in
    rw (long, take_at four rest 4 len, drop_at four rest 4 len) refl

byte_takes : (bytes : List ℕ) (x : ℕ × List ℕ) → AreBytes bytes → byte_at bytes ≡ Some x → Takes bytes (x.0 ∷ []) x.1
byte_takes [] x fit e = absurd cc
byte_takes (byte ∷ bytes) x fit e =
    subst (λ (y : ℕ × List ℕ). Takes (byte ∷ bytes) (y.0 ∷ []) y.1) (same_Some (byte, bytes) x e) (record { parts = refl; fit = bytes_rest byte bytes fit })

-- which way a choice went
chosen : {A : Type 0} (b : Bool) (x y z : A) → cond b x y ≡ z → ((b ≡ true) × (x ≡ z)) ⊎ ((b ≡ false) × (y ≡ z))
chosen true x y z e = inl (refl, e)
chosen false x y z e = inr (refl, e)

flag_is : (byte : ℕ) (flag : Bool) → flag_of byte ≡ Some flag → byte ≡ flag_byte flag
flag_is byte flag e = elim (chosen (eqb byte 0) (Some false) (cond (eqb byte 1) (Some true) None) (Some flag) e) [
  | inl p ↦ eqb-true byte 0 p.0 ∙ ap flag_byte (same_Some false flag p.1)
  | inr q ↦ let g = cond_some (eqb byte 1) true flag q.1 in eqb-true byte 1 g.0 ∙ ap flag_byte g.1
]

flag_takes : (bytes : List ℕ) (x : Bool × List ℕ) → AreBytes bytes → flag_at bytes ≡ Some x → Takes bytes (flag_byte x.0 ∷ []) x.1
unfolding flag_at
flag_takes bytes x fit e =
    let a = bind_some (byte_at bytes) (λ byte. flag_of byte.0 >>= λ flag. Some (flag, byte.1)) x e in
    let b = bind_some (flag_of a.0.0) (λ flag. Some (flag, a.0.1)) x a.2 in
    let t = byte_takes bytes a.0 fit a.1 in
    let made : Bool × List ℕ = (b.0, a.0.1) in
    subst (λ (y : Bool × List ℕ). Takes bytes (flag_byte y.0 ∷ []) y.1) (same_Some made x b.2)
    (subst (λ (byte : ℕ). Takes bytes (byte ∷ []) a.0.1) (flag_is a.0.0 b.0 b.1) t)

flag_again : (flag : Bool) (rest : List ℕ) → flag_at (flag_byte flag ∷ rest) ≡ Some (flag, rest)
unfolding flag_at
flag_again true rest = refl
flag_again false rest = refl

-- ---- patches

patch_takes : (bytes : List ℕ) (x : Patch × List ℕ) → AreBytes bytes → patch_at bytes ≡ Some x → Takes bytes (patch_bytes x.0) x.1 × IsPatch x.0
unfolding patch_at
patch_takes bytes x fit e =
    let a = bind_some (number_at w32 bytes) (λ chunk_id. number_at w32 chunk_id.1 >>= λ offset. four_at offset.1 >>= λ four. flag_at four.1 >>= λ last. Some (record { chunk_id = chunk_id.0; offset = offset.0; bytes = four.0; last = last.0 }, last.1)) x e in
    let b = bind_some (number_at w32 a.0.1) (λ offset. four_at offset.1 >>= λ four. flag_at four.1 >>= λ last. Some (record { chunk_id = a.0.0; offset = offset.0; bytes = four.0; last = last.0 }, last.1)) x a.2 in
    let d = bind_some (four_at b.0.1) (λ four. flag_at four.1 >>= λ last. Some (record { chunk_id = a.0.0; offset = b.0.0; bytes = four.0; last = last.0 }, last.1)) x b.2 in
    let f = bind_some (flag_at d.0.1) (λ last. Some (record { chunk_id = a.0.0; offset = b.0.0; bytes = d.0.0; last = last.0 }, last.1)) x d.2 in
    let t0 = number_takes w32 (2 ^ 32) wide32 bytes a.0 fit a.1 in
    let t1 = number_takes w32 (2 ^ 32) wide32 a.0.1 b.0 t0.0.fit b.1 in
    let t2 = four_takes b.0.1 d.0 t1.0.fit d.1 in
    let t3 = flag_takes d.0.1 f.0 t2.0.fit f.1 in
    let e23 = takes_both b.0.1 d.0.0 d.0.1 (flag_byte f.0.0 ∷ []) f.0.1 t2.0 t3 in
    let e13 = takes_both a.0.1 (to_le_bytes w32 b.0.0) b.0.1 (d.0.0 ++ (flag_byte f.0.0 ∷ [])) f.0.1 t1.0 e23 in
    let e03 = takes_both bytes (to_le_bytes w32 a.0.0) a.0.1 (to_le_bytes w32 b.0.0 ++ (d.0.0 ++ (flag_byte f.0.0 ∷ []))) f.0.1 t0.0 e13 in
    let made : Patch × List ℕ = (record { chunk_id = a.0.0; offset = b.0.0; bytes = d.0.0; last = f.0.0 }, f.0.1) in
    subst (λ (y : Patch × List ℕ). Takes bytes (patch_bytes y.0) y.1 × IsPatch y.0) (same_Some made x f.2)
    (e03, record { chunk_id = t0.1; offset = t1.1; four = t2.1 })

patch_again : (patch : Patch) (rest : List ℕ) → IsPatch patch → patch_at (patch_bytes patch ++ rest) ≡ Some (patch, rest)
unfolding patch_at
patch_again patch rest is =
    let regrouped : patch_bytes patch ++ rest ≡ to_le_bytes w32 patch.chunk_id ++ (to_le_bytes w32 patch.offset ++ (patch.bytes ++ (flag_byte patch.last ∷ rest))) =
    append_assoc (to_le_bytes w32 patch.chunk_id) (to_le_bytes w32 patch.offset ++ (patch.bytes ++ (flag_byte patch.last ∷ []))) rest
    ∙ ap (λ (t : List ℕ). to_le_bytes w32 patch.chunk_id ++ t)
    (append_assoc (to_le_bytes w32 patch.offset) (patch.bytes ++ (flag_byte patch.last ∷ [])) rest
    ∙ ap (λ (t : List ℕ). to_le_bytes w32 patch.offset ++ t) (append_assoc patch.bytes (flag_byte patch.last ∷ []) rest)) in
    ap patch_at regrouped
    ∙ rw (
      number_again w32 (2 ^ 32) wide32 patch.chunk_id (to_le_bytes w32 patch.offset ++ (patch.bytes ++ (flag_byte patch.last ∷ rest))) is.chunk_id,
      number_again w32 (2 ^ 32) wide32 patch.offset (patch.bytes ++ (flag_byte patch.last ∷ rest)) is.offset,
      four_again patch.bytes (flag_byte patch.last ∷ rest) is.four,
      flag_again patch.last rest,
    ) refl

patches_take : (count : ℕ) (bytes : List ℕ) (x : List Patch × List ℕ) → AreBytes bytes → patches_at count bytes ≡ Some x
    → Takes bytes (flat_map patch_bytes x.0) x.1 × (length x.0 ≡ count) × AllByRecursion IsPatch x.0
unfolding patches_at
patches_take zero bytes x fit e =
    subst (λ (y : List Patch × List ℕ). Takes bytes (flat_map patch_bytes y.0) y.1 × (length y.0 ≡ 0) × AllByRecursion IsPatch y.0)
    (same_Some ([], bytes) x e) (record { parts = refl; fit = fit }, refl, tt)
patches_take (suc count) bytes x fit e =
    let a = bind_some (patch_at bytes) (λ first. patches_at count first.1 >>= λ others. Some (first.0 ∷ others.0, others.1)) x e in
    let b = bind_some (patches_at count a.0.1) (λ others. Some (a.0.0 ∷ others.0, others.1)) x a.2 in
    let first = patch_takes bytes a.0 fit a.1 in
    let second = patches_take count a.0.1 b.0 first.0.fit b.1 in
    let both = takes_both bytes (patch_bytes a.0.0) a.0.1 (flat_map patch_bytes b.0.0) b.0.1 first.0 second.0 in
    let made : List Patch × List ℕ = (a.0.0 ∷ b.0.0, b.0.1) in
    subst (λ (y : List Patch × List ℕ). Takes bytes (flat_map patch_bytes y.0) y.1 × (length y.0 ≡ suc count) × AllByRecursion IsPatch y.0)
    (same_Some made x b.2) (both, ap suc second.1, (first.1, second.2))

patches_again : (patches : List Patch) (rest : List ℕ) → AllByRecursion IsPatch patches
    → patches_at (length patches) (flat_map patch_bytes patches ++ rest) ≡ Some (patches, rest)
unfolding patches_at
patches_again [] rest are = refl
patches_again (patch ∷ patches) rest are =
    let regrouped : flat_map patch_bytes (patch ∷ patches) ++ rest ≡ patch_bytes patch ++ (flat_map patch_bytes patches ++ rest) =
    append_assoc (patch_bytes patch) (flat_map patch_bytes patches) rest in
    ap (patches_at (suc (length patches))) regrouped
    ∙ rw (patch_again patch (flat_map patch_bytes patches ++ rest) are.0, patches_again patches rest are.1) refl

counted_takes : (bytes : List ℕ) (x : List Patch × List ℕ) → AreBytes bytes → counted_at bytes ≡ Some x
    → Takes bytes (length x.0 ∷ flat_map patch_bytes x.0) x.1 × (length x.0 ≤ 16) × AllByRecursion IsPatch x.0
unfolding counted_at
counted_takes bytes x fit e =
    let a = bind_some (byte_at bytes) (λ count. cond (ltb 16 count.0) None (patches_at count.0 count.1)) x e in
    let g = guard_some (ltb 16 a.0.0) (patches_at a.0.0 a.0.1) x a.2 in
    let first = byte_takes bytes a.0 fit a.1 in
    let second = patches_take a.0.0 a.0.1 x first.fit g.1 in
    let few = ltb-false 16 a.0.0 g.0 in
    let both = takes_both bytes (a.0.0 ∷ []) a.0.1 (flat_map patch_bytes x.0) x.1 first second.0 in
    (subst (λ (n : ℕ). Takes bytes (n ∷ flat_map patch_bytes x.0) x.1) (sym second.1) both, omega (arith, second.1), second.2)

counted_again : (patches : List Patch) (rest : List ℕ) → length patches ≤ 16 → AllByRecursion IsPatch patches
    → counted_at (length patches ∷ (flat_map patch_bytes patches ++ rest)) ≡ Some (patches, rest)
unfolding counted_at
counted_again patches rest few are = let e = le-ltb 16 (length patches) few in rw e (patches_again patches rest are)

-- ---- frames

header_fits : (word : ℕ) → word < 2 ^ 64 → IsHeader (unpacked word)
unfolding unpacked
header_fits word below = record { chunk_id = omega arith; writer_id = omega arith; count = omega arith; flags = omega arith }

packed_below : (header : ChunkHeader) → IsHeader header → packed header < 2 ^ 64
unfolding packed
packed_below header is = let a = is.chunk_id in let b = is.writer_id in let d = is.count in let f = is.flags in omega arith

buffer_there : (limits : Limits) (buffer : ℕ) → is_buffer limits buffer ≡ true → IsBuffer limits buffer
buffer_there limits buffer e = let p = and_parts (leb 1 buffer) (leb buffer limits.buffers) e in (leb-true 1 buffer p.0, leb-true buffer limits.buffers p.1)

buffer_true : (limits : Limits) (buffer : ℕ) → IsBuffer limits buffer → is_buffer limits buffer ≡ true
buffer_true limits buffer is = and_from (leb 1 buffer) (leb buffer limits.buffers) (le-leb 1 buffer is.0) (le-leb buffer limits.buffers is.1)

commit_takes : (limits : Limits) (bytes : List ℕ) (commit : Commit) → AreBytes bytes → commit_at limits bytes ≡ Some commit
    → IsCommit limits commit × (bytes ≡ commit_bytes commit)
unfolding commit_at
commit_takes limits bytes commit fit e =
    let a = bind_some (byte_at bytes) (λ target. number_at w64 target.1 >>= λ header. counted_at header.1 >>= λ patches.
    cond (is_within limits (record { target = target.0; header = unpacked header.0; patches = patches.0; payload = patches.1 })) (Some (record { target = target.0; header = unpacked header.0; patches = patches.0; payload = patches.1 })) None) commit e in
    let b = bind_some (number_at w64 a.0.1) (λ header. counted_at header.1 >>= λ patches.
    cond (is_within limits (record { target = a.0.0; header = unpacked header.0; patches = patches.0; payload = patches.1 })) (Some (record { target = a.0.0; header = unpacked header.0; patches = patches.0; payload = patches.1 })) None) commit a.2 in
    let d = bind_some (counted_at b.0.1) (λ patches.
    cond (is_within limits (record { target = a.0.0; header = unpacked b.0.0; patches = patches.0; payload = patches.1 })) (Some (record { target = a.0.0; header = unpacked b.0.0; patches = patches.0; payload = patches.1 })) None) commit b.2 in
    let made : Commit = record { target = a.0.0; header = unpacked b.0.0; patches = d.0.0; payload = d.0.1 } in
    let g = cond_some (is_within limits made) made commit d.2 in
    let t0 = byte_takes bytes a.0 fit a.1 in
    let t1 = number_takes w64 (2 ^ 64) wide64 a.0.1 b.0 t0.fit b.1 in
    let t2 = counted_takes b.0.1 d.0 t1.0.fit d.1 in
    let head : to_le_bytes w64 (packed (unpacked b.0.0)) ≡ to_le_bytes w64 b.0.0 = ap (to_le_bytes w64) (packed-unpacked b.0.0) in
    let spelled : bytes ≡ commit_bytes made =
    t0.parts ∙ ap (λ (t : List ℕ). a.0.0 ∷ t) (t1.0.parts ∙ ap (λ (t : List ℕ). to_le_bytes w64 b.0.0 ++ t) t2.0.parts ∙ ap (λ (t : List ℕ). t ++ (length d.0.0 ∷ (flat_map patch_bytes d.0.0 ++ d.0.1))) (sym head)) in
    let within = and_parts (is_buffer limits a.0.0) (holds limits (unpacked b.0.0).writer_id d.0.1) g.0 in
    let named = and_parts (leb 1 (unpacked b.0.0).writer_id) (leb (unpacked b.0.0).writer_id (length limits.sizes) && leb (length d.0.1) (payload_size_of limits (unpacked b.0.0).writer_id)) within.1 in
    let sized = and_parts (leb (unpacked b.0.0).writer_id (length limits.sizes)) (leb (length d.0.1) (payload_size_of limits (unpacked b.0.0).writer_id)) named.1 in
    subst (λ (y : Commit). IsCommit limits y × (bytes ≡ commit_bytes y)) g.1 (
      record {
        target = buffer_there limits a.0.0 within.0;
        header = header_fits b.0.0 t1.1;
        least = leb-true _ _ named.0;
        most = leb-true _ _ sized.0;
        few = t2.1;
        patches = t2.2;
        fits = leb-true _ _ sized.1;
      },
      spelled,
    )

commit_again : (limits : Limits) (commit : Commit) → IsCommit limits commit → commit_at limits (commit_bytes commit) ≡ Some commit
unfolding commit_at
commit_again limits commit is =
    let h = is.header in
    let small = packed_below commit.header h in
    let count_below : commit.header.count < 2 ^ 10 = let k = h.count in omega arith in
    let flags_below : commit.header.flags < 2 ^ 6 = let k = h.flags in omega arith in
    let head : unpacked (packed commit.header) ≡ commit.header = unpacked-packed commit.header h.chunk_id h.writer_id count_below flags_below in
    let sized : holds limits commit.header.writer_id commit.payload ≡ true =
    and_from _ _ (le-leb 1 commit.header.writer_id is.least)
    (and_from _ _ (le-leb commit.header.writer_id (length limits.sizes) is.most) (le-leb (length commit.payload) (payload_size_of limits commit.header.writer_id) is.fits)) in
    let within : is_within limits commit ≡ true = and_from _ _ (buffer_true limits commit.target is.target) sized in
    rw (
      number_again w64 (2 ^ 64) wide64 (packed commit.header) (length commit.patches ∷ (flat_map patch_bytes commit.patches ++ commit.payload)) small,
      counted_again commit.patches commit.payload is.few is.patches,
      head,
      within,
    ) refl

buffer_takes : (limits : Limits) (bytes : List ℕ) (buffer : ℕ) → AreBytes bytes → buffer_at limits bytes ≡ Some buffer → IsBuffer limits buffer × (bytes ≡ buffer ∷ [])
unfolding buffer_at
buffer_takes limits bytes buffer fit e =
    let a = bind_some (byte_at bytes) (λ found. cond (is_buffer limits found.0 && eqb (length found.1) 0) (Some found.0) None) buffer e in
    let g = cond_some (is_buffer limits a.0.0 && eqb (length a.0.1) 0) a.0.0 buffer a.2 in
    let p = and_parts (is_buffer limits a.0.0) (eqb (length a.0.1) 0) g.0 in
    let none : a.0.1 ≡ [] = nil_from_length a.0.1 (eqb-true _ _ p.1) in
    let t = byte_takes bytes a.0 fit a.1 in
    subst (λ (y : ℕ). IsBuffer limits y × (bytes ≡ y ∷ [])) g.1 (buffer_there limits a.0.0 p.0, t.parts ∙ ap (λ (rest : List ℕ). a.0.0 ∷ rest) none)

buffer_again : (limits : Limits) (buffer : ℕ) → IsBuffer limits buffer → buffer_at limits (buffer ∷ []) ≡ Some buffer
unfolding buffer_at
buffer_again limits buffer is = let e = buffer_true limits buffer is in rw e refl

-- what a frame is that is read of its kind
commit_kind : (limits : Limits) (kind : ℕ) (bytes : List ℕ) (frame : Frame) → AreBytes bytes → kind ≡ 1
    → (commit_at limits bytes >>= λ commit. Some (Commits commit)) ≡ Some frame → IsFrame limits frame × (kind ∷ bytes ≡ frame_bytes frame)
commit_kind limits kind bytes frame fit is e =
    let a = bind_some (commit_at limits bytes) (λ commit. Some (Commits commit)) frame e in
    let t = commit_takes limits bytes a.0 fit a.1 in
    subst (λ (f : Frame). IsFrame limits f × (kind ∷ bytes ≡ frame_bytes f)) (same_Some (Commits a.0) frame a.2)
    (t.0, ap (λ (k : ℕ). k ∷ bytes) is ∙ ap (λ (rest : List ℕ). 1 ∷ rest) t.1)

read_kind : (limits : Limits) (kind : ℕ) (bytes : List ℕ) (frame : Frame) → AreBytes bytes → kind ≡ 2
    → (buffer_at limits bytes >>= λ buffer. Some (Reads buffer)) ≡ Some frame → IsFrame limits frame × (kind ∷ bytes ≡ frame_bytes frame)
read_kind limits kind bytes frame fit is e =
    let a = bind_some (buffer_at limits bytes) (λ buffer. Some (Reads buffer)) frame e in
    let t = buffer_takes limits bytes a.0 fit a.1 in
    subst (λ (f : Frame). IsFrame limits f × (kind ∷ bytes ≡ frame_bytes f)) (same_Some (Reads a.0) frame a.2)
    (t.0, ap (λ (k : ℕ). k ∷ bytes) is ∙ ap (λ (rest : List ℕ). 2 ∷ rest) t.1)

close_kind : (limits : Limits) (kind : ℕ) (bytes : List ℕ) (frame : Frame)
    → cond (eqb kind 3 && eqb (length bytes) 0) (Some Closes) None ≡ Some frame → IsFrame limits frame × (kind ∷ bytes ≡ frame_bytes frame)
close_kind limits kind bytes frame e =
    let g = cond_some (eqb kind 3 && eqb (length bytes) 0) Closes frame e in
    let p = and_parts (eqb kind 3) (eqb (length bytes) 0) g.0 in
    let none : bytes ≡ [] = nil_from_length bytes (eqb-true _ _ p.1) in
    subst (λ (f : Frame). IsFrame limits f × (kind ∷ bytes ≡ frame_bytes f)) g.1
    (tt, ap (λ (k : ℕ). k ∷ bytes) (eqb-true kind 3 p.0) ∙ ap (λ (rest : List ℕ). 3 ∷ rest) none)

kinds_take : (limits : Limits) (kind : ℕ) (bytes : List ℕ) (frame : Frame) → AreBytes bytes → frame_of limits kind bytes ≡ Some frame
    → IsFrame limits frame × (kind ∷ bytes ≡ frame_bytes frame)
unfolding frame_of
kinds_take limits kind bytes frame fit e =
    let close : Option Frame = cond (eqb kind 3 && eqb (length bytes) 0) (Some Closes) None in
    let read : Option Frame = buffer_at limits bytes >>= λ buffer. Some (Reads buffer) in
    let commit : Option Frame = commit_at limits bytes >>= λ found. Some (Commits found) in
    elim (chosen (eqb kind 1) commit (cond (eqb kind 2) read close) (Some frame) e) [
      | inl p ↦ commit_kind limits kind bytes frame fit (eqb-true kind 1 p.0) p.1
      | inr q ↦ elim (chosen (eqb kind 2) read close (Some frame) q.1) [
        | inl p ↦ read_kind limits kind bytes frame fit (eqb-true kind 2 p.0) p.1
        | inr r ↦ close_kind limits kind bytes frame r.1
      ]
    ]

pub frame_read : (limits : Limits) (bytes : List ℕ) (frame : Frame) → AreBytes bytes → decoded limits bytes ≡ Some frame
    → IsFrame limits frame × (bytes ≡ frame_bytes frame)
unfolding decoded
frame_read limits [] frame fit e = absurd cc
frame_read limits (kind ∷ bytes) frame fit e = kinds_take limits kind bytes frame (bytes_rest kind bytes fit) e

frame_again : (limits : Limits) (frame : Frame) → IsFrame limits frame → decoded limits (frame_bytes frame) ≡ Some frame
unfolding decoded frame_of
frame_again limits (Commits commit) is = ap (λ (found : Option Commit). found >>= λ one. Some (Commits one)) (commit_again limits commit is)
frame_again limits (Reads buffer) is = ap (λ (found : Option ℕ). found >>= λ one. Some (Reads one)) (buffer_again limits buffer is)
frame_again limits Closes is = refl

pub frames_are_spelled : FramesAreSpelled
frames_are_spelled = record { read = frame_read; again = frame_again }
