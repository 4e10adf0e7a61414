-- Reading patches one after another, as a loop does.
use Rattle.std.proofs.Common.{◌≡◌, ℕ, suc, ◌-◌, ◌+◌, ◌≤◌, ◌<◌, true, is_some, List, [], ◌∷◌, ◌++◌, Option, Some, None, refl, sym, ap, ◌∙◌, append_assoc, arith}
use Rattle.std.proofs.lemmas.List.{append-nil}
use Rattle.trace_model.specs.Images.{Patch}
use Rattle.stream_frames.specs.Decoding.{◌>>=◌, patch_at, patches_at, first_of}

-- those read before, and those still to be read
abbrev pub with_front : List Patch → Option (List Patch × List ℕ) → Option (List Patch × List ℕ)
with_front front read = read >>= λ found. Some (front ++ found.0, found.1)

regroup : (front : List Patch) (patch : Patch) (read : Option (List Patch × List ℕ))
    → with_front front (read >>= λ found. Some (patch ∷ found.0, found.1)) ≡ with_front (front ++ patch ∷ []) read
regroup front patch (Some found) = ap (λ (patches : List Patch). Some (patches, found.1)) (simp append_assoc)
regroup front patch None = refl

pub goes_on : (front : List Patch) (count i : ℕ) (bytes : List ℕ) (patch : Patch) (behind : List ℕ) (whole : Option (List Patch × List ℕ)) → i < count
    → Some (patch, behind) ≡ patch_at bytes → with_front front (patches_at (count - i) bytes) ≡ whole
    → with_front (front ++ patch ∷ []) (patches_at (count - (i + 1)) behind) ≡ whole
unfolding patches_at
goes_on front count i bytes patch behind whole lt is so_far =
    let k : count - i ≡ suc (count - (i + 1)) = omega arith in
    let h = sym is in
    let one : with_front front (patches_at (count - i) bytes) ≡ with_front (front ++ patch ∷ []) (patches_at (count - (i + 1)) behind) =
    rw (k, h) (regroup front patch (patches_at (count - (i + 1)) behind)) in
    sym one ∙ so_far

pub fails : (front : List Patch) (count i : ℕ) (bytes : List ℕ) (whole : Option (List Patch × List ℕ)) → i < count → None ≡ patch_at bytes
    → with_front front (patches_at (count - i) bytes) ≡ whole → None ≡ whole
unfolding patches_at
fails front count i bytes whole lt is so_far =
    let k : count - i ≡ suc (count - (i + 1)) = omega arith in
    let h = sym is in
    let one : with_front front (patches_at (count - i) bytes) ≡ None = rw (k, h) refl in
    sym one ∙ so_far

pub is_done : (front : List Patch) (count i : ℕ) (bytes : List ℕ) (whole : Option (List Patch × List ℕ)) → count ≤ i
    → with_front front (patches_at (count - i) bytes) ≡ whole → Some (front, bytes) ≡ whole
unfolding patches_at
is_done front count i bytes whole le so_far =
    let k : count - i ≡ 0 = omega arith in
    let one : with_front front (patches_at (count - i) bytes) ≡ Some (front, bytes) = rw k (ap (λ (patches : List Patch). Some (patches, bytes)) (append-nil front)) in
    sym one ∙ so_far

-- ---- the same where those that were read aren't kept

-- some patches were read, and what comes of all is what comes of the others
pub record ReadsOn (count i : ℕ) (bytes rest : List ℕ) : Type 0 where
  pub front : List Patch
  pub read : with_front front (patches_at (count - i) rest) ≡ patches_at count bytes

nothing_read : (read : Option (List Patch × List ℕ)) → with_front [] read ≡ read
nothing_read None = refl
nothing_read (Some found) = refl

pub none_read : (count : ℕ) (bytes : List ℕ) → with_front [] (patches_at (count - 0) bytes) ≡ patches_at count bytes
none_read count bytes =
    let all : count - 0 ≡ count = omega arith in
    ap (λ (n : ℕ). with_front [] (patches_at n bytes)) all ∙ nothing_read (patches_at count bytes)

pub reads_first : (count : ℕ) (bytes : List ℕ) → ReadsOn count 0 bytes bytes
reads_first count bytes = record { front = []; read = none_read count bytes }

pub reads_next : (count i : ℕ) (bytes rest : List ℕ) (patch : Patch) (behind : List ℕ) → i < count → Some (patch, behind) ≡ patch_at rest
    → ReadsOn count i bytes rest → ReadsOn count (i + 1) bytes behind
reads_next count i bytes rest patch behind lt is reads = record {
  front = reads.front ++ patch ∷ [];
  read = goes_on reads.front count i rest patch behind (patches_at count bytes) lt is reads.read;
}

-- where all were read they are those in front
pub reads_all : (count i : ℕ) (bytes rest : List ℕ) → count ≤ i → ReadsOn count i bytes rest
    → Some (first_of (patches_at count bytes), rest) ≡ patches_at count bytes
reads_all count i bytes rest le reads =
    let all = is_done reads.front count i rest (patches_at count bytes) le reads.read in
    ap (λ (patches : List Patch). Some (patches, rest)) (ap first_of (sym all)) ∙ all

-- none is missing where all are there
pub all_there : (patches : Option (List Patch × List ℕ)) → is_some patches ≡ true → None ≡ patches → ⊥
all_there None there is = absurd cc
all_there (Some found) there is = cc

pub some_there : (found : List Patch × List ℕ) (patches : Option (List Patch × List ℕ)) → Some found ≡ patches → is_some patches ≡ true
some_there found patches is = ap is_some (sym is)
