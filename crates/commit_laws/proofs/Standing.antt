-- Bytes that stand in a list at a place.
use Rattle.std.proofs.Common.{◌≡◌, ◌∙◌, ℕ, ◌+◌, ◌≤◌, List, ◌++◌, length, take, drop, refl, sym, ap, arith, length-append}
use Rattle.std.proofs.lemmas.List.{drop-append-le, take-append-le, take_at, length-drop}
use Rattle.std.proofs.Math.Seq.{drop-append-add, drop-append_seam}

-- these bytes stand in the list from the place on
pub record Stands (xs : List ℕ) (at : ℕ) (ys : List ℕ) : Type 0 where
  pub fits : at + length ys ≤ length xs
  pub is : take (length ys) (drop at xs) ≡ ys

left_long : (xs : List ℕ) (at : ℕ) (ys : List ℕ) → at + length ys ≤ length xs → length ys ≤ length (drop at xs)
left_long xs at ys fits = let long = length-drop at xs in omega (arith, fits, long)

pub stands_more : (xs zs : List ℕ) (at : ℕ) (ys : List ℕ) → Stands xs at ys → Stands (xs ++ zs) at ys
stands_more xs zs at ys s = record {
  fits = let fits = s.fits in let long = length-append xs zs in omega (arith, fits, long);
  is = ap (take (length ys)) (drop-append-le at xs zs (let fits = s.fits in omega (arith, fits)))
      ∙ take-append-le (length ys) (drop at xs) zs (left_long xs at ys s.fits)
      ∙ s.is;
}

-- where they end before it does, they stand in its front alone
pub stands_front : (xs zs : List ℕ) (at : ℕ) (ys : List ℕ) → Stands (xs ++ zs) at ys → at + length ys ≤ length xs → Stands xs at ys
stands_front xs zs at ys s fits = record {
  fits = fits;
  is = sym (ap (take (length ys)) (drop-append-le at xs zs (omega (arith, fits))) ∙ take-append-le (length ys) (drop at xs) zs (left_long xs at ys fits)) ∙ s.is;
}

pub stands_behind : (zs xs : List ℕ) (at : ℕ) (ys : List ℕ) → Stands xs at ys → Stands (zs ++ xs) (length zs + at) ys
stands_behind zs xs at ys s = record {
  fits = let fits = s.fits in let long = length-append zs xs in omega (arith, fits, long);
  is = ap (take (length ys)) (drop-append-add zs xs at) ∙ s.is;
}

pub stands_part : (zs xs : List ℕ) (at : ℕ) (ys : List ℕ) → Stands (zs ++ xs) (length zs + at) ys → Stands xs at ys
stands_part zs xs at ys s = record {
  fits = let fits = s.fits in let long = length-append zs xs in omega (arith, fits, long);
  is = sym (ap (take (length ys)) (drop-append-add zs xs at)) ∙ s.is;
}

pub stands_here : (front ys behind : List ℕ) → Stands (front ++ (ys ++ behind)) (length front) ys
stands_here front ys behind = record {
  fits = let whole = length-append front (ys ++ behind) in let rest = length-append ys behind in omega (arith, whole, rest);
  is = ap (take (length ys)) (drop-append_seam front (ys ++ behind)) ∙ take_at ys behind (length ys) refl;
}
