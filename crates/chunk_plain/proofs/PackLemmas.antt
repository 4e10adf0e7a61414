-- Bytes from a place on, and eight of them set one behind another.
use Rattle.std.proofs.Common.{◌≡◌, ℕ, zero, suc, ◌+◌, ◌-◌, ◌<◌, ◌≤◌, List, [], ◌∷◌, ◌++◌, length, get_or, take, drop, set, subst, sym, ap, ◌∙◌, arith, length-set, length-append}
use Rattle.std.proofs.lemmas.List.{get_or-take, get_or-set_same, get_or-set_other, get_or_append_left, get_or-append_right, length-take-le}
use Rattle.std.proofs.lemmas.Grind.{elements}
use native.Mathlib.Decide.{ℕ_discrete}
use mathlib.Core.Logic.{dite}
use Rattle.chunk_plain.specs.Payload.{byte_in}

pub rest_byte : (bytes : List ℕ) (at m : ℕ) → at ≤ length bytes → at + m < length bytes
    → (m < length (take (length bytes - at) (drop at bytes))) × (byte_in (take (length bytes - at) (drop at bytes)) m ≡ byte_in bytes (at + m))
rest_byte bytes at m within inside = (grind (arith, elements), grind (arith, elements))

small_take : (bytes : List ℕ) (n : ℕ) → ((i : ℕ) → byte_in bytes i < 256) → (i : ℕ) → byte_in (take n bytes) i < 256
small_take bytes zero small i = omega arith
small_take [] (suc n) small i = omega arith
small_take (byte ∷ bytes) (suc n) small zero = small zero
small_take (byte ∷ bytes) (suc n) small (suc i) = small_take bytes n (λ k. small (suc k)) i

small_drop : (bytes : List ℕ) (n : ℕ) → ((i : ℕ) → byte_in bytes i < 256) → (i : ℕ) → byte_in (drop n bytes) i < 256
small_drop bytes zero small i = small i
small_drop [] (suc n) small i = omega arith
small_drop (byte ∷ bytes) (suc n) small i = small_drop bytes n (λ k. small (suc k)) i

pub rest_small : (bytes : List ℕ) (at n : ℕ) → ((i : ℕ) → byte_in bytes i < 256) → (i : ℕ) → byte_in (take n (drop at bytes)) i < 256
rest_small bytes at n small = small_take (drop at bytes) n (small_drop bytes at small)

pub first_eight : (rest eight : List ℕ) → eight ≡ take 8 rest → ((i : ℕ) → byte_in rest i < 256) → ((i : ℕ) → byte_in eight i < 256) × ((m : ℕ) → m < 8 → byte_in eight m ≡ byte_in rest m)
first_eight rest eight is small = (
  λ i. subst (λ l. byte_in l i < 256) (sym is) (small_take rest 8 small i),
  λ m below. ap (λ l. byte_in l m) is ∙ get_or-take 8 rest m 0 below,
)

-- what eight bytes keep as one more is set
pub record SetUpTo (rest eight : List ℕ) (count : ℕ) : Type 0 where
  pub size : length eight ≡ 8
  pub small : (i : ℕ) → byte_in eight i < 256
  pub done : (k : ℕ) → k < count → byte_in eight k ≡ byte_in rest k

pub set_more : (rest eight : List ℕ) (count : ℕ) → count < 8 → byte_in rest count < 256 → SetUpTo rest eight count → SetUpTo rest (set eight count (byte_in rest count)) (count + 1)
set_more rest eight count inside low o =
    let within : count < length eight = let size = o.size in omega arith in
    let here : byte_in (set eight count (byte_in rest count)) count ≡ byte_in rest count = get_or-set_same eight count (byte_in rest count) 0 within in
    record {
      size = length-set eight count (byte_in rest count) ∙ o.size;
      small = λ i. dite (ℕ_discrete i count)
          (λ same. subst (λ k. byte_in (set eight count (byte_in rest count)) k < 256) (sym same) (subst (λ b. b < 256) (sym here) low))
          (λ differs. subst (λ b. b < 256) (sym (get_or-set_other eight count i (byte_in rest count) 0 differs)) (o.small i));
      done = λ k below. dite (ℕ_discrete k count)
          (λ same. subst (λ j. byte_in (set eight count (byte_in rest count)) j ≡ byte_in rest j) (sym same) here)
          (λ differs. get_or-set_other eight count k (byte_in rest count) 0 differs ∙ o.done k (omega arith));
    }

pub set_none : (rest : List ℕ) → SetUpTo rest (0 ∷ 0 ∷ 0 ∷ 0 ∷ 0 ∷ 0 ∷ 0 ∷ 0 ∷ []) 0
set_none rest = record {
  size = let eight : List ℕ = 0 ∷ 0 ∷ 0 ∷ 0 ∷ 0 ∷ 0 ∷ 0 ∷ 0 ∷ [] in let many : length eight ≡ 8 = omega arith in many;
  small = λ i. zeros i;
  done = λ k below. absurd (omega arith);
}
  where
    zeros : (i : ℕ) → byte_in (0 ∷ 0 ∷ 0 ∷ 0 ∷ 0 ∷ 0 ∷ 0 ∷ 0 ∷ []) i < 256
    zeros zero = omega arith
    zeros (suc zero) = omega arith
    zeros (suc (suc zero)) = omega arith
    zeros (suc (suc (suc zero))) = omega arith
    zeros (suc (suc (suc (suc zero)))) = omega arith
    zeros (suc (suc (suc (suc (suc zero))))) = omega arith
    zeros (suc (suc (suc (suc (suc (suc zero)))))) = omega arith
    zeros (suc (suc (suc (suc (suc (suc (suc zero))))))) = omega arith
    zeros (suc (suc (suc (suc (suc (suc (suc (suc i)))))))) = omega arith

-- bytes that were put at a place
pub byte_put : (xs bs rest : List ℕ) (at m : ℕ) → at ≤ length xs → m < length bs → byte_in (take at xs ++ bs ++ rest) (at + m) ≡ byte_in bs m
byte_put xs bs rest at m within below =
    let front = take at xs in
    let long : length front ≡ at = length-take-le at xs within in
    get_or_append_left (front ++ bs) rest 0 (at + m) (let both = length-append front bs in omega arith)
    ∙ get_or-append_right front bs at (at + m) 0 long (omega arith)
    ∙ ap (λ i. get_or bs i 0) (let back : at + m - at ≡ m = omega arith in back)
