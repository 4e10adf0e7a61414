-- Words that say bytes in hexadecimal digits, pair by pair.
use Rattle.std.proofs.Common.{◌≡◌, ℕ, suc, ◌+◌, ◌<◌, ◌≤◌, Option, Some, None, option_map, List, [], ◌∷◌, ◌++◌, length, drop, get_or, append_assoc, append-nil, drop-cons, length-append, refl, sym, ap, subst, cond, nat_eq, Bool, true, false, arith, ◌∙◌}
use Rattle.std.proofs.Math.ListN.{set}
use Rattle.std.proofs.Math.Seq.{set-append_seam}
use Rattle.std.specs.Prelude.{codes}
use Rattle.std.specs.Str.{bytes_eq}
use Rattle.scenario_text.specs.Hex.{hex_of, if_tick, if_four, in_front, pairs_in}

-- so many bytes before those
abbrev pub counted : ℕ → Option (List ℕ) → Option ℕ
counted len bytes = option_map (λ (bs : List ℕ). len + length bs) bytes

-- one pair more
pub counted_more : (len byte : ℕ) (before after : Option (List ℕ)) → before ≡ in_front (Some byte) after
    → counted len before ≡ counted (len + 1) after
unfolding in_front
counted_more len byte before None is = ap (counted len) is
counted_more len byte before (Some bytes) is = ap (counted len) is ∙ ap Some (omega arith)

-- a pair that says no byte
pub counted_none : (len : ℕ) (before after : Option (List ℕ)) → before ≡ in_front None after → None ≡ counted len before
unfolding in_front
counted_none len before after is = sym (ap (counted len) is)

pub counted_all : (bytes : Option (List ℕ)) → option_map (λ (bs : List ℕ). length bs) bytes ≡ counted 0 bytes
counted_all None = refl
counted_all (Some bytes) = ap Some (omega arith)

-- nothing but the last tick is left
pub counted_end : (len : ℕ) (digits : List ℕ) (whole : Option (List ℕ)) → bytes_eq digits (codes "'") ≡ true → whole ≡ if_tick digits
    → Some len ≡ counted len whole
unfolding if_tick
counted_end len digits whole is rest =
    sym (ap (counted len) rest ∙ ap (λ (test : Bool). counted len (cond test (Some []) None)) is ∙ ap Some (omega arith))

-- the last tick isn't all that is left
pub counted_bad : (len : ℕ) (digits : List ℕ) (whole : Option (List ℕ)) → bytes_eq digits (codes "'") ≡ false → whole ≡ if_tick digits
    → None ≡ counted len whole
unfolding if_tick
counted_bad len digits whole is rest = sym (ap (counted len) rest ∙ ap (λ (test : Bool). counted len (cond test (Some []) None)) is)

-- ---- bytes that are put

-- So many of a word's bytes stand at the beginning of a room, whose rest is as it was; these digits say the others.
pub record IsPut (word digits : List ℕ) (at : ℕ) (old new : List ℕ) : Type 0 where
  pub done : List ℕ
  pub left : List ℕ
  pub whole : hex_of word ≡ Some (done ++ left)
  pub rest : pairs_in digits ≡ Some left
  pub many : length done ≡ at
  pub are : new ≡ done ++ drop at old
  pub room : length (done ++ left) ≤ length old

pub put_begun : (word digits room bytes : List ℕ) → hex_of word ≡ pairs_in digits → hex_of word ≡ Some bytes → length bytes ≤ length room
    → IsPut word digits 0 room room
put_begun word digits room bytes same says fits =
    record { done = []; left = bytes; whole = says; rest = sym same ∙ says; many = refl; are = refl; room = fits }

-- one byte and the others behind it
record IsFront (byte : ℕ) (after : Option (List ℕ)) (bytes : List ℕ) : Type 0 where
  others : List ℕ
  behind : after ≡ Some others
  are : bytes ≡ byte ∷ others

front_of : (byte : ℕ) (after : Option (List ℕ)) (bytes : List ℕ) → in_front (Some byte) after ≡ Some bytes → IsFront byte after bytes
unfolding in_front
front_of byte None bytes is = absurd cc
front_of byte (Some others) bytes is = record { others = others; behind = refl; are = cc }

-- one byte more behind those that are put
put_seam : (done old : List ℕ) (byte : ℕ) → length done < length old
    → set (done ++ drop (length done) old) (length done) byte ≡ (done ++ byte ∷ []) ++ drop (length done + 1) old
put_seam done old byte inside =
    let next : length done + 1 ≡ suc (length done) = omega arith in
    ap (λ (rest : List ℕ). set (done ++ rest) (length done) byte) (drop-cons old (length done) 0 inside)
    ∙ set-append_seam done (get_or old (length done) 0) (drop (suc (length done)) old) byte
    ∙ ap (λ (n : ℕ). done ++ byte ∷ drop n old) (sym next)
    ∙ sym (append_assoc done (byte ∷ []) (drop (length done + 1) old))

pub put_inside : (word digits behind : List ℕ) (at byte : ℕ) (old new : List ℕ) → IsPut word digits at old new
    → pairs_in digits ≡ in_front (Some byte) (pairs_in behind) → at < length old
put_inside word digits behind at byte old new put is =
    let front = front_of byte (pairs_in behind) put.left (sym is ∙ put.rest) in
    omega (arith, put.many, put.room, length-append put.done put.left, ap (λ (bytes : List ℕ). length bytes) front.are)

pub put_more : (word digits behind : List ℕ) (at byte : ℕ) (old new : List ℕ) → IsPut word digits at old new
    → pairs_in digits ≡ in_front (Some byte) (pairs_in behind) → IsPut word behind (at + 1) old (set new at byte)
put_more word digits behind at byte old new put is =
    let front = front_of byte (pairs_in behind) put.left (sym is ∙ put.rest) in
    let joined : put.done ++ put.left ≡ (put.done ++ byte ∷ []) ++ front.others =
    ap (λ (bytes : List ℕ). put.done ++ bytes) front.are ∙ sym (append_assoc put.done (byte ∷ []) front.others) in
    let inside : length put.done < length old = omega (arith, put.many, put_inside word digits behind at byte old new put is) in
    record {
      done = put.done ++ byte ∷ [];
      left = front.others;
      whole = put.whole ∙ ap Some joined;
      rest = front.behind;
      many = omega (arith, put.many, length-append put.done (byte ∷ []));
      are = ap (λ (room : List ℕ). set room at byte) put.are
          ∙ subst (λ (n : ℕ). set (put.done ++ drop n old) n byte ≡ (put.done ++ byte ∷ []) ++ drop (n + 1) old) put.many
          (put_seam put.done old byte inside);
      room = subst (λ (bytes : List ℕ). length bytes ≤ length old) joined put.room;
    }

-- none of a word's pairs says no byte, where the word says bytes
pub put_bad : {X : Type 0} (word digits : List ℕ) (after : Option (List ℕ)) (at : ℕ) (old new : List ℕ) → IsPut word digits at old new
    → pairs_in digits ≡ in_front None after → X
unfolding in_front
put_bad word digits after at old new put is = absurd (let none : None ≡ Some put.left = sym is ∙ put.rest in cc)

tick_says : (digits left : List ℕ) → if_tick digits ≡ Some left → left ≡ []
unfolding if_tick
tick_says digits left is = by_test (bytes_eq digits (codes "'")) is
  where
    by_test : (test : Bool) → cond test (Some []) None ≡ Some left → left ≡ []
    by_test true some = cc
    by_test false some = absurd cc

-- all were put
pub put_all : (word digits : List ℕ) (at : ℕ) (old new : List ℕ) → IsPut word digits at old new → pairs_in digits ≡ if_tick digits
    → (bytes : List ℕ) → hex_of word ≡ Some bytes → new ≡ bytes ++ drop (length bytes) old
put_all word digits at old new put none bytes says =
    let nothing = tick_says digits put.left (sym none ∙ put.rest) in
    let all : bytes ≡ put.done =
    let same : Some bytes ≡ Some (put.done ++ put.left) = sym says ∙ put.whole in
    let whole : bytes ≡ put.done ++ put.left = cc in
    whole ∙ ap (λ (left : List ℕ). put.done ++ left) nothing ∙ append-nil put.done in
    put.are ∙ subst (λ (bs : List ℕ). put.done ++ drop at old ≡ bs ++ drop (length bs) old) (sym all)
    (ap (λ (n : ℕ). put.done ++ drop n old) (sym put.many))

-- ---- four bytes

pub four_are : (bytes : Option (List ℕ)) (len : ℕ) → Some len ≡ option_map (λ (bs : List ℕ). length bs) bytes → len ≡ 4
    → (found : List ℕ) × (bytes ≡ Some found) × (length found ≡ 4) × (if_four bytes ≡ Some found)
unfolding if_four
four_are None len some is = absurd cc
four_are (Some found) len some is =
    let many : length found ≡ 4 = cc in
    (found, refl, many, subst (λ (n : ℕ). cond (nat_eq n 4) (Some found) None ≡ Some found) (sym many) refl)

pub not_four : (bytes : Option (List ℕ)) (len : ℕ) → Some len ≡ option_map (λ (bs : List ℕ). length bs) bytes → (len ≡ 4 → ⊥)
    → None ≡ if_four bytes
unfolding if_four
not_four None len some apart = refl
not_four (Some found) len some apart = by_test (nat_eq (length found) 4) refl
  where
    by_test : (test : Bool) → nat_eq (length found) 4 ≡ test → None ≡ cond test (Some found) None
    by_test true is = absurd (apart (grind (arith, is, some)))
    by_test false is = refl

pub none_four : (bytes : Option (List ℕ)) → None ≡ option_map (λ (bs : List ℕ). length bs) bytes → None ≡ if_four bytes
unfolding if_four
none_four None none = refl
none_four (Some found) none = absurd cc
