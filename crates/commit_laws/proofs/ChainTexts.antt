-- The four bytes of each length that stand in a chain are those of its packet's text.
use Rattle.std.proofs.Common.{◌≡◌, ◌∙◌, ℕ, ◌+◌, ◌<◌, ◌≤◌, ◌⊎◌, Bool, true, false, ◌||◌, List, [], ◌∷◌, length, Option, Some, None, refl, sym, ap, subst, arith, inl, inr, length-append, unwrap_or}
use Rattle.std.specs.Prelude.{◌==◌, MatchBool, MatchOption}
use Rattle.std.proofs.lemmas.Bool.{false≢true, eqb-true, cases_lt}
use Rattle.wire_varint.specs.Varint.{redundant}
use Rattle.wire_varint.proofs.Lengths.{length-redundant}
use Rattle.trace_model.specs.Cut.{AreBytesOf, Begins, IsGivenUp}
use Rattle.trace_model.specs.Packets.{Packet, Text, body_of, flat, open_length, open_places}
use Rattle.trace_model.specs.Sent.{text_of}
use Rattle.trace_model.specs.Sequences.{is_among}
use Rattle.trace_model.proofs.CursorLemmas.{Each}
use Rattle.model_laws.proofs.TextSizes.{inside_among, open_inside}
use Rattle.commit_laws.proofs.Standing.{Stands, stands_front, stands_more}
use Rattle.commit_laws.proofs.TextLengths.{InLevels, apart_open, in_flat, open_stand}

pub each_among : (P : ℕ → Type 0) (n : ℕ) (numbers : List ℕ) → Each P numbers → is_among n numbers ≡ true → P n
each_among P n [] h among = absurd (false≢true among)
each_among P n (m ∷ numbers) h among = by_first (m == n) refl among (each_among P n numbers h.1)
  where
    by_first : (b : Bool) → (m == n) ≡ b → (b || is_among n numbers) ≡ true → (is_among n numbers ≡ true → P n) → P n
    by_first true e among rest = subst P (eqb-true m n e) h.0
    by_first false e among rest = rest among

-- two open lengths are the same or lie apart
open_apart : (levels : List (List ℕ)) (a b : ℕ) → is_among a (open_places levels) ≡ true → is_among b (open_places levels) ≡ true → (a ≡ b) ⊎ ((a + 4 ≤ b) ⊎ (b + 4 ≤ a))
open_apart [] a b h k = absurd (false≢true h)
open_apart (level ∷ []) a b h k = absurd (false≢true h)
open_apart (level ∷ outer ∷ others) a b h k =
    by_first (length (flat open_length (outer ∷ others)) == a) (length (flat open_length (outer ∷ others)) == b) refl refl h k (open_apart (outer ∷ others) a b)
  where
    below : (n : ℕ) → is_among n (open_places (outer ∷ others)) ≡ true → n + 4 ≤ length (flat open_length (outer ∷ others))
    below n among = inside_among (length (flat open_length (outer ∷ others))) n (open_places (outer ∷ others)) (open_inside (outer ∷ others)) among

    by_first : (x y : Bool) → (length (flat open_length (outer ∷ others)) == a) ≡ x → (length (flat open_length (outer ∷ others)) == b) ≡ y
        → (x || is_among a (open_places (outer ∷ others))) ≡ true → (y || is_among b (open_places (outer ∷ others))) ≡ true
        → (is_among a (open_places (outer ∷ others)) ≡ true → is_among b (open_places (outer ∷ others)) ≡ true → (a ≡ b) ⊎ ((a + 4 ≤ b) ⊎ (b + 4 ≤ a)))
        → (a ≡ b) ⊎ ((a + 4 ≤ b) ⊎ (b + 4 ≤ a))
    by_first true true e f h k rest = inl (sym (eqb-true (length (flat open_length (outer ∷ others))) a e) ∙ eqb-true (length (flat open_length (outer ∷ others))) b f)
    by_first true false e f h k rest =
        let same = eqb-true (length (flat open_length (outer ∷ others))) a e in
        let low = below b k in
        inr (inr (omega (arith, same, low)))
    by_first false true e f h k rest =
        let same = eqb-true (length (flat open_length (outer ∷ others))) b f in
        let low = below a h in
        inr (inl (omega (arith, same, low)))
    by_first false false e f h k rest = rest h k

-- in a packet that was given up, what lies apart from each open length lies in the part that was written
in_part : (text : Text) (bytes : List ℕ) (is : IsGivenUp bytes text) (at : ℕ) → at + 4 ≤ length bytes
    → ((place : ℕ) → is_among place (open_places text.levels) ≡ true → (at ≡ place) ⊎ ((at + 4 ≤ place) ⊎ (place + 4 ≤ at))) → at + 4 ≤ length is.part
in_part text bytes is at fits apart = by_unused (cases_lt 0 (length is.unused))
  where
    long : length bytes ≡ length is.part + length is.unused
    long = ap (λ (xs : List ℕ). length xs) is.cut ∙ length-append is.part is.unused

    by_unused : ((0 < length is.unused) ⊎ (length is.unused ≤ 0)) → at + 4 ≤ length is.part
    by_unused (inr none) = let l = long in omega (arith, fits, l, none)
    by_unused (inl some) = by_apart (apart (length is.part) (is.next some))
      where
        by_apart : (at ≡ length is.part) ⊎ ((at + 4 ≤ length is.part) ⊎ (length is.part + 4 ≤ at)) → at + 4 ≤ length is.part
        by_apart (inl same) = let few = is.few in let l = long in absurd (omega (arith, same, few, l, fits))
        by_apart (inr (inl low)) = low
        by_apart (inr (inr high)) = let few = is.few in let l = long in absurd (omega (arith, high, few, l, fits))

-- what stands in the whole text of such a packet, and in its written part, stands in its chain
given_stands : (text : Text) (bytes : List ℕ) (is : IsGivenUp bytes text) (at : ℕ) (ys : List ℕ) → length ys ≡ 4 → Stands (flat (redundant 0) text.levels) at ys → at + 4 ≤ length is.part
    → Stands bytes at ys
given_stands text bytes is at ys four stands fits =
    subst (λ (xs : List ℕ). Stands xs at ys) (sym is.cut)
    (stands_more is.part is.unused at ys
    (stands_front is.part is.lost at ys (subst (λ (xs : List ℕ). Stands xs at ys) is.whole stands) (omega (arith, fits, four))))

module _ (packet : Packet) (bytes : List ℕ) (are : AreBytesOf packet bytes) where
  pub closed_stands : (at size : ℕ) → InLevels (text_of packet).levels at (redundant size) → at + 4 ≤ length bytes → Stands bytes at (redundant size)
  closed_stands at size h fits = by_given packet.given_up are h
    where
      four : length (redundant size) ≡ 4
      four = length-redundant size

      fits_in : at + length (redundant size) ≤ length bytes
      fits_in = let f = four in omega (arith, f, fits)

      by_given : (given : Option Text) → MatchOption given (MatchBool packet.finished (bytes ≡ body_of packet) (Begins bytes (body_of packet))) (IsGivenUp bytes)
          → InLevels (unwrap_or given packet.text).levels at (redundant size) → Stands bytes at (redundant size)
      by_given None are h = by_finish packet.finished are
        where
          whole : Stands (body_of packet) at (redundant size)
          whole = in_flat open_length refl packet.text.levels at (redundant size) h

          by_finish : (b : Bool) → MatchBool b (bytes ≡ body_of packet) (Begins bytes (body_of packet)) → Stands bytes at (redundant size)
          by_finish true e = subst (λ (xs : List ℕ). Stands xs at (redundant size)) (sym e) whole
          by_finish false begins = stands_front bytes begins.0 at (redundant size) (subst (λ (xs : List ℕ). Stands xs at (redundant size)) begins.1 whole) fits_in
      by_given (Some text) is h =
          given_stands text bytes is at (redundant size) four (in_flat (redundant 0) (length-redundant 0) text.levels at (redundant size) h)
          (in_part text bytes is at fits
          (λ place among. apart (each_among (λ (open_at : ℕ). (at + length (redundant size) ≤ open_at) ⊎ (open_at + 4 ≤ at)) place (open_places text.levels) (apart_open text.levels at (redundant size) h) among)))
        where
          apart : {place : ℕ} → (at + length (redundant size) ≤ place) ⊎ (place + 4 ≤ at) → (at ≡ place) ⊎ ((at + 4 ≤ place) ⊎ (place + 4 ≤ at))
          apart (inl low) = let f = four in inr (inl (omega (arith, f, low)))
          apart (inr high) = inr (inr high)

  pub open_stands : (text : Text) → packet.given_up ≡ Some text → (at : ℕ) → is_among at (open_places text.levels) ≡ true → at + 4 ≤ length bytes → Stands bytes at (redundant 0)
  open_stands text e at among fits =
      let is : IsGivenUp bytes text = subst (λ (o : Option Text). MatchOption o (MatchBool packet.finished (bytes ≡ body_of packet) (Begins bytes (body_of packet))) (IsGivenUp bytes)) e are in
      given_stands text bytes is at (redundant 0) (length-redundant 0)
      (each_among (λ (open_at : ℕ). Stands (flat (redundant 0) text.levels) open_at (redundant 0)) at (open_places text.levels) (open_stand (redundant 0) (length-redundant 0) text.levels) among)
      (in_part text bytes is at fits (λ place other. open_apart text.levels at place among other))
