-- Borders of borders, and how far a mismatch lets a search go on.
use Rattle.std.proofs.Common.{◌≡◌, ◌≢◌, ℕ, zero, suc, ◌+◌, ◌-◌, ◌<◌, List, sym, ap, subst, ◌∙◌, arith, ⊎_elim}
use Rattle.std.proofs.lemmas.Bool.{cases_eq, cases_lt}
use Rattle.packet_runs.specs.Borders.{Nowhere, IsBorder, IsLongestBorder, StandsAt}

module _ (pattern : ℕ → List ℕ) where
  same : (i j : ℕ) → i ≡ j → pattern i ≡ pattern j
  same i j e = ap pattern e

  pub border_none : (len : ℕ) → 0 < len → IsBorder pattern len 0
  border_none len some = record { shorter = some; repeats = λ k l. absurd (omega arith) }

  pub border_trans : {len b c : ℕ} → IsBorder pattern len b → IsBorder pattern b c → IsBorder pattern len c
  border_trans {len} {b} {c} outer inner =
      let p = outer.shorter in
      let q = inner.shorter in
      record {
        shorter = omega arith;
        repeats = λ k l. inner.repeats k l ∙ outer.repeats (b - c + k) (omega arith) ∙ same _ _ (omega arith);
      }

  border_between : {len b c : ℕ} → IsBorder pattern len b → IsBorder pattern len c → c < b → IsBorder pattern b c
  border_between {len} {b} {c} outer inner l =
      let p = outer.shorter in
      record {
        shorter = l;
        repeats = λ k m. inner.repeats k m ∙ same (len - c + k) (len - b + (b - c + k)) (omega arith) ∙ sym (outer.repeats (b - c + k) (omega arith));
      }

  -- a border of the first `len`, and no longer one goes on with the packet there
  pub record IsCandidate (len b : ℕ) : Type 0 where
    pub is_border : IsBorder pattern len b
    pub longest : (c : ℕ) → b < c → IsBorder pattern len c → pattern c ≢ pattern len

  pub candidate_first : (len b : ℕ) → IsLongestBorder pattern len b → IsCandidate len b
  candidate_first len b h = record { is_border = h.is_border; longest = λ c l other. absurd (h.longest c l other) }

  pub candidate_next : (len b c : ℕ) → IsCandidate len b → pattern b ≢ pattern len → IsLongestBorder pattern b c → IsCandidate len c
  candidate_next len b c old apart h = record {
    is_border = border_trans old.is_border h.is_border;
    longest = λ d l other.
        ⊎_elim (λ below. absurd (h.longest d l (border_between old.is_border other below)))
        (λ from. ⊎_elim (λ e. subst (λ x. pattern x ≢ pattern len) (sym e) apart) (λ ne. old.longest d (omega arith) other) (cases_eq d b))
        (cases_lt d b);
  }

  -- a border of one more is a border that goes on with it
  shortened : (len c : ℕ) → IsBorder pattern (len + 1) (suc c) → IsBorder pattern len c × (pattern c ≡ pattern len)
  shortened len c h =
      let p = h.shorter in (
        record { shorter = omega arith; repeats = λ k l. h.repeats k (omega arith) ∙ same _ _ (omega arith) },
        h.repeats c (omega arith) ∙ same _ _ (omega arith),
      )

  none_longer : (len b : ℕ) → IsCandidate len b → (other : ℕ) → b + 1 < other → IsBorder pattern (len + 1) other → ⊥
  none_longer len b h zero l = absurd (omega arith)
  none_longer len b h (suc c) l = λ other. h.longest c (omega arith) (shortened len c other).0 (shortened len c other).1

  pub border_more : (len b : ℕ) → IsCandidate len b → pattern b ≡ pattern len → IsLongestBorder pattern (len + 1) (b + 1)
  border_more len b h goes =
      let p = h.is_border.shorter in
      record {
        is_border = record {
          shorter = omega arith;
          repeats = λ k l.
              ⊎_elim (λ e. same k b e ∙ goes ∙ same _ _ (omega arith)) (λ ne. h.is_border.repeats k (omega arith) ∙ same _ _ (omega arith)) (cases_eq k b);
        };
        longest = none_longer len b h;
      }

  pub border_ends : (len : ℕ) → IsCandidate len 0 → pattern 0 ≢ pattern len → IsLongestBorder pattern (len + 1) 0
  border_ends len h apart = record {
    is_border = border_none (len + 1) (omega arith);
    longest = λ other l found.
        ⊎_elim (λ e. apart (shortened len 0 (subst (IsBorder pattern (len + 1)) e found)).1) (λ ne. none_longer len 0 h other (omega arith) found) (cases_eq other 1);
  }

  pub border_one : IsLongestBorder pattern 1 0
  border_one = record { is_border = border_none 1 (omega arith); longest = λ other l found. omega (arith, found.shorter) }

  module _ (text : ℕ → List ℕ) (at len b : ℕ) (front : (k : ℕ) → k < len → text (at + k) ≡ pattern k) (h : IsLongestBorder pattern len b) where
    read : (i j : ℕ) → i ≡ j → text i ≡ text j
    read i j e = ap text e

    -- the border stands at the next place to try
    pub border_stands : (k : ℕ) → k < b → text (at + (len - b) + k) ≡ pattern k
    border_stands k l =
        let p = h.is_border.shorter in
        read _ (at + (len - b + k)) (omega arith) ∙ front (len - b + k) (omega arith) ∙ sym (h.is_border.repeats k l)

    -- a place before it where more of the pattern stands would make a longer border
    pub nowhere_border : (size more : ℕ) → len < more → text (at + len) ≢ pattern len → Nowhere (StandsAt size text pattern more) at (at + (len - b))
    nowhere_border size more within apart k low high stands =
        ⊎_elim (λ e. apart (read _ (k + len) (omega arith) ∙ stands.reads len within))
        (λ ne. h.longest (len - (k - at)) (omega arith) (record {
          shorter = omega arith;
          repeats = λ j l.
              sym (stands.reads j (omega arith)) ∙ read _ (at + (k - at + j)) (omega arith) ∙ front (k - at + j) (omega arith) ∙ same _ _ (omega arith);
        }))
        (cases_eq k at)

-- ---- patterns that agree

pub border_same : (p q : ℕ → List ℕ) (len b : ℕ) → ((k : ℕ) → k < len → p k ≡ q k) → IsBorder p len b → IsBorder q len b
border_same p q len b agree h =
    let shorter = h.shorter in
    record { shorter = h.shorter; repeats = λ k l. sym (agree k (omega arith)) ∙ h.repeats k l ∙ agree (len - b + k) (omega arith) }

pub longest_same : (p q : ℕ → List ℕ) (len b : ℕ) → ((k : ℕ) → k < len → p k ≡ q k) → IsLongestBorder p len b → IsLongestBorder q len b
longest_same p q len b agree h = record {
  is_border = border_same p q len b agree h.is_border;
  longest = λ other l found. h.longest other l (border_same q p len other (λ k m. sym (agree k m)) found);
}

pub nowhere_then : (P : ℕ → Type 0) (i j l : ℕ) → Nowhere P i j → Nowhere P j l → Nowhere P i l
nowhere_then P i j l front back k low high = ⊎_elim (λ below. front k low below) (λ from. back k from high) (cases_lt k j)

pub nowhere_more : (P : ℕ → Type 0) (i j : ℕ) → Nowhere P i j → (P j → ⊥) → Nowhere P i (j + 1)
nowhere_more P i j front here k low high = ⊎_elim (λ e. subst (λ x. P x → ⊥) (sym e) here) (λ ne. front k low (omega arith)) (cases_eq k j)
