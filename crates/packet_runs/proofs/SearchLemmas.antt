-- The steps of a search for the next place of a run.
use Rattle.std.proofs.Common.{◌≡◌, ◌≢◌, ℕ, ◌+◌, ◌-◌, ◌<◌, ◌≤◌, Bool, List, length, sym, ap, subst, arith, ⊎_elim}
use Rattle.std.specs.Prelude.{if◌then◌else◌}
use Rattle.std.proofs.lemmas.Bool.{cases_eq, cases_lt, lt-ltb, le-ltb}
use Rattle.packet_runs.specs.Borders.{Nowhere, IsLongestBorder, StandsAt}
use Rattle.packet_runs.specs.Runs.{packet_at}
use Rattle.packet_runs.specs.Tellers.{run_at, with_next}
use Rattle.packet_runs.proofs.BorderLemmas.{border_stands, nowhere_border, longest_same, nowhere_then, nowhere_more}

abbrev pub Wanted : List (List ℕ) → ℕ → ℕ → List ℕ → ℕ → Type 0
Wanted emitted place len packet at = StandsAt (length emitted) (packet_at emitted) (with_next emitted place len packet) (len + 1) at

-- the first packets of the pattern stand at a place, and at none before it the pattern does
pub record IsTrying (emitted : List (List ℕ)) (place len : ℕ) (packet : List ℕ) (at matched : ℕ) : Type 0 where
  pub onward : place ≤ at
  pub short : matched ≤ len
  pub fits : at + matched ≤ length emitted
  pub stands : (k : ℕ) → k < matched → packet_at emitted (at + k) ≡ with_next emitted place len packet k
  pub none_before : Nowhere (Wanted emitted place len packet) place at

pub next_in : (emitted : List (List ℕ)) (place len : ℕ) (packet : List ℕ) (k : ℕ) → k < len → with_next emitted place len packet k ≡ packet_at emitted (place + k)
next_in emitted place len packet k below = ap (λ (b : Bool). if b then packet_at emitted (place + k) else packet) (lt-ltb k len below)

pub next_last : (emitted : List (List ℕ)) (place len : ℕ) (packet : List ℕ) → with_next emitted place len packet len ≡ packet
next_last emitted place len packet = ap (λ (b : Bool). if b then packet_at emitted (place + len) else packet) (le-ltb len len (omega arith))

pub try_start : (emitted : List (List ℕ)) (place len : ℕ) (packet : List ℕ) → place + len ≤ length emitted → IsTrying emitted place len packet place len
try_start emitted place len packet fits = record {
  onward = omega arith;
  short = omega arith;
  fits = fits;
  stands = λ k below. sym (next_in emitted place len packet k below);
  none_before = λ k low high. absurd (omega arith);
}

pub try_found : (emitted : List (List ℕ)) (place len : ℕ) (packet : List ℕ) (at matched : ℕ) → IsTrying emitted place len packet at matched → matched ≡ len
    → at + matched < length emitted → packet_at emitted (at + matched) ≡ with_next emitted place len packet matched → Wanted emitted place len packet at
try_found emitted place len packet at matched h e more goes = record {
  fits = omega (arith, e, more);
  reads = λ k below. ⊎_elim (λ (same : k ≡ matched). subst (λ (j : ℕ). packet_at emitted (at + j) ≡ with_next emitted place len packet j) (sym same) goes)
      (λ (ne : k ≢ matched). h.stands k (omega (arith, ne, below, e))) (cases_eq k matched);
}

pub try_more : (emitted : List (List ℕ)) (place len : ℕ) (packet : List ℕ) (at matched : ℕ) → IsTrying emitted place len packet at matched → matched ≢ len
    → at + matched < length emitted → packet_at emitted (at + matched) ≡ with_next emitted place len packet matched → IsTrying emitted place len packet at (matched + 1)
try_more emitted place len packet at matched h ne more goes = record {
  onward = h.onward;
  short = omega (arith, ne, h.short);
  fits = omega (arith, more);
  stands = λ k below. ⊎_elim (λ (same : k ≡ matched). subst (λ (j : ℕ). packet_at emitted (at + j) ≡ with_next emitted place len packet j) (sym same) goes)
      (λ (apart : k ≢ matched). h.stands k (omega (arith, apart, below))) (cases_eq k matched);
  none_before = h.none_before;
}

pub try_next : (emitted : List (List ℕ)) (place len : ℕ) (packet : List ℕ) (at matched : ℕ) → IsTrying emitted place len packet at matched → matched ≡ 0
    → at + matched < length emitted → packet_at emitted (at + matched) ≢ with_next emitted place len packet matched → IsTrying emitted place len packet (at + 1) matched
try_next emitted place len packet at matched h none more apart = record {
  onward = omega (arith, h.onward);
  short = h.short;
  fits = omega (arith, more, none);
  stands = λ k below. absurd (omega (arith, below, none));
  none_before = nowhere_more (Wanted emitted place len packet) place at h.none_before
      (λ (w : Wanted emitted place len packet at). apart (w.reads matched (omega (arith, h.short))));
}

pub try_border : (emitted : List (List ℕ)) (place len : ℕ) (packet : List ℕ) (at matched border : ℕ) → IsTrying emitted place len packet at matched
    → IsLongestBorder (run_at emitted place) matched border → packet_at emitted (at + matched) ≢ with_next emitted place len packet matched
    → IsTrying emitted place len packet (at + (matched - border)) border
try_border emitted place len packet at matched border h longest apart =
    let pattern : ℕ → List ℕ = with_next emitted place len packet in
    let here : IsLongestBorder pattern matched border =
    longest_same (run_at emitted place) pattern matched border (λ k below. sym (next_in emitted place len packet k (omega (arith, below, h.short)))) longest in
    let shorter : border < matched = longest.is_border.shorter in
    record {
      onward = omega (arith, h.onward);
      short = omega (arith, shorter, h.short);
      fits = omega (arith, shorter, h.fits);
      stands = border_stands pattern (packet_at emitted) at matched border h.stands here;
      none_before = nowhere_then (Wanted emitted place len packet) place at (at + (matched - border)) h.none_before
          (nowhere_border pattern (packet_at emitted) at matched border h.stands here (length emitted) (len + 1) (omega (arith, h.short)) apart);
    }

pub try_none : (emitted : List (List ℕ)) (place len : ℕ) (packet : List ℕ) (at matched : ℕ) → IsTrying emitted place len packet at matched
    → length emitted ≤ at + matched → (k : ℕ) → place ≤ k → Wanted emitted place len packet k → ⊥
try_none emitted place len packet at matched h ends k low w =
    ⊎_elim (λ (below : k < at). h.none_before k low below w) (λ (from : at ≤ k). omega (arith, w.fits, ends, h.short, from)) (cases_lt k at)
