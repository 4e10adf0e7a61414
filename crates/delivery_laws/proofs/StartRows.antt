-- Where a packet begins in a chunk that is there, a reader's row has a chain with its start, or stops before; and a read that goes past the
-- place fixes what became of the packet.
use Rattle.std.proofs.Common.{◌≡◌, ℕ, zero, suc, ◌+◌, ◌-◌, ◌<◌, ◌≤◌, ◌⊎◌, max, Bool, true, false, ◌&&◌, ◌||◌, List, [], ◌∷◌, ◌++◌, length, drop, Option, Some, None, refl, sym, ap, subst, arith, inl, inr}
use Rattle.std.specs.Prelude.{cond, ◌==◌, slice_get, is_some}
use Rattle.std.specs.List.{flat_map}
use Rattle.std.proofs.lemmas.Bool.{false≢true, eq-eqb, and_from}
use Rattle.std.proofs.lemmas.List.{length-drop}
use Rattle.trace_model.specs.Images.{Chunk}
use Rattle.trace_model.specs.Sequences.{Cursor}
use Rattle.trace_model.specs.Counts.{one_if}
use Rattle.trace_model.specs.Row.{Slot, Here, Gone, Never, Fate, Whole, Marked, IntoLost, CutOff, Open, Link, Joined, Gap, Stop, Missing, Partial, place, is_part, row_of}
use Rattle.trace_model.specs.Reads.{turn_by, turn_of, delivers, ends, passed_by, left_by, is_spoilt}
use Rattle.trace_model.specs.RowLaws.{Before, UpTo, Rises}
use Rattle.trace_model.specs.Causes.{Fixed, Outcome, is_same_place, outcome_at, fixed_by_turn, fixed_by_link}
use Rattle.trace_model.proofs.CursorLemmas.{up_to_up_to, before_then, same_up_to, not_both}
use Rattle.model_laws.proofs.StartedRows.{Started, chunk_keeps, chunk_starts}
use Rattle.delivery_laws.proofs.AdjacentLemmas.{begin_of, Adjacent}

-- the outcome of the packet that begins at the place is among these
abbrev pub IsFixed : Cursor → List Fixed → Type 0
IsFixed at fixed = is_some (outcome_at at fixed) ≡ true

pub fixed_first : (at : Cursor) (fixed more : List Fixed) → IsFixed at fixed → IsFixed at (fixed ++ more)
fixed_first at [] more h = absurd (false≢true h)
fixed_first at (one ∷ fixed) more h = step (is_same_place one.at at) h (fixed_first at fixed more)
  where
    step : (b : Bool) → is_some (cond b (Some one.outcome) (outcome_at at fixed)) ≡ true → (IsFixed at fixed → IsFixed at (fixed ++ more))
        → is_some (cond b (Some one.outcome) (outcome_at at (fixed ++ more))) ≡ true
    step true h k = refl
    step false h k = k h

pub fixed_behind : (at : Cursor) (before fixed : List Fixed) → IsFixed at fixed → IsFixed at (before ++ fixed)
fixed_behind at [] fixed h = h
fixed_behind at (one ∷ before) fixed h = step (is_same_place one.at at) (fixed_behind at before fixed h)
  where
    step : (b : Bool) → IsFixed at (before ++ fixed) → is_some (cond b (Some one.outcome) (outcome_at at (before ++ fixed))) ≡ true
    step true k = refl
    step false k = k

pub fixed_here : (at : Cursor) (outcome : Outcome) (others : List Fixed) → IsFixed at (record { at = at; outcome = outcome } ∷ others)
fixed_here at outcome others =
    ap (λ (b : Bool). is_some (cond b (Some outcome) (outcome_at at others)))
    (and_from (at.chunk_id == at.chunk_id) (at.passed == at.passed) (eq-eqb at.chunk_id at.chunk_id refl) (eq-eqb at.passed at.passed refl))

-- a chain with its start begins at the place, or the row stops before
abbrev pub HasStart : Cursor → List Link → Type 0
HasStart at links = Started UpTo at links

-- Rows

-- A slot shows the place behind so many fragments as the start of a packet, or stops a reader there or before; behind the slots a row stops.
abbrev pub ShowsStart : Bool → ℕ → Option Slot → Type 0
ShowsStart closed k None = Unit {0}
ShowsStart closed k (Some (Here chunk)) =
    ((k < length chunk.fragments) × ((chunk.continues && (k == 0)) ≡ false)) ⊎ ((length chunk.fragments ≤ k) × (is_part closed chunk ≡ true))
ShowsStart closed k (Some Gone) = ⊥
ShowsStart closed k (Some Never) = closed ≡ false

module _ (closed : Bool) where
  abbrev row_behind : ℕ → ℕ → Chunk → List Slot → Bool → List Link
  row_behind chunk_id passed chunk slots part =
      cond part (Stop (place chunk_id (max passed (length chunk.fragments))) Partial false ∷ []) (row_of closed (suc chunk_id) 0 slots)

  pub row_has : (slots : List Slot) (chunk_id passed d k : ℕ) → (d ≡ 0 → passed ≤ k) → ShowsStart closed k (slice_get slots d)
      → HasStart (place (chunk_id + d) k) (row_of closed chunk_id passed slots)
  row_has [] chunk_id passed zero k low shows = inr (omega arith, low refl)
  row_has [] chunk_id passed (suc d) k low shows = inl (omega arith)
  row_has (Here chunk ∷ slots) chunk_id passed zero k low shows =
      subst (λ (n : ℕ). HasStart (place n k) (row_of closed chunk_id passed (Here chunk ∷ slots))) (omega arith) (by_shown shows)
    where
      long : length (drop passed chunk.fragments) ≡ length chunk.fragments - passed
      long = length-drop passed chunk.fragments

      by_shown : ((k < length chunk.fragments) × ((chunk.continues && (k == 0)) ≡ false)) ⊎ ((length chunk.fragments ≤ k) × (is_part closed chunk ≡ true))
          → HasStart (place chunk_id k) (row_of closed chunk_id passed (Here chunk ∷ slots))
      by_shown (inl h) =
          let from = low refl in
          let e = long in
          let high = h.0 in
          chunk_starts UpTo closed chunk_id chunk (row_behind chunk_id passed chunk slots (is_part closed chunk)) k (drop passed chunk.fragments) passed from
          (omega (arith, from, e, high)) h.1 (λ p below awaits. inr (refl, below))
      by_shown (inr h) =
          let from = low refl in
          let e = long in
          let high = h.0 in
          chunk_keeps UpTo closed chunk_id chunk (row_behind chunk_id passed chunk slots (is_part closed chunk)) (place chunk_id k) (drop passed chunk.fragments) passed
          (λ p below awaits. inr (refl, omega (arith, from, e, high, below)))
          (subst (λ (b : Bool). HasStart (place chunk_id k) (row_behind chunk_id passed chunk slots b)) (sym h.1) (inr (refl, omega (arith, from, high))))
  row_has (Here chunk ∷ slots) chunk_id passed (suc d) k low shows =
      chunk_keeps UpTo closed chunk_id chunk (row_behind chunk_id passed chunk slots (is_part closed chunk)) (place (chunk_id + suc d) k) (drop passed chunk.fragments) passed
      (λ p below awaits. inl (omega arith)) (by_part (is_part closed chunk) (row_has slots (suc chunk_id) 0 d k (λ z. omega arith) shows))
    where
      by_part : (b : Bool) → HasStart (place (suc chunk_id + d) k) (row_of closed (suc chunk_id) 0 slots) → HasStart (place (chunk_id + suc d) k) (row_behind chunk_id passed chunk slots b)
      by_part true h = inl (omega arith)
      by_part false h = subst (λ (n : ℕ). HasStart (place n k) (row_of closed (suc chunk_id) 0 slots)) (omega arith) h
  row_has (Gone ∷ slots) chunk_id passed zero k low shows = absurd shows
  row_has (Gone ∷ slots) chunk_id passed (suc d) k low shows =
      subst (λ (n : ℕ). HasStart (place n k) (row_of closed (suc chunk_id) 0 slots)) (omega arith) (row_has slots (suc chunk_id) 0 d k (λ z. omega arith) shows)
  row_has (Never ∷ slots) chunk_id passed zero k low shows =
      subst (λ (c : Bool). HasStart (place (chunk_id + 0) k) (cond c
      (Gap (place chunk_id passed) (place (suc chunk_id) 0) false ∷ row_of closed (suc chunk_id) 0 slots) (Stop (place chunk_id passed) Missing true ∷ []))) (sym shows)
      (inr (omega arith, low refl))
  row_has (Never ∷ slots) chunk_id passed (suc d) k low shows =
      by_close closed (subst (λ (n : ℕ). HasStart (place n k) (row_of closed (suc chunk_id) 0 slots)) (omega arith) (row_has slots (suc chunk_id) 0 d k (λ z. omega arith) shows))
    where
      by_close : (c : Bool) → HasStart (place (chunk_id + suc d) k) (row_of closed (suc chunk_id) 0 slots) → HasStart (place (chunk_id + suc d) k) (cond c
          (Gap (place chunk_id passed) (place (suc chunk_id) 0) false ∷ row_of closed (suc chunk_id) 0 slots) (Stop (place chunk_id passed) Missing true ∷ []))
      by_close true h = h
      by_close false h = inl (omega arith)

-- Reads

-- a start isn't before the row
start_behind : (at c : Cursor) (links : List Link) → Adjacent links → Rises c links → HasStart at links → UpTo (begin_of links) at
start_behind at c [] a r h = absurd h
start_behind at c (Joined chain ∷ links) a r (inl h) = subst (UpTo chain.at) h.0 (same_up_to chain.at)
start_behind at c (Joined chain ∷ links) a r (inr h) =
    up_to_up_to chain.at chain.next at (before_then chain.at chain.next r.1)
    (subst (λ (n : Cursor). UpTo n at) (sym a.0) (start_behind at chain.next links a.1 r.2 h))
start_behind at c (Gap here next lost ∷ links) a r h =
    up_to_up_to here next at (before_then here next r.1) (subst (λ (n : Cursor). UpTo n at) (sym a.0) (start_behind at next links a.1 r.2 h))
start_behind at c (Stop here why may ∷ links) a r h = h

-- what is passed of a chain with its start is fixed
turn_fixes : (at : Cursor) (fate : Fate) (headless spoilt : Bool) → headless ≡ false → ends (turn_by fate headless spoilt) ≡ false
    → IsFixed at (fixed_by_turn at (turn_by fate headless spoilt))
turn_fixes at fate true spoilt h e = absurd (false≢true (sym h))
turn_fixes at Open false spoilt h e = absurd (false≢true (sym e))
turn_fixes at Whole false true h e = fixed_here at _ []
turn_fixes at Whole false false h e = fixed_here at _ []
turn_fixes at Marked false spoilt h e = fixed_here at _ []
turn_fixes at IntoLost false spoilt h e = fixed_here at _ []
turn_fixes at CutOff false spoilt h e = fixed_here at _ []

pub read_fixes : (at : Cursor) (links : List Link) (c : Cursor) (limit : ℕ) → Adjacent links → Rises c links → HasStart at links
    → Before at (begin_of (left_by limit links)) → IsFixed at (flat_map fixed_by_link (passed_by limit links))
read_fixes at [] c limit a r h before = absurd h
read_fixes at (Stop here why may ∷ links) c limit a r h before = absurd (not_both at here before h)
read_fixes at (Gap here next lost ∷ links) c limit a r h before = read_fixes at links next (limit - 0) a.1 r.2 h before
read_fixes at (Joined chain ∷ links) c limit a r h before =
    step (ends (turn_of (Joined chain))) refl (delivers (turn_of (Joined chain)) && (limit == 0)) before
    (read_fixes at links chain.next (limit - one_if (delivers (turn_of (Joined chain)))) a.1 r.2)
  where
    step : (e : Bool) → ends (turn_of (Joined chain)) ≡ e → (d : Bool)
        → Before at (begin_of (cond (e || d) (Joined chain ∷ links) (left_by (limit - one_if (delivers (turn_of (Joined chain)))) links)))
        → (HasStart at links → Before at (begin_of (left_by (limit - one_if (delivers (turn_of (Joined chain)))) links))
        → IsFixed at (flat_map fixed_by_link (passed_by (limit - one_if (delivers (turn_of (Joined chain)))) links)))
        → IsFixed at (flat_map fixed_by_link (cond (e || d) [] (Joined chain ∷ passed_by (limit - one_if (delivers (turn_of (Joined chain)))) links)))
    step true f d before later = absurd (not_both at chain.at before (start_behind at c (Joined chain ∷ links) a r h))
    step false f true before later = absurd (not_both at chain.at before (start_behind at c (Joined chain ∷ links) a r h))
    step false f false before later = by_start h
      where
        by_start : ((chain.at ≡ at) × (chain.headless ≡ false)) ⊎ HasStart at links
            → IsFixed at (fixed_by_turn chain.at (turn_of (Joined chain)) ++ flat_map fixed_by_link (passed_by (limit - one_if (delivers (turn_of (Joined chain)))) links))
        by_start (inl is) =
            fixed_first at (fixed_by_turn chain.at (turn_of (Joined chain))) (flat_map fixed_by_link (passed_by (limit - one_if (delivers (turn_of (Joined chain)))) links))
            (subst (λ (n : Cursor). IsFixed n (fixed_by_turn chain.at (turn_of (Joined chain)))) is.0
            (turn_fixes chain.at chain.fate chain.headless (is_spoilt chain) is.1 f))
        by_start (inr there) =
            fixed_behind at (fixed_by_turn chain.at (turn_of (Joined chain))) (flat_map fixed_by_link (passed_by (limit - one_if (delivers (turn_of (Joined chain)))) links))
            (later there before)
