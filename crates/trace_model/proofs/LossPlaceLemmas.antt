-- What losses fix: places that the cursor hasn't passed, in chunks of which the record is then gone.
use Rattle.std.proofs.Common.{◌≡◌, ◌∙◌, ℕ, zero, suc, ◌-◌, ◌<◌, ◌≤◌, Bool, true, false, not, ◌&&◌, List, ◌∷◌, map, length, refl, sym, ap, arith, inl, inr}
use Rattle.std.specs.Prelude.{filter, cond, ◌⊎◌, ◌==◌}
use Rattle.std.proofs.lemmas.Bool.{cases_lt, cases_eq, eq-eqb, lt-ltb, le-ltb}
use Rattle.trace_model.specs.Images.{Chunk}
use Rattle.trace_model.specs.Sequences.{Cursor, Sequence, unread_of}
use Rattle.trace_model.specs.Row.{place}
use Rattle.trace_model.specs.Causes.{Fixed, is_same_place, places_from, starts_among, unread_start_places, lost_at}
use Rattle.trace_model.specs.CauseLaws.{AreDistinct}
use Rattle.trace_model.specs.RowLaws.{UpTo}
use Rattle.trace_model.proofs.CursorLemmas.{Each, each-then, differs_behind, distinct_first}

-- Places of one chunk

abbrev InChunk : ℕ → ℕ → Fixed → Type 0
InChunk chunk_id passed f = (f.at.chunk_id ≡ chunk_id) × (passed ≤ f.at.passed)

record AreInChunk (chunk_id passed : ℕ) (fixed : List Fixed) : Type 0 where
  each : Each (InChunk chunk_id passed) fixed
  distinct : AreDistinct fixed

chunk_places : (test : Cursor → Bool) (count chunk_id passed : ℕ) → AreInChunk chunk_id passed (map lost_at (filter test (places_from chunk_id passed count)))
chunk_places test zero chunk_id passed = record { each = tt; distinct = tt }
chunk_places test (suc count) chunk_id passed = step (test (place chunk_id passed)) (chunk_places test count chunk_id (suc passed))
  where
    step : (b : Bool) → AreInChunk chunk_id (suc passed) (map lost_at (filter test (places_from chunk_id (suc passed) count)))
        → AreInChunk chunk_id passed (map lost_at (cond b (place chunk_id passed ∷ filter test (places_from chunk_id (suc passed) count)) (filter test (places_from chunk_id (suc passed) count))))
    step true h = record {
      each = (
        (refl, omega arith),
        each-then (InChunk chunk_id (suc passed)) (InChunk chunk_id passed) (λ f i. (i.0, omega (arith, i.1)))
            (map lost_at (filter test (places_from chunk_id (suc passed) count))) h.each,
      );
      distinct = distinct_first (lost_at (place chunk_id passed)) (map lost_at (filter test (places_from chunk_id (suc passed) count)))
          (each-then (InChunk chunk_id (suc passed)) (λ (g : Fixed). is_same_place g.at (place chunk_id passed) ≡ false)
          (λ g i. differs_behind (place chunk_id passed) g.at (inr (sym i.0, i.1))) (map lost_at (filter test (places_from chunk_id (suc passed) count))) h.each)
          h.distinct;
    }
    step false h = record {
      each = each-then (InChunk chunk_id (suc passed)) (InChunk chunk_id passed) (λ f i. (i.0, omega (arith, i.1)))
          (map lost_at (filter test (places_from chunk_id (suc passed) count))) h.each;
      distinct = h.distinct;
    }

-- where some fragments are unread, the cursor is at the first of them or before
unread_up_to : (s : Sequence) (chunk_id count u : ℕ) (at : Cursor) → suc u ≡ unread_of s chunk_id count
    → at.chunk_id ≡ chunk_id → count - suc u ≤ at.passed → UpTo s.cursor at
unread_up_to s chunk_id count u at e same h = by_order (cases_lt chunk_id s.cursor.chunk_id)
  where
    by_same : s.cursor.chunk_id ≤ chunk_id → suc u ≡ cond (chunk_id == s.cursor.chunk_id) (count - s.cursor.passed) count
        → ((chunk_id ≡ s.cursor.chunk_id) ⊎ (chunk_id ≡ s.cursor.chunk_id → ⊥)) → UpTo s.cursor at
    by_same k f (inl i) =
        let here : suc u ≡ count - s.cursor.passed =
        f ∙ ap (λ (b : Bool). cond b (count - s.cursor.passed) count) (eq-eqb chunk_id s.cursor.chunk_id i) in
        inr (sym i ∙ sym same, omega (arith, here, h))
    by_same k f (inr i) = inl (grind (arith, k, i, same))

    by_order : ((chunk_id < s.cursor.chunk_id) ⊎ (s.cursor.chunk_id ≤ chunk_id)) → UpTo s.cursor at
    by_order (inl k) =
        let none : suc u ≡ 0 = e ∙ ap (λ (b : Bool). cond b 0 (cond (chunk_id == s.cursor.chunk_id) (count - s.cursor.passed) count)) (lt-ltb chunk_id s.cursor.chunk_id k) in
        absurd (omega (arith, none))
    by_order (inr k) =
        by_same k (e ∙ ap (λ (b : Bool). cond b 0 (cond (chunk_id == s.cursor.chunk_id) (count - s.cursor.passed) count)) (le-ltb chunk_id s.cursor.chunk_id k))
        (cases_eq chunk_id s.cursor.chunk_id)

-- unread starts of a chunk, as outcomes
pub record AreUnread (s : Sequence) (chunk_id : ℕ) (fixed : List Fixed) : Type 0 where
  pub each : Each (λ (f : Fixed). (f.at.chunk_id ≡ chunk_id) × UpTo s.cursor f.at) fixed
  pub distinct : AreDistinct fixed

pub unread_places : (s : Sequence) (chunk_id : ℕ) (chunk : Chunk) → AreUnread s chunk_id (map lost_at (unread_start_places s chunk_id chunk))
unread_places s chunk_id chunk = step (unread_of s chunk_id (length chunk.fragments)) refl
  where
    step : (u : ℕ) → u ≡ unread_of s chunk_id (length chunk.fragments)
        → AreUnread s chunk_id (map lost_at (starts_among chunk (places_from chunk_id (length chunk.fragments - u) u)))
    step zero e = record { each = tt; distinct = tt }
    step (suc u) e =
        let test : Cursor → Bool = λ at. not (chunk.continues && (at.passed == 0)) in
        let first : ℕ = length chunk.fragments - suc u in
        let places : AreInChunk chunk_id first (map lost_at (filter test (places_from chunk_id first (suc u)))) = chunk_places test (suc u) chunk_id first in
        record {
          each = each-then (InChunk chunk_id first) (λ (f : Fixed). (f.at.chunk_id ≡ chunk_id) × UpTo s.cursor f.at)
              (λ f i. (i.0, unread_up_to s chunk_id (length chunk.fragments) u f.at e i.0 i.1))
              (map lost_at (filter test (places_from chunk_id first (suc u)))) places.each;
          distinct = places.distinct;
        }
