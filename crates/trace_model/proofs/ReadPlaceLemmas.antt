-- What a read fixes lies between the cursor before and the cursor behind it, in chunks that are there.
use Rattle.std.proofs.Common.{◌≡◌, ℕ, ◌-◌, Bool, true, false, ◌&&◌, ◌||◌, List, [], ◌∷◌, ◌++◌}
use Rattle.std.specs.Prelude.{cond, ◌==◌}
use Rattle.std.specs.List.{flat_map}
use Rattle.trace_model.specs.Sequences.{Cursor}
use Rattle.trace_model.specs.Row.{Link, Joined, Gap, Stop}
use Rattle.trace_model.specs.Reads.{Turn, Delivers, Counts, Skips, Ends, turn_of, delivers, ends, passed_by, cursor_after}
use Rattle.trace_model.specs.Counts.{one_if}
use Rattle.trace_model.specs.Causes.{Fixed, Delivered, Absent, fixed_by_turn, fixed_by_link, is_same_place}
use Rattle.trace_model.specs.CauseLaws.{AreDistinct}
use Rattle.trace_model.specs.RowLaws.{Before, UpTo}
use Rattle.trace_model.proofs.CursorLemmas.{Each, each-then, up_to_up_to, before_up_to, before_then, same_up_to, differs_behind, distinct_first}
use Rattle.trace_model.proofs.RowPlaceLemmas.{Stands}

-- the place of an outcome: from the first cursor on, before the second one, in a chunk with the property
pub record Within (P : ℕ → Type 0) (from to : Cursor) (fixed : Fixed) : Type 0 where
  pub behind : UpTo from fixed.at
  pub before : Before fixed.at to
  pub there : P fixed.at.chunk_id

-- these outcomes lie there, and are distinct
pub record AreWithin (P : ℕ → Type 0) (from to : Cursor) (fixed : List Fixed) : Type 0 where
  pub each : Each (Within P from to) fixed
  pub distinct : AreDistinct fixed
  pub onward : UpTo from to

module _ (P : ℕ → Type 0) where
  within_further : (a b to : Cursor) (fixed : List Fixed) → UpTo a b → AreWithin P b to fixed → AreWithin P a to fixed
  within_further a b to fixed h w = record {
    each = each-then (Within P b to) (Within P a to) (λ f k. record { behind = up_to_up_to a b f.at h k.behind; before = k.before; there = k.there }) fixed w.each;
    distinct = w.distinct;
    onward = up_to_up_to a b to h w.onward;
  }

  within_first : (from next to : Cursor) (f : Fixed) (fixed : List Fixed) → UpTo from f.at → Before f.at next → P f.at.chunk_id
      → AreWithin P next to fixed → AreWithin P from to (f ∷ fixed)
  within_first from next to f fixed h k p w =
      let further : AreWithin P from to fixed =
      within_further from next to fixed (up_to_up_to from f.at next h (before_then f.at next k)) w in
      record {
        each = (record { behind = h; before = before_up_to f.at next to k w.onward; there = p }, further.each);
        distinct = distinct_first f fixed
            (each-then (Within P next to) (λ (g : Fixed). is_same_place g.at f.at ≡ false) (λ g i. differs_behind f.at g.at (before_up_to f.at next g.at k i.behind)) fixed w.each)
            w.distinct;
        onward = further.onward;
      }

  within_turn : (turn : Turn) (from at next to : Cursor) (fixed : List Fixed) → UpTo from at → Before at next → P at.chunk_id
      → AreWithin P next to fixed → AreWithin P from to (fixed_by_turn at turn ++ fixed)
  within_turn Delivers from at next to fixed h k p w = within_first from next to (record { at = at; outcome = Delivered }) fixed h k p w
  within_turn (Counts cause) from at next to fixed h k p w = within_first from next to (record { at = at; outcome = Absent cause }) fixed h k p w
  within_turn Skips from at next to fixed h k p w = within_further from next to fixed (up_to_up_to from at next h (before_then at next k)) w
  within_turn Ends from at next to fixed h k p w = within_further from next to fixed (up_to_up_to from at next h (before_then at next k)) w

  within_none : (from : Cursor) → AreWithin P from from []
  within_none from = record { each = tt; distinct = tt; onward = same_up_to from }

  pub reads_within : (links : List Link) (limit : ℕ) (from : Cursor) → Stands P from links
      → AreWithin P from (cursor_after from (passed_by limit links)) (flat_map fixed_by_link (passed_by limit links))
  reads_within [] limit from s = within_none from
  reads_within (Stop at why may ∷ links) limit from s = within_none from
  reads_within (Gap at next lost ∷ links) limit from s =
      within_further from next (cursor_after next (passed_by (limit - 0) links)) (flat_map fixed_by_link (passed_by (limit - 0) links))
      (up_to_up_to from at next s.0.0 (before_then at next s.0.1)) (reads_within links (limit - 0) next (s.0.2, s.1))
  reads_within (Joined chain ∷ links) limit from s =
      step (ends (turn_of (Joined chain)) || (delivers (turn_of (Joined chain)) && (limit == 0)))
      (reads_within links (limit - one_if (delivers (turn_of (Joined chain)))) chain.next (s.0.2, s.1.1))
    where
      step : (b : Bool)
          → AreWithin P chain.next (cursor_after chain.next (passed_by (limit - one_if (delivers (turn_of (Joined chain)))) links))
          (flat_map fixed_by_link (passed_by (limit - one_if (delivers (turn_of (Joined chain)))) links))
          → AreWithin P from (cursor_after from (cond b [] (Joined chain ∷ passed_by (limit - one_if (delivers (turn_of (Joined chain)))) links)))
          (flat_map fixed_by_link (cond b [] (Joined chain ∷ passed_by (limit - one_if (delivers (turn_of (Joined chain)))) links)))
      step true w = within_none from
      step false w = within_turn (turn_of (Joined chain)) from chain.at chain.next
          (cursor_after chain.next (passed_by (limit - one_if (delivers (turn_of (Joined chain)))) links))
          (flat_map fixed_by_link (passed_by (limit - one_if (delivers (turn_of (Joined chain)))) links)) s.0.0 s.0.1 s.1.0 w
