-- Patches change the last fragment of a chunk alone, and the others end before it.
use Rattle.std.proofs.Common.{◌≡◌, ◌∙◌, ℕ, zero, suc, ◌+◌, ◌<◌, ◌≤◌, ◌⊎◌, Bool, true, false, List, [], ◌∷◌, ◌++◌, length, Some, refl, ap, subst, arith, inl, inr}
use Rattle.std.specs.Prelude.{cond, ◌==◌, nat_le, slice_get}
use Rattle.std.proofs.lemmas.Bool.{and_parts, leb-true}
use Rattle.trace_model.specs.Images.{Fragment, Patch, holds_patch, last_holds, patched_fragment, patched_last}
use Rattle.trace_model.specs.Pages.{fragments_from}
use Rattle.trace_model.specs.Written.{settled_fragments}
use Rattle.trace_model.proofs.CursorLemmas.{Each}
use Rattle.commit_laws.proofs.PatchOrder.{LiesIn, put_all}

-- the fragments, of which this is the last one
pub record EndsIn (fragments : List Fragment) : Type 0 where
  pub front : List Fragment
  pub last : Fragment
  pub is : fragments ≡ front ++ last ∷ []

pub ends_in : (fragments : List Fragment) → 0 < length fragments → EndsIn fragments
ends_in [] some = absurd (omega (arith, some))
ends_in (f ∷ []) some = record { front = []; last = f; is = refl }
ends_in (f ∷ g ∷ gs) some =
    let rest = ends_in (g ∷ gs) (omega arith) in
    record { front = f ∷ rest.front; last = rest.last; is = ap (λ (fs : List Fragment). f ∷ fs) rest.is }

pub patched_end : (front : List Fragment) (last : Fragment) (patch : Patch) → patched_last patch (front ++ last ∷ []) ≡ front ++ patched_fragment patch last ∷ []
patched_end [] last patch = refl
patched_end (f ∷ []) last patch = refl
patched_end (f ∷ g ∷ gs) last patch = ap (λ (fs : List Fragment). f ∷ fs) (patched_end (g ∷ gs) last patch)

pub holds_end : (front : List Fragment) (last : Fragment) (patch : Patch) → last_holds (front ++ last ∷ []) patch ≡ holds_patch last patch
holds_end [] last patch = refl
holds_end (f ∷ []) last patch = refl
holds_end (f ∷ g ∷ gs) last patch = holds_end (g ∷ gs) last patch

-- a fragment with other bytes
abbrev pub with_text : Fragment → List ℕ → Fragment
with_text fragment bytes = record fragment { bytes = bytes }

pub settled_end : (patches : List Patch) (chunk_id : ℕ) (front : List Fragment) (last : Fragment)
    → settled_fragments patches chunk_id (front ++ last ∷ []) ≡ front ++ with_text last (put_all chunk_id last.offset patches last.bytes) ∷ []
settled_end [] chunk_id front last = refl
settled_end (patch ∷ patches) chunk_id front last = by_id (patch.chunk_id == chunk_id) (λ next. settled_end patches chunk_id front next)
  where
    by_id : (b : Bool)
        → ((next : Fragment) → settled_fragments patches chunk_id (front ++ next ∷ []) ≡ front ++ with_text next (put_all chunk_id next.offset patches next.bytes) ∷ [])
        → settled_fragments patches chunk_id (cond b (patched_last patch (front ++ last ∷ [])) (front ++ last ∷ []))
        ≡ front ++ with_text last (put_all chunk_id last.offset patches (cond b (patched_fragment patch last).bytes last.bytes)) ∷ []
    by_id true rest = ap (settled_fragments patches chunk_id) (patched_end front last patch) ∙ rest (patched_fragment patch last)
    by_id false rest = rest last

-- a patch that the last fragment holds lies in it
pub held_lies : (chunk_id : ℕ) (last : Fragment) (patch : Patch) → holds_patch last patch ≡ true → length patch.bytes ≡ 4 → LiesIn chunk_id last.offset (length last.bytes) patch
held_lies chunk_id last patch holds four =
    let parts = and_parts (nat_le last.offset patch.offset) (nat_le (patch.offset + 4) (last.offset + length last.bytes)) holds in
    record {
      least = leb-true last.offset patch.offset parts.0;
      most = leb-true (patch.offset + 4) (last.offset + length last.bytes) parts.1;
      four = four;
    }

-- Where fragments lie

-- the fragment ends before the place
abbrev pub EndsBefore : ℕ → Fragment → Type 0
EndsBefore place fragment = fragment.offset + length fragment.bytes < place

below_last : (at : ℕ) (dropped : Bool) (texts : List (List ℕ)) (front : List Fragment) (last : Fragment) → fragments_from at dropped texts ≡ front ++ last ∷ []
    → (at ≤ last.offset) × Each (EndsBefore last.offset) front
below_last at dropped [] [] last e = absurd (cc)
below_last at dropped [] (f ∷ front) last e = absurd (cc)
below_last at dropped (text ∷ []) [] last e =
    let same : record { bytes = text; dropped = dropped; offset = at } ≡ last = cc in
    let place : at ≡ last.offset = ap (λ (f : Fragment). f.offset) same in
    (omega (arith, place), tt)
below_last at dropped (text ∷ []) (f ∷ []) last e = absurd (cc)
below_last at dropped (text ∷ []) (f ∷ g ∷ front) last e = absurd (cc)
below_last at dropped (text ∷ next ∷ texts) [] last e = absurd (no_more texts e)
  where
    no_more : (texts : List (List ℕ)) → record { bytes = text; dropped = false; offset = at } ∷ fragments_from (at + length text + 4) dropped (next ∷ texts) ≡ last ∷ [] → ⊥
    no_more [] e = cc
    no_more (other ∷ texts) e = cc
below_last at dropped (text ∷ next ∷ texts) (f ∷ front) last e =
    let same : record { bytes = text; dropped = false; offset = at } ≡ f = cc in
    let others : fragments_from (at + length text + 4) dropped (next ∷ texts) ≡ front ++ last ∷ [] = cc in
    let rest = below_last (at + length text + 4) dropped (next ∷ texts) front last others in
    let place : at ≡ f.offset = ap (λ (g : Fragment). g.offset) same in
    let long : length text ≡ length f.bytes = ap (λ (g : Fragment). length g.bytes) same in
    let low = rest.0 in
    (omega (arith, low), (omega (arith, low, place, long), rest.1))

pub front_below : (at : ℕ) (dropped : Bool) (texts : List (List ℕ)) (front : List Fragment) (last : Fragment) → fragments_from at dropped texts ≡ front ++ last ∷ []
    → Each (EndsBefore last.offset) front
front_below at dropped texts front last e = (below_last at dropped texts front last e).1

-- which fragment stands at a number
pub front_or_last : (P : Fragment → Type 0) (front : List Fragment) (last : Fragment) (k : ℕ) (fragment : Fragment) → Each P front → slice_get (front ++ last ∷ []) k ≡ Some fragment
    → P fragment ⊎ (last ≡ fragment)
front_or_last P [] last zero fragment each get = inr (cc)
front_or_last P [] last (suc k) fragment each get = absurd (cc)
front_or_last P (f ∷ front) last zero fragment each get =
    let same : f ≡ fragment = cc in
    inl (subst P same each.0)
front_or_last P (f ∷ front) last (suc k) fragment each get = front_or_last P front last k fragment each.1 get
