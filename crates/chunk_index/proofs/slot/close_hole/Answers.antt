use Rattle.std.proofs.Common.{◌≡◌, ◌+◌, ◌<◌, ℕ, List, Option, Some, sym, ap, ◌∙◌, subst₂, arith, length}
use Rattle.chunk_index.specs.declared.slot.Entry.{Entry}
use Rattle.chunk_index.specs.Slots.{home, slot, entry_key, entries_of, map_of}
use Rattle.chunk_index.specs.Table.{IsHoled}
use Rattle.chunk_index.proofs.HoleLemmas.{holed_moved, holed_past}
use Rattle.chunk_index.proofs.MapLemmas.{map_moved, entries_moved}
use Rattle.chunk_index.proofs.slot.close_hole.Goals as goal
use Rattle.chunk_index.proofs.slot.close_hole.Goals.{then-home-hole, else-home-hole}

pub loop-at-preserved : goal.loop-at-preserved
loop-at-preserved c =
    let slots : List (Option Entry) = c.loop-at.slots in
    let hole : ℕ = c.loop-at.hole in
    let from : ℕ = c.loop-at.at in
    let entry : Entry = c.in-Some.entry in
    let holed : IsHoled c.args.capacity slots hole from = c.loop-at.invariant.holed in
    let there : slot slots from ≡ Some entry = c.in-Some.is in
    let home_is : c.home_of-home.result ≡ home c.args.capacity (entry_key entry) =
    c.home_of-home.ensures.value ∙ ap (home c.args.capacity) c.key_number.ensures in
    let inside : from < length slots = omega arith in
    let Kept : List (Option Entry) → ℕ → Type 0 = λ now at. record {
      holed : IsHoled c.args.capacity now at (from + 1);
      same : map_of now ≡ map_of c.args.slots.now;
      entries : length (entries_of now) ≡ length (entries_of c.args.slots.now);
    } in
    elim c.if-home-hole.branch [
      | then-home-hole w ↦
          subst₂ Kept (sym w.slots-is) (sym w.hole-is) record {
            holed = holed_moved c.args.capacity slots hole from entry holed inside there (omega (arith, w.if-home-hole.true));
            same = map_moved slots hole from entry holed.inside inside holed.empty there holed.once ∙ c.loop-at.invariant.same;
            entries = entries_moved slots hole from entry holed.inside holed.empty there ∙ c.loop-at.invariant.entries;
          }
      | else-home-hole w ↦
          subst₂ Kept (sym w.slots-is) (sym w.hole-is) record {
            holed = holed_past c.args.capacity slots hole from entry holed there (omega (arith, w.if-home-hole.false));
            same = c.loop-at.invariant.same;
            entries = c.loop-at.invariant.entries;
          }
    ]
