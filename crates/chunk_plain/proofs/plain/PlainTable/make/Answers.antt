use Rattle.std.proofs.Common.{◌≡◌, ◌+◌, ◌<◌, Some, length, replicate, subst, sym, ap, ◌∙◌, refl, arith}
use Rattle.chunk_plain.specs.Setup.{Setup, IsLaid}
use Rattle.chunk_plain.specs.Made.{HasFreeSlots}
use Rattle.chunk_plain.specs.World.{World, writer}
use Rattle.chunk_plain.specs.Plain.{IsKept, first_world}
use Rattle.chunk_plain.proofs.LayingLemmas.{setup_laid}
use Rattle.chunk_plain.proofs.MadeLemmas.{first_kept, all_zeros, first_sits, first_serves}
use Rattle.chunk_plain.proofs.Resting.{seat_stays, serves_stays}
use Rattle.chunk_plain.proofs.plain.PlainTable.make.Goals as goal

pub invariant_of-table-clause-laid : goal.invariant_of-table-clause-laid
invariant_of-table-clause-laid c = subst IsLaid (sym c.in_ok-layout.ensures) (setup_laid c.args.producers.now c.args.writers.now c.requires.producers c.requires.some_page c.requires.pages)

pub invariant_of-table-clause-kept : goal.invariant_of-table-clause-kept
invariant_of-table-clause-kept c =
    let setup = c.in_ok-layout.layout in let slots = c.in_ok-slots.slots.items in
    let free : HasFreeSlots setup.spots (length setup.spots) slots = subst (λ l. HasFreeSlots l (length l) slots) c.spots.ensures c.in_ok-slots.ensures in
    let words_are : c.in_ok-words.words.items ≡ replicate (setup.pages + length setup.spots) 0 = c.in_ok-words.ensures.items_if_clones_equal (λ y h. h) ∙ ap (λ n. replicate n 0) c.word_count.ensures in
    let world_is : c.first-told.result.world ≡ first_world setup = c.first-told.ensures in
    subst (λ w. ∥ IsKept setup c.in_ok-words.words.items slots w ∥₁) (sym world_is)
    (subst (λ l. ∥ IsKept setup l slots (first_world setup) ∥₁) (sym words_are) ∣ first_kept setup slots free ∣₁)

pub returns : goal.returns
returns c =
    let setup = c.in_ok-layout.layout in let slots = c.in_ok-slots.slots.items in
    let free : HasFreeSlots setup.spots (length setup.spots) slots = subst (λ l. HasFreeSlots l (length l) slots) c.spots.ensures c.in_ok-slots.ensures in
    let words_are : c.in_ok-words.words.items ≡ replicate (setup.pages + length setup.spots) 0 = c.in_ok-words.ensures.items_if_clones_equal (λ y h. h) ∙ ap (λ n. replicate n 0) c.word_count.ensures in
    let world_is : c.first-told.result.world ≡ first_world setup = c.first-told.ensures in
    record {
      setup = c.in_ok-layout.ensures;
      told = ap (λ (w : World). Some w) (world_is ∙ ap first_world c.in_ok-layout.ensures);
      zero = all_zeros setup c.in_ok-words.words.items slots words_are free;
      seats = c.in_ok-seats.ensures;
      sits = λ seat inside.
          let here : seat.place < length setup.writers = let many = ap (λ (s : Setup). length s.writers) c.in_ok-layout.ensures in omega arith in
          seat_stays setup setup seat.place (writer (first_world setup) seat.place) (writer c.first-told.result.world seat.place) refl (ap (λ w. writer w seat.place) world_is) (first_sits setup seat.place here);
      serves = serves_stays setup setup (first_world setup).service c.first-told.result.world.service refl (ap (λ (w : World). w.service) world_is) (first_serves setup);
    }
