use Rattle.std.proofs.Common.{◌∙◌, Option, length, unwrap_or, ap, sym, refl, arith, ℕ, List, [], ◌∷◌}
use Rattle.std.proofs.lemmas.List.Elements.{All-from_recursion}
use Rattle.trace_base.specs.declared.policy.WriterPolicy.TheVariants.{Drops}
use Rattle.trace_base.specs.declared.policy.WriterSpec.{WriterSpec}
use Rattle.chunk_plain.specs.Setup.{Setup, from_of, id_at}
use Rattle.chunk_plain.specs.Views.{WriterView, newcomer, BegunChunk}
use Rattle.chunk_plain.specs.World.{World, writer, nowhere}
use Rattle.chunk_plain.specs.Owned.{held_count}
use Rattle.chunk_plain.proofs.MadeLemmas.{all_same, BeginsAtNought, from_nought}
use Rattle.part_rows.proofs.claims.filled_by_five.Goals as goal
use Rattle.trace_base.specs.Ids.{id_of}
use Rattle.trace_base.proofs.IdLemmas.{id_from_nought}

pub loop-place-init : goal.loop-place-init
loop-place-init g c =
    let first = ap (λ (o : Option World). unwrap_or o nowhere) c.in_ok-table.ensures.told in
    record {
      setup = refl;
      waits = λ place least below. (
        c.in_ok-table.ensures.sits (record { place = place }) below,
        ap (λ (w : World). (writer w place).begun) first ∙ ap (λ (v : WriterView). v.begun) (let five : List ℕ = 0 ∷ 0 ∷ 0 ∷ 0 ∷ 0 ∷ [] in all_same newcomer five place),
      );
    }

pub fill-requires-clause-seat : goal.fill-requires-clause-seat
fill-requires-clause-seat g c = (c.loop-place.invariant.waits c.loop-place.place (omega arith) (omega arith)).0

-- each of the writers begins with the id 0
pub fill-requires-clause-id : goal.fill-requires-clause-id
fill-requires-clause-id g c =
    let i = c.loop-place.invariant in let place = c.loop-place.place in
    let here = i.waits place (omega arith) (omega arith) in
    let setup_is = i.setup ∙ c.in_ok-table.ensures.setup in
    let spec : WriterSpec = record { producer = 1; buffer = 1; policy = Drops; from = 0 } in
    let five : List WriterSpec = spec ∷ spec ∷ spec ∷ spec ∷ spec ∷ [] in
    let nought = from_nought five place (All-from_recursion BeginsAtNought five (refl, (refl, (refl, (refl, (refl, tt)))))) in
    sym (ap (λ (b : List BegunChunk). id_at c.loop-place.table.layout place (length b)) here.1
    ∙ (ap (λ (s : Setup). id_of (from_of s place) 0) setup_is
    ∙ (ap (λ (n : ℕ). id_of n 0) nought ∙ id_from_nought 0 (omega arith))))

pub loop-place-preserved : goal.loop-place-preserved
loop-place-preserved g c =
    let i = c.loop-place.invariant in
    record {
      setup = c.fill.ensures.step.setup_stays ∙ i.setup;
      waits = λ place later below.
          let before = i.waits place (omega arith) below in
          let stays = c.fill.ensures.step.writers_stay (record { place = place }) before.0 (λ same. absurd (omega arith)) in
          (stays.0, ap (λ (v : WriterView). v.begun) stays.1 ∙ before.1);
    }
