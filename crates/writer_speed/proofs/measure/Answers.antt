use Rattle.std.proofs.Common.{◌≡◌, ◌∙◌, ℕ, ◌<◌, ◌≤◌, Option, length, sym, ap, subst, unwrap_or, arith}
use Rattle.chunk_plain.specs.Setup.{Setup, IsLaid, range_of, from_of}
use Rattle.chunk_plain.specs.Views.{taken_of}
use Rattle.chunk_plain.specs.Words.{AllArrived}
use Rattle.chunk_plain.proofs.ArrivedLemmas.{first_arrived}
use Rattle.chunk_plain.specs.World.{World, writer, nowhere}
use Rattle.chunk_plain.specs.declared.setup.ChunkRange.{ChunkRange}
use Rattle.chunk_plain.specs.declared.plain_seats.PlainWriter.{PlainWriter}
use Rattle.claim_arbiter.specs.Claiming.{range_in}
use Rattle.trace_writer.specs.Core.{CoreAgrees}
use Rattle.writer_speed.proofs.BeginningLemmas.{fresh_setup, first_agrees, first_drops}
use Rattle.writer_speed.proofs.measure.Goals as goal

pub write_all-requires-clause-ready : goal.write_all-requires-clause-ready
write_all-requires-clause-ready g c =
    let table = c.in-Ok-make.table in
    let core = c.make-writer.result in
    let setup : Setup = table.layout in
    let setup_is = c.in-Ok-make.ensures.setup in
    let world_is = ap (λ (o : Option World). unwrap_or o nowhere) c.in-Ok-make.ensures.told in
    let found = c.chunks_of-first.ensures in
    let first = c.new-arbiter.ensures.first ∙ ap (λ (pair : ℕ × ℕ). pair.0) found in
    let chunks = c.new-arbiter.ensures.chunks ∙ ap (λ (pair : ℕ × ℕ). pair.1) found in
    let range : range_of setup 1 ≡ range_in c.new-arbiter.result =
    ap (λ (n : ℕ). let one : ChunkRange = record { first = n; count = (range_of setup 1).count } in one) (sym first)
    ∙ ap (λ (n : ℕ). let one : ChunkRange = record { first = c.new-arbiter.result.first; count = n } in one) (sym chunks) in
    let agrees : CoreAgrees setup 0 (writer table.told.world 0) core =
    first_agrees setup table.told.world c.in-Ok.geometry c.new-arbiter.result core setup_is world_is range c.make-writer.ensures.agrees in
    record {
      seat = c.in-Ok-make.ensures.sits core.seat (subst (λ (s : PlainWriter). s.place < 1) (sym c.make-writer.ensures.seat) (omega arith));
      agrees = subst (λ (s : PlainWriter). CoreAgrees setup s.place (writer table.told.world s.place) core) (sym c.make-writer.ensures.seat) agrees;
      drops = first_drops setup c.in-Ok.geometry (writer table.told.world 0) core setup_is agrees;
    }

pub write_all-requires-clause-collects : goal.write_all-requires-clause-collects
write_all-requires-clause-collects g c =
    let table = c.in-Ok-make.table in
    let setup_is = c.in-Ok-make.ensures.setup in
    let world_is : table.told.world ≡ _ = ap (λ (o : Option World). unwrap_or o nowhere) c.in-Ok-make.ensures.told in
    let found = c.chunks_of-first.ensures in
    let first = ap (λ (pair : ℕ × ℕ). pair.0) found in
    let count = ap (λ (pair : ℕ × ℕ). pair.1) found in
    let laid : IsLaid table.layout = table.laid in
    let inside = laid.ranges 1 in
    record {
      seat_is = c.in-Ok-make.ensures.serves;
      writers = subst (λ (s : Setup). 1 ≤ length s.writers) (sym setup_is) (omega arith);
      chunks = omega (arith, first, count, inside);
      listed = subst (λ (w : World). 0 < length w.service.taken) (sym world_is) (omega arith);
      none_out = ap (λ (w : World). w.service.reading) world_is;
      arrived = subst (λ (w : World). AllArrived w.service) (sym world_is) (first_arrived (fresh_setup c.in-Ok.geometry));
      from = ap (λ (s : Setup). from_of s 0) setup_is;
      count = sym (ap (λ (w : World). (taken_of w.service 0).count) world_is);
    }
