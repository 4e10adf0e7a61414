use Rattle.std.proofs.Common.{◌≡◌, ◌∙◌, ℕ, ◌<◌, ◌≤◌, Option, unwrap_or, [], ◌∷◌, length, refl, sym, ap, subst, arith}
use Rattle.trace_base.specs.declared.policy.WriterSpec.{WriterSpec}
use Rattle.chunk_plain.specs.declared.plain_seats.PlainWriter.{PlainWriter}
use Rattle.chunk_plain.specs.declared.setup.ProducerSpec.{ProducerSpec}
use Rattle.chunk_plain.specs.Laying.{setup_of}
use Rattle.chunk_plain.specs.Setup.{Setup, IsLaid, range_of, from_of}
use Rattle.chunk_plain.specs.Views.{taken_of}
use Rattle.chunk_plain.specs.Words.{AllArrived}
use Rattle.chunk_plain.proofs.ArrivedLemmas.{first_arrived}
use Rattle.chunk_plain.specs.World.{World, writer, nowhere}
use Rattle.claim_arbiter.specs.Claiming.{range_in}
use Rattle.trace_writer.specs.Core.{CoreAgrees}
use Rattle.trace_writer_rows.proofs.OneProducer.{one_sized, range_is}
use Rattle.trace_writer_rows.proofs.setting.set_up.Goals as goal

pub returns-clause-agrees : goal.returns-clause-agrees
returns-clause-agrees c =
    let producer : ProducerSpec = record { pages = 1; geometry = c.in_ok-geometry.geometry } in
    let spec : WriterSpec = record { producer = 1; buffer = 1; policy = c.args.policy; from = 4294967295 } in
    let setup : Setup = setup_of (producer ∷ []) (spec ∷ []) in
    let setup_is : c.in_ok-table.table.layout ≡ setup = c.in_ok-table.ensures.setup in
    let core = c.make-writer.result in
    let first : c.new-2.result.first ≡ (range_of setup 1).first =
    c.new-2.ensures.first ∙ ap (λ range. range.0) c.chunks_of-first.ensures ∙ ap (λ (s : Setup). (range_of s 1).first) setup_is in
    let count : c.new-2.result.chunks ≡ (range_of setup 1).count =
    c.new-2.ensures.chunks ∙ ap (λ range. range.1) c.chunks_of-first.ensures ∙ ap (λ (s : Setup). (range_of s 1).count) setup_is in
    let range : range_of setup 1 ≡ range_in c.new-2.result =
    range_is c.new-2.result (range_of setup 1) first count in
    let world : c.in_ok-table.table.told.world ≡ _ = ap (λ (o : Option World). unwrap_or o nowhere) c.in_ok-table.ensures.told in
    let seat : c.make-writer.result.seat.place ≡ 0 = ap (λ (s : PlainWriter). s.place) c.make-writer.ensures.seat in
    subst (λ (s : Setup). CoreAgrees s c.make-writer.result.seat.place (writer c.in_ok-table.table.told.world c.make-writer.result.seat.place) core) (sym setup_is)
    (subst (λ (place : ℕ). CoreAgrees setup place (writer c.in_ok-table.table.told.world place) core) (sym seat)
    (subst (λ (w : World). CoreAgrees setup 0 (writer w 0) core) (sym world)
    (c.make-writer.ensures.agrees setup 0 refl (record { least = omega arith; most = omega arith }) range (one_sized producer (spec ∷ [])))))

pub returns-clause-needs : goal.returns-clause-needs
returns-clause-needs c =
    let producer : ProducerSpec = record { pages = 1; geometry = c.in_ok-geometry.geometry } in
    let spec : WriterSpec = record { producer = 1; buffer = 1; policy = c.args.policy; from = 4294967295 } in
    let setup : Setup = setup_of (producer ∷ []) (spec ∷ []) in
    let table = c.in_ok-table.table in
    let setup_is : table.layout ≡ setup = c.in_ok-table.ensures.setup in
    let world : table.told.world ≡ _ = ap (λ (o : Option World). unwrap_or o nowhere) c.in_ok-table.ensures.told in
    let first = ap (λ range. range.0) c.chunks_of-first.ensures in
    let count = ap (λ range. range.1) c.chunks_of-first.ensures in
    let laid : IsLaid table.layout = table.laid in
    let inside = laid.ranges 1 in (
      c.in_ok-table.ensures.serves,
      omega (arith, first, count, inside),
      subst (λ (s : Setup). 1 ≤ length s.writers) (sym setup_is) (omega arith),
      subst (λ (w : World). 0 < length w.service.taken) (sym world) (omega arith),
      ap (λ (w : World). w.service.reading) world,
      sym (ap (λ (w : World). (taken_of w.service 0).count) world),
      ap (λ (s : Setup). from_of s 0) setup_is,
      subst (λ (w : World). AllArrived w.service) (sym world) (first_arrived setup),
    )
