use Rattle.std.proofs.Common.{◌≡◌, ◌-◌, ◌∙◌, ◌<◌, ◌≤◌, ℕ, false, List, [], ◌∷◌, length, Option, unwrap_or, subst, sym, refl, ap, arith}
use Rattle.trace_base.specs.declared.policy.WriterSpec.{WriterSpec}
use Rattle.trace_base.specs.declared.policy.WriterPolicy.TheVariants.{Drops}
use Rattle.trace_base.specs.declared.policy.FullPolicy.TheVariants.{Ring}
use Rattle.page_geometry.specs.Sizes.{record_size, payload_size, chunk_size}
use Rattle.page_geometry.proofs.SizeLemmas.{payload_size_most}
use Rattle.chunk_plain.specs.declared.setup.ProducerSpec.{ProducerSpec}
use Rattle.chunk_plain.specs.Setup.{Setup, size_of, producer_of}
use Rattle.chunk_plain.specs.Laying.{setup_of}
use Rattle.chunk_plain.specs.World.{World, nowhere}
use Rattle.trace_buffer.specs.declared.answers.BufferSpec.{BufferSpec}
use Rattle.service_core.specs.Agreement.{ServiceAgrees, is_closed, buffer_of}
use Rattle.service_core.specs.Making.{IsUnused, buffer_spec_at}
use Rattle.chunk_plain_rows.proofs.NothingTaken.{nothing_taken}
use Rattle.chunk_plain_rows.proofs.commits.played_round.Goals as goal

pub make-requires-2-clause-fits : goal.make-requires-2-clause-fits
make-requires-2-clause-fits c place low =
    let geometry = c.in_ok-geometry.geometry in
    let producers : List ProducerSpec = record { pages = 1; geometry = geometry } ∷ [] in
    let writers : List WriterSpec = record { producer = 1; buffer = 1; policy = Drops; from = 7 } ∷ [] in
    let buffers : List BufferSpec = record { size = 65536; policy = Ring } ∷ [] in
    let setup : Setup = setup_of producers writers in
    let first : 0 ≡ place = omega arith in
    let most = payload_size_most geometry in
    let fits : record_size (payload_size geometry.page_size geometry.chunks) ≤ 65536 = omega (arith, most) in
    subst (λ (p : ℕ). record_size (size_of setup (producer_of setup p)) ≤ (buffer_spec_at buffers (buffer_of setup p - 1)).size) first fits

pub play-requires-clause-agrees : goal.play-requires-clause-agrees
play-requires-clause-agrees c =
    let view = c.in_ok-table.table.told.world.service in
    let world_is = ap (λ (o : Option World). unwrap_or o nowhere) c.in_ok-table.ensures.told in
    let unused : IsUnused 1 view = subst (λ (w : World). IsUnused 1 w.service) (sym world_is) (record { taken = refl; none_taken = nothing_taken; none_read = refl; none_noted = refl }) in
    subst (λ (s : Setup). ServiceAgrees s view c.in_ok-service.service) (sym c.in_ok-table.ensures.setup) (c.in_ok-service.ensures.agrees view unused)

pub play-requires-clause-open : goal.play-requires-clause-open
play-requires-clause-open c =
    subst (λ (s : Setup). (place : ℕ) → place < length s.writers → is_closed s c.in_ok-service.service place ≡ false) (sym c.in_ok-table.ensures.setup) c.in_ok-service.ensures.is_open

pub play-requires-clause-size : goal.play-requires-clause-size
unfolding payload_size chunk_size
play-requires-clause-size c =
    let geometry = c.in_ok-geometry.geometry in
    let size : payload_size geometry.page_size geometry.chunks ≡ 284 =
    ap (λ (n : ℕ). payload_size n geometry.chunks) c.in_ok-geometry.ensures.page_size ∙ ap (λ (n : ℕ). payload_size 4096 n) c.in_ok-geometry.ensures.chunks in
    subst (λ (s : Setup). length c.args.payload.now ≡ size_of s (producer_of s 0)) (sym c.in_ok-table.ensures.setup) (c.requires ∙ sym size)
