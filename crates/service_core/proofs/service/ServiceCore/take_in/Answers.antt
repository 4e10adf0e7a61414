use Rattle.std.proofs.Common.{◌≡◌, ◌+◌, ◌-◌, ◌<◌, ℕ, List, [], ◌∷◌, length, map, subst, sym, vec_len, ◌∙◌, ap, refl, arith, rules}
use Rattle.std.proofs.lemmas.List.{get_or_read}
use Rattle.trace_base.specs.declared.policy.WriterSpec.{WriterSpec}
use Rattle.page_geometry.specs.Sizes.{record_size}
use Rattle.trace_model.specs.Buffers.{Buffer}
use Rattle.trace_model.specs.Images.{Image}
use Rattle.trace_model.specs.Ids.{placed_image, placed_patches}
use Rattle.trace_model.specs.History as model
use Rattle.trace_model.specs.History.{buffers_after}
use Rattle.chunk_image.specs.Values.{image_value}
use Rattle.service_core.specs.Routing.{IsAt, from_at, arrivals_of}
use Rattle.service_core.specs.Agreement.{spec_at}
use Rattle.chunk_plain.specs.Views.{taken_of}
use Rattle.chunk_plain.specs.Words.{AllArrived}
use Rattle.chunk_plain.proofs.ArrivedLemmas.{all_arrived}
use Rattle.service_core.proofs.AgreeLemmas.{arrived_behind}
use Rattle.service_core.proofs.RouteLemmas.{is_at_after, arrives_placed}
use Rattle.service_core.proofs.service.ServiceCore.take_in.Goals as goal
use Rattle.chunk_plain.specs.Setup.{no_writer, from_of}
use Rattle.commit_body.specs.declared.body.Patch.{Patch}
use Rattle.commit_body.specs.Patches.{patch_value}

pub patch_in-requires : goal.patch_in-requires
patch_in-requires g c =
    let size : ℕ = record_size (vec_len c.args.taken.body.payload) in
    let bs : List Buffer = c.args.self.now.buffers.items in
    let read = get_or_read c.args.self.now.writers.items c.args.place c.index.result.now c.requires.route.listed c.index.ensures no_writer in
    let buffer : c.from-index.result ≡ (spec_at c.args.self.now.writers.items c.args.place).buffer = c.from-index.ensures ∙ ap (λ (w : WriterSpec). w.buffer) read in
    let at = subst (λ (b : ℕ). IsAt bs (b - 1) (c.args.place + 2) size) (sym buffer) c.requires.route.at in
    let after = c.arrive_in.ensures.after in
    let image : Image = image_value (record { sequence = c.args.place + 2; chunk_id = c.args.taken.header.chunk_id; count = c.args.taken.header.count; flags = c.args.taken.header.flags; payload = c.deref.result }) in
    let events = arrivals_of (placed_image (from_at bs (c.from-index.result - 1) (c.args.place + 2)) image) in
    (size, subst (λ (xs : List Buffer). IsAt xs (c.from-index.result - 1) (c.args.place + 2) size) (sym after) (is_at_after bs (c.from-index.result - 1) (c.args.place + 2) size events at))

-- the chunk was taken
pub note-requires-clause-taken : goal.note-requires-clause-taken
note-requires-clause-taken g c =
    let view = g.W.Words.means.service_view c.args.table.now c.args.self.now.seat in
    let back : c.args.place + 2 - 2 ≡ c.args.place = omega arith in
    subst (λ (p : ℕ). c.args.position < (taken_of view p).count) (sym back) c.requires.lacks.taken

-- its arrival is noted, and then its patches
pub release-requires-clause-arrived : goal.release-requires-clause-arrived
release-requires-clause-arrived g c =
    let view = g.W.Words.means.service_view c.args.table.now c.args.self.now.seat in
    arrived_behind c.note_patches.ensures
    (subst AllArrived (sym c.note.ensures.view) (all_arrived view c.args.place c.args.position [] c.requires.lacks.others))

pub returns-clause-puts : goal.returns-clause-puts
returns-clause-puts g c =
    let setup = g.W.Words.means.setup c.args.table.now in
    let bs : List Buffer = c.args.self.now.buffers.items in
    let q : ℕ = c.args.place + 2 in
    let read = get_or_read c.args.self.now.writers.items c.args.place c.index.result.now c.requires.route.listed c.index.ensures no_writer in
    let buffer : c.from-index.result ≡ (spec_at c.args.self.now.writers.items c.args.place).buffer = c.from-index.ensures ∙ ap (λ (w : WriterSpec). w.buffer) read in
    let from_is : from_at bs (c.from-index.result - 1) q ≡ from_of setup c.args.place = ap (λ (b : ℕ). from_at bs (b - 1) q) buffer ∙ c.requires.route.from in
    let inside : c.from-index.result - 1 < length bs = subst (λ (b : ℕ). b - 1 < length bs) (sym buffer) c.requires.route.at.inside in
    let image : Image = image_value (record { sequence = q; chunk_id = c.args.taken.header.chunk_id; count = c.args.taken.header.count; flags = c.args.taken.header.flags; payload = c.deref.result }) in
    let position = c.requires.taken.fits in
    let given = map patch_value c.args.taken.body.patches.value.items in
    let patches = placed_patches (from_of setup c.args.place) given in
    let brought = rw c.deref-2.ensures at c.as_slice-patches.ensures.value in
    let patched = c.patch_in.ensures
    ∙ ap (λ (ps : List Patch). buffers_after c.arrive_in.new.buffers.items (model.Patched q (placed_patches (from_at c.arrive_in.new.buffers.items (c.from-index.result - 1) q) (map patch_value ps)) ∷ []))
    brought in
    record {
      buffers = arrives_placed bs c.arrive_in.new.buffers.items c.patch_in.new.buffers.items (c.from-index.result - 1) q (from_of setup c.args.place) c.args.position image
          given inside from_is c.requires.taken.id (omega (arith, position)) c.arrive_in.ensures.after patched
          ∙ ap (λ (payload : List ℕ). buffers_after (buffers_after bs (arrivals_of (record image { chunk_id = c.args.position; payload = payload }))) (model.Patched q patches ∷ [])) c.deref.ensures.value;
      counts = search rules;
      fields = record { layout = refl; specs = refl; writers = refl; session = refl };
    }

pub returns-clause-told : goal.returns-clause-told
returns-clause-told g c world is = c.release.ensures.told _ (c.note_patches.ensures.told _ (c.note.ensures.told world is))
