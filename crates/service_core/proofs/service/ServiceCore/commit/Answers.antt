use Rattle.std.proofs.Common.{◌≡◌, ◌+◌, ◌-◌, ◌∙◌, ◌<◌, ℕ, [], ◌∷◌, length, map, subst, sym, refl, ap, arith}
use Rattle.page_geometry.specs.Sizes.{record_size}
use Rattle.trace_model.specs.History as model
use Rattle.trace_model.specs.Ids.{placed_image, placed_patches}
use Rattle.trace_model.specs.History.{buffers_after}
use Rattle.trace_model.specs.Arrivals.{image_arrival_of}
use Rattle.chunk_image.specs.Values.{image_value}
use Rattle.commit_body.specs.Patches.{patch_value}
use Rattle.chunk_plain.specs.Steps.{notes_commit}
use Rattle.chunk_plain.specs.Views.{Committed, ServiceView}
use Rattle.chunk_plain.specs.Setup.{from_of}
use Rattle.service_core.specs.Routing.{IsAt, buffer_at, from_at}
use Rattle.service_core.specs.Agreement.{ServiceAgrees}
use Rattle.service_core.proofs.AgreeLemmas.{notes_begin}
use Rattle.service_core.proofs.KeptLemmas.{found_at, from_in_sequence}
use Rattle.service_core.proofs.RoutedLemmas.{keeps_open}
use Rattle.service_core.proofs.CloseLemmas.{agrees_committed}
use Rattle.service_core.proofs.service.ServiceCore.commit.Goals as goal

pub commit_in-arrived-requires-clause-at : goal.commit_in-arrived-requires-clause-at
commit_in-arrived-requires-clause-at g c =
    let setup = g.W.Words.means.setup c.args.table.now in
    let view = g.W.Words.means.service_view c.args.table.now c.args.self.now.seat in
    let core = c.args.self.now in
    let sequence = c.args.image.now.sequence in
    let place = sequence - 2 in
    let least = c.requires.image.least in
    let most = c.requires.image.most in
    let inside : place < length setup.writers = omega (arith, least, most) in
    let back : place + 2 ≡ sequence = omega (arith, least) in
    let at = found_at setup view core place c.requires.serves.agrees inside c.index.result.now c.from.result c.index.ensures (c.from.ensures ∙ sym c.if-buffer-target.false) in
    let sized = subst (λ (n : ℕ). IsAt core.buffers.items (c.from.result - 1) (place + 2) (record_size n)) (sym c.requires.image.size) at in
    subst (λ (q : ℕ). IsAt core.buffers.items (c.from.result - 1) q (record_size (length c.args.image.now.payload.now))) back sized

pub returns-clause-leaves : goal.returns-clause-leaves
returns-clause-leaves g c =
    let setup = g.W.Words.means.setup c.args.table.now in
    let view = g.W.Words.means.service_view c.args.table.now c.args.self.now.seat in
    let core = c.args.self.now in
    let done = record core { seat = c.note_commit.new.seat; buffers = c.commit_in-arrived.new.buffers } in
    let place = c.args.image.now.sequence - 2 in
    let from = from_of setup place in
    let image = image_value c.args.image.now in
    let patches = map patch_value c.args.patches.now in
    let one : Committed = record { image = placed_image from image; patches = placed_patches from patches } in
    let least = c.requires.image.least in
    let back : place + 1 + 1 ≡ c.args.image.now.sequence = omega (arith, least) in
    let behind : place + 2 ≡ c.args.image.now.sequence = omega (arith, least) in
    let most = c.requires.image.most in
    let inside : place < length setup.writers = omega (arith, least, most) in
    let came = from_in_sequence setup view core place c.requires.serves.agrees inside c.index.result.now c.from.result c.args.image.now.sequence c.index.ensures (c.from.ensures ∙ sym c.if-buffer-target.false) behind in
    let before : place + 1 - 1 ≡ place = omega arith in
    let noted = c.note_commit.ensures.view
    ∙ ap (λ (p : ℕ). notes_commit view (record { image = placed_image (from_of setup p) (record image { sequence = place + 1 + 1 }); patches = placed_patches (from_of setup p) patches })) before
    ∙ ap (λ (q : ℕ). notes_commit view (record { image = placed_image from (record image { sequence = q }); patches = placed_patches from patches })) back in
    let event = model.Committed (placed_image (from_at core.buffers.items (c.from.result - 1) c.args.image.now.sequence) image)
    (placed_patches (from_at core.buffers.items (c.from.result - 1) c.args.image.now.sequence) patches) in
    record {
      service = record {
        agrees = subst (λ (v : ServiceView). ServiceAgrees setup v done) (sym noted)
            (agrees_committed setup view core done one c.requires.serves.agrees (record { layout = refl; specs = refl; writers = refl; session = refl })
            (c.commit_in-arrived.ensures.after ∙ ap (λ (n : ℕ). buffers_after core.buffers.items (model.Committed (placed_image n image) (placed_patches n patches) ∷ [])) came) refl);
        keeps = keeps_open setup view core done (event ∷ []) c.requires.serves.agrees (record { layout = refl; specs = refl; writers = refl; session = refl }) c.commit_in-arrived.ensures.after (refl, tt);
        step = c.note_commit.ensures.step;
      };
      told = c.note_commit.ensures.told;
    }

pub returns-then-buffer-target-clause-leaves : goal.returns-then-buffer-target-clause-leaves
returns-then-buffer-target-clause-leaves g c =
    notes_begin c.requires.serves (λ world is. g.met.W.Words.told_service_view c.args.table.now c.args.self.now.seat world is c.requires.serves.serves)

pub returns-clause-outcome : goal.returns-clause-outcome
returns-clause-outcome g c named =
    let setup = g.W.Words.means.setup c.args.table.now in
    let view = g.W.Words.means.service_view c.args.table.now c.args.self.now.seat in
    let core = c.args.self.now in
    let place = c.args.image.now.sequence - 2 in
    let least = c.requires.image.least in
    let back : place + 2 ≡ c.args.image.now.sequence = omega (arith, least) in
    let most = c.requires.image.most in
    let inside : place < length setup.writers = omega (arith, least, most) in
    let came = from_in_sequence setup view core place c.requires.serves.agrees inside c.index.result.now c.from.result c.args.image.now.sequence c.index.ensures (c.from.ensures ∙ sym c.if-buffer-target.false) back in
    c.commit_in-arrived.ensures.outcome
    ∙ ap (λ (n : ℕ). image_arrival_of (buffer_at core.buffers.items (c.from.result - 1)) (placed_image n (image_value c.args.image.now))) came
    ∙ ap (λ (b : ℕ). image_arrival_of (buffer_at core.buffers.items (b - 1)) (placed_image (from_of setup place) (image_value c.args.image.now))) c.from.ensures

pub returns-clause-noted : goal.returns-clause-noted
returns-clause-noted g c named =
    let setup = g.W.Words.means.setup c.args.table.now in
    let view = g.W.Words.means.service_view c.args.table.now c.args.self.now.seat in
    let place = c.args.image.now.sequence - 2 in
    let image = image_value c.args.image.now in
    let patches = map patch_value c.args.patches.now in
    let least = c.requires.image.least in
    let back : place + 1 + 1 ≡ c.args.image.now.sequence = omega (arith, least) in
    let before : place + 1 - 1 ≡ place = omega arith in
    c.note_commit.ensures.view
    ∙ ap (λ (p : ℕ). notes_commit view (record { image = placed_image (from_of setup p) (record image { sequence = place + 1 + 1 }); patches = placed_patches (from_of setup p) patches })) before
    ∙ ap (λ (q : ℕ). notes_commit view (record { image = placed_image (from_of setup place) (record image { sequence = q }); patches = placed_patches (from_of setup place) patches })) back
