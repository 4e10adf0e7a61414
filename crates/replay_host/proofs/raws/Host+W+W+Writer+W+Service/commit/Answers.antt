-- A commit is one act of the service.
use Rattle.std.proofs.Common.{◌≡◌, ◌≢◌, ◌∙◌, ℕ, ◌+◌, ◌-◌, List, ◌++◌, length, map, replicate, take, get_or, refl, sym, ap, arith}
use Rattle.trace_model.specs.Arrivals.{image_arrival_of}
use Rattle.trace_model.specs.Buffers.{Buffer}
use Rattle.trace_model.specs.Ids.{placed_image}
use Rattle.trace_model.specs.Images.{Image}
use Rattle.commit_body.specs.Patches.{patch_value}
use Rattle.trace_buffer.specs.Answers.{arrived_value}
use Rattle.chunk_plain.specs.Setup.{Setup, from_of, producer_of}
use Rattle.chunk_plain.specs.Steps.{notes_commit}
use Rattle.chunk_plain.specs.Views.{Committed, ServiceView}
use Rattle.world_model.specs.FirstBuffers.{payload_at}
use Rattle.scenario_text.specs.RawChunks.{AskedChunk}
use Rattle.service_core.specs.Agreement.{buffer_of}
use Rattle.service_core.specs.Routing.{buffer_at}
use Rattle.loss_report.specs.declared.raws.RawAnswer.TheVariants as raw
use Rattle.loss_report.specs.Raws.{answer_of}
use Rattle.replay_model.specs.Raws.{raw_commit, raw_image, raw_patches}
use Rattle.replay_model.proofs.ShutLemmas.{open_is}
use Rattle.replay_host.proofs.CommitLemmas.{buffer_named, committed_done, commit_is, image_is, named_producer, patches_are, refused_done, target_is}
use Rattle.replay_host.proofs.RowLemmas.{AreLaws}
use Rattle.replay_host.proofs.ServedLemmas.{served_stands, served_is, opened_still}
use Rattle.replay_host.proofs.raws.Host+W+W+Writer+W+Service.commit.Goals as goal

pub put-size-requires-clause-most : goal.put-size-requires-clause-most
put-size-requires-clause-most g c =
    let setup : Setup = g.W.Words.means.setup c.args.self.now.table in
    let producer =
    named_producer setup c.args.self.now.specs.items c.args.place c.index.result.now c.requires.host.specs
    c.requires.may.below c.index.ensures in
    let sizes = ap (λ (ns : List ℕ). length ns) c.requires.room.sizes_are in
    let sized = c.requires.may.sized in
    omega (arith, producer, sizes, sized)

pub returns-in-Ok-clause-leaves : goal.returns-in-Ok-clause-leaves
returns-in-Ok-clause-leaves g c =
    let means = g.W.Words.means in
    let was = c.requires.host in
    let old = c.args.self.now in
    let call = c.commit in
    let step = call.ensures.leaves.service.step in
    let served = served_is means old.table call.new.table old.helper.service call.new.self was.stands.served step call.ensures.leaves.service.agrees in
    let stands = served_stands means old.table call.new.table old.writers.items old.helper.service call.new.self was.stands step served in
    record {
      host = opened_still means old _ was stands step.setup_stays call.ensures.leaves.service.keeps refl refl;
      writers = record {
        writers = refl;
        flushes = refl;
        specs = refl;
        views = λ place core at. (c.commit.ensures.leaves.service.step.writers_stay core.seat (c.requires.host.stands.seated place core at).sits).1;
      };
      opened = refl;
      session = c.commit.ensures.leaves.service.keeps.fields.session;
    }

pub returns-in-Ok-clause-done : goal.returns-in-Ok-clause-done
returns-in-Ok-clause-done g c taken =
    let means = g.W.Words.means in
    let laws : AreLaws means = record {
      told_view = g.met.W.Words.told_view;
      told_service_view = g.met.W.Words.told_service_view;
      told_writers = g.met.W.Words.told_writers;
      told_owned = g.met.W.Words.told_owned;
    } in
    let was = c.requires.host in
    let old = c.args.self.now in
    let call = c.commit in
    let header = c.header-header in
    let setup : Setup = means.setup old.table in
    let place : ℕ = c.args.place in
    let chunk : AskedChunk = c.args.chunk.now in
    let here : place + 2 - 2 ≡ place = omega arith in
    let producer = named_producer setup old.specs.items place c.index.result.now was.specs c.requires.may.below c.index.ensures in
    let size : c.put-size.result ≡ payload_at setup place =
    c.put-size.ensures.size ∙ ap (λ (ns : List ℕ). get_or ns (c.index.result.now.producer - 1) 0) c.requires.room.sizes_are
    ∙ ap (λ (p : ℕ). get_or setup.sizes (p - 1) 0) producer in
    let payload : take c.put-size.result c.deref.result.now ≡ chunk.payload ++ replicate (payload_at setup place - length chunk.payload) 0 =
    ap (λ (bs : List ℕ). take c.put-size.result bs) c.deref.ensures.value ∙ c.put-size.ensures.payload
    ∙ ap (λ (n : ℕ). chunk.payload ++ replicate (n - length chunk.payload) 0) size in
    let shown : Image = record {
      sequence = place + 2;
      chunk_id = header.result.chunk_id;
      count = header.result.count;
      flags = header.result.flags;
      payload = take c.put-size.result c.deref.result.now;
    } in
    let image : shown ≡ raw_image setup place chunk =
    image_is setup place chunk shown.sequence shown.chunk_id shown.count shown.flags shown.payload refl
    header.ensures.chunk_id header.ensures.count header.ensures.flags payload in
    let patches =
    patches_are c.patch_given-patch.result c.as_slice.result.now (raw_patches header.result.patch) c.patch_given-patch.ensures
    c.as_slice.ensures
    ∙ ap raw_patches header.ensures.patch in
    let named : ℕ = place + 2 - 2 in
    let commit = commit_is setup place named chunk shown (map patch_value c.as_slice.result.now) here image patches in
    let own : buffer_of setup named ≡ header.result.buffer =
    target_is (buffer_of setup named) header.result.buffer call.result c.in-Ok.arrived c.in-Ok.is (λ apart. (call.ensures.wrong apart).0) in
    let target : buffer_of setup place ≡ chunk.buffer = ap (λ (p : ℕ). buffer_of setup p) (sym here) ∙ own ∙ header.ensures.buffer in
    let before : ServiceView = means.service_view old.table old.helper.service.seat in
    let noted : means.service_view call.new.table call.new.self.seat ≡ notes_commit before (raw_commit setup place chunk) =
    call.ensures.noted own ∙ ap (λ (one : Committed). notes_commit before one) commit in
    let buffers : List Buffer = old.helper.service.buffers.items in
    let arrived : arrived_value c.in-Ok.arrived
    ≡ image_arrival_of (buffer_at buffers (header.result.buffer - 1)) (placed_image (from_of setup named) shown) =
    c.in-Ok.ensures.outcome own in
    let answer : c.from.result ≡ answer_of (image_arrival_of (buffer_at buffers (chunk.buffer - 1)) (raw_commit setup place chunk).image) =
    sym c.from.ensures ∙ ap answer_of (arrived
    ∙ ap (λ (n : ℕ). image_arrival_of (buffer_at buffers (n - 1)) (placed_image (from_of setup named) shown)) header.ensures.buffer
    ∙ ap (λ (one : Committed). image_arrival_of (buffer_at buffers (chunk.buffer - 1)) one.image) commit) in
    let may = c.requires.may in
    let agrees = was.stands.served.agrees in
    let opened = open_is setup before old.helper.service (producer_of setup place) agrees
    (was.opened (producer_of setup place) (agrees.routed.producers place may.below) c.requires.open) place may.below refl in
    committed_done means laws place chunk old _ was.stands.served opened call.ensures.leaves.service.step call.ensures.leaves.service.keeps target noted call.ensures.leaves.told
    c.from.result answer taken

pub returns-in-Err-clause-leaves : goal.returns-in-Err-clause-leaves
returns-in-Err-clause-leaves g c =
    let means = g.W.Words.means in
    let was = c.requires.host in
    let old = c.args.self.now in
    let call = c.commit in
    let step = call.ensures.leaves.service.step in
    let served = served_is means old.table call.new.table old.helper.service call.new.self was.stands.served step call.ensures.leaves.service.agrees in
    let stands = served_stands means old.table call.new.table old.writers.items old.helper.service call.new.self was.stands step served in
    record {
      host = opened_still means old _ was stands step.setup_stays call.ensures.leaves.service.keeps refl refl;
      writers = record {
        writers = refl;
        flushes = refl;
        specs = refl;
        views = λ place core at. (c.commit.ensures.leaves.service.step.writers_stay core.seat (c.requires.host.stands.seated place core at).sits).1;
      };
      opened = refl;
      session = c.commit.ensures.leaves.service.keeps.fields.session;
    }

pub returns-in-Err-clause-done : goal.returns-in-Err-clause-done
returns-in-Err-clause-done g c taken =
    let means = g.W.Words.means in
    let laws : AreLaws means = record {
      told_view = g.met.W.Words.told_view;
      told_service_view = g.met.W.Words.told_service_view;
      told_writers = g.met.W.Words.told_writers;
      told_owned = g.met.W.Words.told_owned;
    } in
    let old = c.args.self.now in
    let call = c.commit in
    let setup : Setup = means.setup old.table in
    let place : ℕ = c.args.place in
    let named : ℕ = place + 2 - 2 in
    let here : named ≡ place = omega arith in
    let buffer : c.header-header.result.buffer ≡ c.args.chunk.now.buffer = c.header-header.ensures.buffer in
    let apart : buffer_of setup named ≢ c.header-header.result.buffer = λ same. c.in-Err.ensures.outcome same in
    let wrong = call.ensures.wrong apart in
    let target : buffer_of setup place ≢ c.args.chunk.now.buffer =
    λ same. apart (ap (λ (p : ℕ). buffer_of setup p) here ∙ same ∙ sym buffer) in
    let own : c.in-Err.field-0.buffer ≡ buffer_of setup place =
    buffer_named (buffer_of setup named) call.result c.in-Err.field-0 c.in-Err.is wrong.0 ∙ ap (λ (p : ℕ). buffer_of setup p) here in
    let may = c.requires.may in
    let agrees = c.requires.host.stands.served.agrees in
    let opened = open_is setup (means.service_view old.table old.helper.service.seat) old.helper.service (producer_of setup place) agrees
    (c.requires.host.opened (producer_of setup place) (agrees.routed.producers place may.below) c.requires.open) place may.below refl in
    refused_done means laws place c.args.chunk.now old _ c.requires.host.stands.served opened wrong.2 wrong.1 target _
    (ap raw.WrongTarget own) taken
