use Rattle.std.proofs.Common.{◌≡◌, ◌∙◌, ◌+◌, ◌-◌, ◌%◌, ◌<◌, ℕ, List, [], ◌∷◌, length, subst, sym, refl, ap, arith}
use Rattle.std.specs.Prelude.{bit_and}
use Rattle.std.proofs.lemmas.Nat.{and_mask}
use Rattle.page_geometry.specs.Sizes.{record_size}
use Rattle.trace_model.specs.Fragments.{drop_size}
use Rattle.trace_model.specs.Images.{Image}
use Rattle.trace_model.specs.Ids.{placed_image}
use Rattle.trace_model.proofs.NamingLemmas.{image_placed}
use Rattle.trace_model.specs.History.{buffers_after}
use Rattle.chunk_plain.specs.declared.setup.Spot.{Spot}
use Rattle.chunk_plain.specs.Setup.{Setup, spot, producer_of, from_of, id_at}
use Rattle.chunk_plain.specs.Words.{ShowsFound}
use Rattle.chunk_plain.specs.Views.{Partial, ServiceView}
use Rattle.chunk_plain.proofs.SeatSteps.{services_follow}
use Rattle.service_core.specs.Routing.{IsAt, from_at, partial_arrivals_of}
use Rattle.service_core.specs.Order.{IsFoundPart}
use Rattle.service_core.specs.Agreement.{ServiceAgrees}
use Rattle.service_core.specs.Taking.{noted_more}
use Rattle.service_core.proofs.KeptLemmas.{read_count, found_at, from_here}
use Rattle.service_core.proofs.RoutedLemmas.{keeps_open}
use Rattle.service_core.proofs.ScrapeLemmas.{no_closes, part_found, agrees_part}
use Rattle.service_core.proofs.service.ServiceCore.put_part.Goals as goal
use Rattle.service_core.specs.Scraping.{PartLooked}

pub arrive_part_in-requires-clause-at : goal.arrive_part_in-requires-clause-at
arrive_part_in-requires-clause-at g c =
    let setup = g.W.Words.means.setup c.args.table.now in
    let view = g.W.Words.means.service_view c.args.table.now c.args.self.now.seat in
    let core = c.args.self.now in
    let place = c.args.place in
    let laid = g.met.W.Words.laid c.args.table.now in
    let here = c.spot-size.ensures.spot ∙ ap (λ (s : Setup). spot s c.args.chunk) c.requires.writer.service.agrees.layout in
    let size_is = c.front.ensures.long ∙ ap (λ (s : Spot). s.payload_size) here ∙ laid.sizes (producer_of setup place) c.args.chunk c.requires.chunk in
    subst (λ (n : ℕ). IsAt core.buffers.items (c.from-index.result - 1) (place + 2) (record_size n)) (sym size_is)
    (found_at setup view core place c.requires.writer.service.agrees c.requires.writer.inside c.index.result.now c.from-index.result c.index.ensures c.from-index.ensures)

pub returns-clause-leaves : goal.returns-clause-leaves
returns-clause-leaves g c =
    let means = g.W.Words.means in
    let setup = g.W.Words.means.setup c.args.table.now in
    let old = g.W.Words.means.service_view c.args.table.now c.args.self.now.seat in
    let core = c.args.self.now in
    let done = record core { seat = c.note.new.seat; buffers = c.arrive_part_in.new.buffers; room = c.load.new.self } in
    let place = c.args.place in
    let laid = g.met.W.Words.laid c.args.table.now in
    let range = laid.ranges (producer_of setup place) in
    let own = c.requires.chunk in
    let least = own.least in
    let below = own.below in
    let here = c.spot-size.ensures.spot ∙ ap (λ (s : Setup). spot s c.args.chunk) c.requires.writer.service.agrees.layout in
    let most = laid.most c.args.chunk (omega (arith, range, below)) in
    let long = c.front.ensures.long ∙ ap (λ (s : Spot). s.payload_size) here in
    let small : length c.front.result.now < drop_size = omega (arith, long, most) in
    let shows = subst (λ (bytes : List ℕ). ShowsFound old c.args.chunk bytes) (sym c.front.ensures.bytes) c.load.ensures.found in
    let mask : bit_and c.args.header.flags 1 ≡ c.args.header.flags % 2 = and_mask c.args.header.flags 1 in
    let front : bit_and c.args.header.flags 1 % 2 ≡ c.args.header.flags % 2 = omega (arith, mask) in
    let position = c.index-position.result.now in
    let counted = read_count setup old core place c.requires.writer.service.agrees c.requires.writer.inside position c.index-position.ensures in
    let looked = subst (λ (n : ℕ). PartLooked old c.args.chunk place n c.args.finished c.args.header.flags) (sym counted) c.requires.part.looked in
    let image : Image = record { sequence = place + 2; chunk_id = c.args.header.chunk_id; count = c.args.finished; flags = bit_and c.args.header.flags 1; payload = c.front.result.now } in
    let placed : placed_image (from_at core.buffers.items (c.from-index.result - 1) (place + 2)) image ≡ record image { chunk_id = position } =
    ap (λ (n : ℕ). placed_image n image) (from_here setup old core place c.requires.writer.service.agrees c.requires.writer.inside c.index.result.now c.from-index.result c.index.ensures c.from-index.ensures)
    ∙ image_placed (from_of setup place) position image (c.requires.part.id ∙ ap (id_at setup place) (sym counted)) (omega arith) in
    let after = c.arrive_part_in.ensures.after ∙ ap (λ (i : Image). buffers_after core.buffers.items (partial_arrivals_of i)) placed in
    let bytes = placed_image (from_at core.buffers.items (c.from-index.result - 1) (place + 2)) image in
    record {
      service = record {
        agrees = subst (λ (v : ServiceView). ServiceAgrees setup v done) (sym (c.note.ensures.view ∙ (ap (λ (n : ℕ). noted_more (g.W.Words.means.service_view c.load.new.table c.load.new.seat) (Partial (place + 2) c.index-position.result.now n ∷ [])) c.from-limit.ensures
            ∙ ap (λ (v : ServiceView). noted_more v (Partial (place + 2) c.index-position.result.now c.args.finished ∷ [])) c.load.ensures.view)))
            (agrees_part setup old core done place c.args.chunk position c.args.finished c.args.header.flags (bit_and c.args.header.flags 1) c.front.result.now
            c.requires.writer.service.agrees (g.met.W.Words.looks_agree c.args.table.now core.seat c.requires.writer.service.serves) looked
            (record { layout = refl; specs = refl; writers = refl; session = refl }) c.requires.writer.is_open counted c.requires.part.some front shows small after refl);
        keeps = keeps_open setup old core done (partial_arrivals_of bytes) c.requires.writer.service.agrees (record { layout = refl; specs = refl; writers = refl; session = refl })
            c.arrive_part_in.ensures.after (no_closes bytes);
        step = services_follow means c.args.table.now core.seat c.load.new.table c.load.new.seat c.note.new.self c.note.new.seat c.load.ensures.step c.note.ensures.step;
      };
      told = λ world is. c.note.ensures.told _ (c.load.ensures.told world is);
    }

pub returns-clause-view : goal.returns-clause-view
returns-clause-view g c =
    let setup = g.W.Words.means.setup c.args.table.now in
    let old = g.W.Words.means.service_view c.args.table.now c.args.self.now.seat in
    let place = c.args.place in
    let position = c.index-position.result.now in
    let counted = read_count setup old c.args.self.now place c.requires.writer.service.agrees c.requires.writer.inside position c.index-position.ensures in
    c.note.ensures.view ∙ (ap (λ (n : ℕ). noted_more (g.W.Words.means.service_view c.load.new.table c.load.new.seat) (Partial (place + 2) position n ∷ [])) c.from-limit.ensures
    ∙ (ap (λ (v : ServiceView). noted_more v (Partial (place + 2) position c.args.finished ∷ [])) c.load.ensures.view
    ∙ ap (λ (n : ℕ). noted_more old (Partial (place + 2) n c.args.finished ∷ [])) counted))

pub returns-clause-part : goal.returns-clause-part
returns-clause-part g c =
    let setup = g.W.Words.means.setup c.args.table.now in
    let old = g.W.Words.means.service_view c.args.table.now c.args.self.now.seat in
    let core = c.args.self.now in
    let place = c.args.place in
    let position = c.index-position.result.now in
    let counted = read_count setup old core place c.requires.writer.service.agrees c.requires.writer.inside position c.index-position.ensures in
    let looked = subst (λ (n : ℕ). PartLooked old c.args.chunk place n c.args.finished c.args.header.flags) (sym counted) c.requires.part.looked in
    subst (λ (n : ℕ). IsFoundPart (g.W.Words.means.service_view c.note.new.self c.note.new.seat) (place + 2) n c.args.finished) counted
    (subst (λ (v : ServiceView). IsFoundPart v (place + 2) position c.args.finished)
    (sym (c.note.ensures.view ∙ (ap (λ (n : ℕ). noted_more (g.W.Words.means.service_view c.load.new.table c.load.new.seat) (Partial (place + 2) position n ∷ [])) c.from-limit.ensures
    ∙ ap (λ (v : ServiceView). noted_more v (Partial (place + 2) position c.args.finished ∷ [])) c.load.ensures.view)))
    (part_found setup old core core place c.args.chunk position c.args.finished c.args.header.flags (bit_and c.args.header.flags 1) c.front.result.now
    c.requires.writer.service.agrees (g.met.W.Words.looks_agree c.args.table.now core.seat c.requires.writer.service.serves) looked c.requires.part.some))
