use Rattle.std.proofs.Common.{◌+◌, ℕ, [], ◌∷◌, subst, sym, refl}
use Rattle.page_geometry.specs.Sizes.{record_size}
use Rattle.chunk_plain.specs.Setup.{size_of, producer_of}
use Rattle.chunk_plain.specs.Views.{Closed, ServiceView}
use Rattle.service_core.specs.Agreement.{ServiceAgrees}
use Rattle.service_core.proofs.KeptLemmas.{found_at}
use Rattle.service_core.proofs.CloseLemmas.{agrees_noted, closes_here, closes_there, order_closed}
use Rattle.service_core.proofs.service.ServiceCore.close_writer.Goals as goal

pub close_in-requires-clause-at : goal.close_in-requires-clause-at
close_in-requires-clause-at g c =
    let setup = g.W.Words.means.setup c.args.table.now in
    let view = g.W.Words.means.service_view c.args.table.now c.args.self.now.seat in
    let core = c.args.self.now in
    let place = c.args.place in
    let size : ℕ = record_size (size_of setup (producer_of setup place)) in
    (size, found_at setup view core place c.requires.writer.service.agrees c.requires.writer.inside c.index.result.now c.from-index.result c.index.ensures c.from-index.ensures)

pub returns-clause-agrees : goal.returns-clause-agrees
returns-clause-agrees g c =
    let setup = g.W.Words.means.setup c.args.table.now in
    let view = g.W.Words.means.service_view c.args.table.now c.args.self.now.seat in
    let core = c.args.self.now in
    let done = record core { seat = c.note.new.seat; buffers = c.close_in.new.buffers } in
    subst (λ (v : ServiceView). ServiceAgrees setup v done) (sym c.note.ensures.view)
    (agrees_noted setup view core done (Closed (c.args.place + 2) ∷ []) c.requires.writer.service.agrees (record { layout = refl; specs = refl; writers = refl; session = refl }) c.close_in.ensures refl (tt, tt)
    (λ other inside none. order_closed setup view core done c.args.place c.requires.writer.service.agrees c.requires.writer.is_open c.close_in.ensures other inside))

pub returns-clause-closes : goal.returns-clause-closes
returns-clause-closes g c =
    let setup = g.W.Words.means.setup c.args.table.now in
    let view = g.W.Words.means.service_view c.args.table.now c.args.self.now.seat in
    let core = c.args.self.now in
    let done = record core { seat = c.note.new.seat; buffers = c.close_in.new.buffers } in
    record {
      fields = record { layout = refl; specs = refl; writers = refl; session = refl };
      closed = closes_here setup view core done c.args.place c.requires.writer.service.agrees c.requires.writer.inside c.close_in.ensures;
      others = λ other inside differs. closes_there setup view core done c.args.place other c.requires.writer.service.agrees inside differs c.close_in.ensures;
    }
