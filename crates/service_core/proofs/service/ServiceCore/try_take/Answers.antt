use Rattle.std.proofs.Common.{◌≡◌, ◌+◌, ◌-◌, ◌∙◌, ℕ, [], ◌∷◌, set, subst, sym, refl, ap, vec_len, arith}
use Rattle.chunk_plain.specs.Setup.{Setup, producer_of, id_at}
use Rattle.chunk_plain.specs.Views.{ServiceView, taken_of}
use Rattle.service_core.proofs.ToldLemmas.{frees_one, frees_none}
use Rattle.chunk_plain.specs.Words.{taken_content}
use Rattle.chunk_plain.proofs.SeatSteps.{services_follow}
use Rattle.chunk_plain.specs.Steps.{lets_go}
use Rattle.service_core.specs.Routing.{arrivals_of}
use Rattle.service_core.specs.Agreement.{ServiceAgrees, KeepsFields}
use Rattle.service_core.proofs.KeptLemmas.{has_place, has_route}
use Rattle.service_core.proofs.TakingLemmas.{one_of, other_of, lacks_of}
use Rattle.service_core.proofs.AgreeLemmas.{agrees_took, looks_on}
use Rattle.service_core.proofs.RoutedLemmas.{closed_stays}
use Rattle.service_core.proofs.service.ServiceCore.try_take.Goals as goal
use Rattle.service_core.specs.Taking.{HasRoute, TakesOne, takings, noted_more}
use Rattle.trace_model.specs.History as model
use Rattle.trace_model.specs.History.{buffers_after}

-- the writer's chunks can be put in; the table has the set-up that it had before the chunk was taken
pub take_in-requires-clause-route : goal.take_in-requires-clause-route
take_in-requires-clause-route g c =
    let setup = g.W.Words.means.setup c.args.table.now in
    let view = g.W.Words.means.service_view c.args.table.now c.args.self.now.seat in
    let core = c.args.self.now in
    let place = c.args.place in
    let laid = g.met.W.Words.laid c.args.table.now in
    let size_is = c.in-Ok.ensures.taken.whole ∙ laid.sizes (producer_of setup place) c.args.chunk c.requires.chunk in
    subst (λ (s : Setup). HasRoute s (record core { seat = c.take.new.seat }) place (vec_len c.in-Ok.taken.body.payload)) (sym c.in-Ok.ensures.step.setup_stays)
    (has_route setup view core place c.requires.writer.service.agrees c.requires.writer.inside c.take.new.seat (vec_len c.in-Ok.taken.body.payload) size_is c.requires.writer.is_open)

-- all else that was taken has arrived
pub take_in-requires-clause-lacks : goal.take_in-requires-clause-lacks
take_in-requires-clause-lacks g c =
    let setup = g.W.Words.means.setup c.args.table.now in
    let old = g.W.Words.means.service_view c.args.table.now c.args.self.now.seat in
    let mid = g.W.Words.means.service_view c.take.new.self c.take.new.seat in
    let agrees = c.requires.writer.service.agrees in
    let inside = has_place setup old c.args.self.now c.args.place agrees c.requires.writer.inside in
    lacks_of setup old mid c.args.place c.args.chunk c.id_at-id.result c.args.position c.in-Ok.taken inside c.requires.next c.in-Ok.ensures.taken
    agrees.arrived

-- the chunk is put in as a content of the set-up before
buffers_put : (g : _) (c : goal.After-take_in g) → c.take_in.new.self.buffers.items
    ≡ buffers_after (buffers_after c.args.self.now.buffers.items (arrivals_of (taken_content (g.W.Words.means.setup c.args.table.now) c.args.place c.args.position c.in-Ok.taken).image))
    (model.Patched (c.args.place + 2) (taken_content (g.W.Words.means.setup c.args.table.now) c.args.place c.args.position c.in-Ok.taken).patches ∷ [])
buffers_put g c =
    c.take_in.ensures.puts.buffers
    ∙ ap (λ (s : Setup). buffers_after (buffers_after c.args.self.now.buffers.items (arrivals_of (taken_content s c.args.place c.args.position c.in-Ok.taken).image)) (model.Patched (c.args.place + 2) (taken_content s c.args.place c.args.position c.in-Ok.taken).patches ∷ []))
    c.in-Ok.ensures.step.setup_stays

-- and is one more of its writer
took_one : (g : _) (c : goal.After-take_in g) → TakesOne c.args.place (g.W.Words.means.service_view c.args.table.now c.args.self.now.seat) (g.W.Words.means.service_view c.take_in.new.table c.take_in.new.self.seat)
took_one g c =
    let setup = g.W.Words.means.setup c.args.table.now in
    let old = g.W.Words.means.service_view c.args.table.now c.args.self.now.seat in
    let mid = g.W.Words.means.service_view c.take.new.self c.take.new.seat in
    let new = g.W.Words.means.service_view c.take_in.new.table c.take_in.new.self.seat in
    let place = c.args.place in
    let position = c.args.position in
    let agrees = c.requires.writer.service.agrees in
    let inside = has_place setup old c.args.self.now place agrees c.requires.writer.inside in
    let after = c.take_in.ensures.view
    ∙ ap (λ (s : Setup). lets_go (noted_more mid (takings (place + 2) position (taken_content s place position c.in-Ok.taken ∷ []))) c.in-Ok.taken.chunk)
    c.in-Ok.ensures.step.setup_stays in
    let one = one_of setup old mid new place c.args.chunk c.id_at-id.result position c.in-Ok.taken agrees.none_read inside c.requires.next c.in-Ok.ensures.taken after in
    record { look = one.0; content = taken_content setup place position c.in-Ok.taken; view = one.1 }

pub returns-in-Ok-clause-leaves : goal.returns-in-Ok-clause-leaves
unfolding took_one
returns-in-Ok-clause-leaves g c =
    let means = g.W.Words.means in
    let setup = means.setup c.args.table.now in
    let old = means.service_view c.args.table.now c.args.self.now.seat in
    let core = c.args.self.now in
    let done = c.take_in.new.self in
    let place = c.args.place in
    let agrees = c.requires.writer.service.agrees in
    let inside = has_place setup old core place agrees c.requires.writer.inside in
    let count = c.requires.next in
    let content = taken_content setup place c.args.position c.in-Ok.taken in
    let one = took_one g c in
    let fields = c.take_in.ensures.puts.fields in
    let kept : KeepsFields core done = record { layout = fields.layout; specs = fields.specs; writers = fields.writers; session = fields.session } in
    let level = (g.met.W.Words.serving c.args.table.now core.seat c.requires.writer.service.serves).level place in
    record {
      agrees = subst (λ (v : ServiceView). ServiceAgrees setup v done) (sym one.view)
          (agrees_took setup old core done place (one.look ∷ []) content agrees kept inside c.requires.writer.is_open level refl count (buffers_put g c)
          (c.take_in.ensures.puts.counts ∙ ap (λ (n : ℕ). set core.taken.items place (n + 1)) count));
      keeps = record { fields = kept; closed = λ other below. closed_stays setup old core done other content.image (place + 2) content.patches agrees (buffers_put g c) below };
      step = services_follow means c.args.table.now core.seat c.take.new.self c.take.new.seat c.take_in.new.table done.seat c.in-Ok.ensures.step c.take_in.ensures.step;
    }

pub returns-in-Ok-clause-taken : goal.returns-in-Ok-clause-taken
returns-in-Ok-clause-taken g c _ = record {
  takes = took_one g c;
  told = λ world is.
      let setup = g.W.Words.means.setup c.args.table.now in
      let old = g.W.Words.means.service_view c.args.table.now c.args.self.now.seat in
      let mid = g.W.Words.means.service_view c.take.new.self c.take.new.seat in
      let new = g.W.Words.means.service_view c.take_in.new.table c.take_in.new.self.seat in
      let place = c.args.place in
      let back : place + 1 - 1 ≡ place = omega arith in
      let told = c.in-Ok.ensures.told_taken world is in
      let same : (taken_of old (place + 1 - 1)).count ≡ (taken_of old place).count = ap (λ (p : ℕ). (taken_of old p).count) back in
      frees_one place (place + 1 - 1) (taken_of old place).count (taken_of old (place + 1 - 1)).count c.args.chunk c.in-Ok.taken.chunk
      (taken_content setup (place + 1 - 1) (taken_of old (place + 1 - 1)).count c.in-Ok.taken) world
      (g.W.Words.means.told c.take_in.new.table) mid new back same c.in-Ok.ensures.taken.chunk_is told.0 (c.take_in.ensures.told _ told.1);
}

pub returns-in-Err-clause-leaves : goal.returns-in-Err-clause-leaves
returns-in-Err-clause-leaves g c =
    looks_on g.W.Words.means c.args.table.now c.args.self.now c.take.new.self c.take.new.seat c.args.chunk c.in-Err.found.word.0 c.in-Err.found.header
    c.requires.writer.service c.in-Err.ensures.other.look c.in-Err.ensures.step

pub returns-in-Err-clause-other : goal.returns-in-Err-clause-other
returns-in-Err-clause-other g c _ =
    let setup = g.W.Words.means.setup c.args.table.now in
    let old = g.W.Words.means.service_view c.args.table.now c.args.self.now.seat in
    let new = g.W.Words.means.service_view c.take.new.self c.take.new.seat in
    let place = c.args.place in
    let named = c.id_at-id.ensures ∙ ap (λ (s : Setup). id_at s place c.args.position) c.requires.writer.service.agrees.layout ∙ ap (id_at setup place) c.requires.next in
    record {
      sees = other_of setup old new place c.args.chunk c.id_at-id.result c.in-Err.found named c.header_fits.ensures.id c.header_fits.ensures.writer c.in-Err.ensures.other;
      told = λ world is.
          let back : place + 1 - 1 ≡ place = omega arith in
          let same : (taken_of old (place + 1 - 1)).count ≡ (taken_of old place).count = ap (λ (p : ℕ). (taken_of old p).count) back in
          let told = c.in-Err.ensures.told_other world is in
          frees_none place (place + 1 - 1) (taken_of old place).count (taken_of old (place + 1 - 1)).count c.args.chunk world (g.W.Words.means.told c.take.new.self) new back same told.0 told.1;
    }
