use Rattle.std.proofs.Common.{◌<◌, ◌∙◌, length, subst, sym, ap, arith, None, rules, ◌≡◌, ℕ}
use Rattle.std.proofs.lemmas.Grind.{common_steps}
use Rattle.page_geometry.specs.Header.{packed}
use Rattle.chunk_plain.specs.Setup.{Setup, spot}
use Rattle.chunk_plain.specs.Words.{KeepsSealed, AllArrived, LacksArrival, taken_content}
use Rattle.chunk_plain.proofs.ArrivedLemmas.{takes_lacks}
use Rattle.chunk_plain.proofs.Holding.{takes_reads}
use Rattle.chunk_plain.proofs.LayingLemmas.{chunk_inside}
use Rattle.chunk_plain.specs.Views.{ServiceView, taken_of}
use Rattle.chunk_plain_rows.proofs.rounds.scrape_and_take.Goals as goal

pub finish-requires-clause-sealed : goal.finish-requires-clause-sealed
finish-requires-clause-sealed g c =
    let seat = c.write.new.seat in
    let sits = c.in_ok-held.ensures.step.seat_stays in
    let looked = c.look-seen.ensures.step.writers_stay seat sits in
    let loaded = c.load.ensures.step.writers_stay seat looked.0 in
    let same = loaded.1 ∙ looked.1 in
    subst (λ v. KeepsSealed v c.in_ok-held.held.position c.in_ok-held.held.body.payload.items) (sym same) c.in_ok-held.ensures.sealed

pub take-requires-clause-next : goal.take-requires-clause-next
take-requires-clause-next g c = record {
  inside = let setup_is = c.finish.ensures.step.setup_stays ∙ (c.load.ensures.step.setup_stays ∙ (c.look-seen.ensures.step.setup_stays ∙ c.in_ok-held.ensures.step.setup_stays)) in
      let laid = g.met.W.Words.laid c.args.table.now in
      let inside = chunk_inside (g.W.Words.means.setup c.args.table.now) _ c.args.chunk laid c.requires.chunk in
      subst (λ (s : Setup). c.args.chunk < length s.spots) (sym setup_is) inside;
  least = first_of (search rules, grind (arith, common_steps));
  most = first_of (search rules, grind (arith, common_steps));
  id_is = first_of (search rules, grind (arith, common_steps));
  none_read = first_of (search rules, grind (arith, common_steps));
}

pub first_six-requires : goal.first_six-requires
first_six-requires g c =
    let setup_is = c.finish.ensures.step.setup_stays ∙ (c.load.ensures.step.setup_stays ∙ (c.look-seen.ensures.step.setup_stays ∙ c.in_ok-held.ensures.step.setup_stays)) in
    let laid = g.met.W.Words.laid c.args.table.now in
    let inside = chunk_inside (g.W.Words.means.setup c.args.table.now) _ c.args.chunk laid c.requires.chunk in
    let least = laid.least c.args.chunk inside in
    let size = c.load.ensures.loads.size ∙ c.requires.size in
    omega (arith, size, least)

pub first_six-requires-2 : goal.first_six-requires-2
first_six-requires-2 g c =
    let setup_is = c.finish.ensures.step.setup_stays ∙ (c.load.ensures.step.setup_stays ∙ (c.look-seen.ensures.step.setup_stays ∙ c.in_ok-held.ensures.step.setup_stays)) in
    let laid = g.met.W.Words.laid c.args.table.now in
    let inside = chunk_inside (g.W.Words.means.setup c.args.table.now) _ c.args.chunk laid c.requires.chunk in
    let least = laid.least c.args.chunk inside in
    let size = c.in-Ok.ensures.taken.whole ∙ ap (λ (s : Setup). (spot s c.args.chunk).payload_size) setup_is in
    omega (arith, size, least, c.deref.ensures.len)

pub give_back-requires-clause-reading : goal.give_back-requires-clause-reading
give_back-requires-clause-reading g c =
    let taken = c.in-Ok.ensures.taken in
    takes_reads (g.W.Words.means.service_view c.finish.new.table c.load.new.seat) (g.W.Words.means.service_view c.take.new.self c.take.new.seat) c.args.chunk c.in-Ok.taken.chunk
    taken.word (packed c.in-Ok.taken.header) 0 None (taken_content (g.W.Words.means.setup c.finish.new.table) 0 (taken_of (g.W.Words.means.service_view c.finish.new.table c.load.new.seat) 0).count c.in-Ok.taken) taken.view taken.chunk_is

pub give_back-requires-clause-lacks : goal.give_back-requires-clause-lacks
give_back-requires-clause-lacks g c =
    let setup = g.W.Words.means.setup c.finish.new.table in
    let old = g.W.Words.means.service_view c.finish.new.table c.load.new.seat in
    let new = g.W.Words.means.service_view c.take.new.self c.take.new.seat in
    let written = (c.in_ok-held.ensures.step.service_stays c.args.service.now c.requires.service).1 in
    let finished = c.finish.ensures.step.service_stays c.load.new.seat c.load.ensures.step.seat_stays in
    let none : (taken_of old 0).count ≡ 0 = ap (λ (v : ServiceView). (taken_of v 0).count) finished.1
    ∙ (ap (λ (v : ServiceView). (taken_of v 0).count) c.load.ensures.view
    ∙ (ap (λ (v : ServiceView). (taken_of v 0).count) c.look-seen.ensures.view.view
    ∙ (ap (λ (v : ServiceView). (taken_of v 0).count) written ∙ c.requires.none_taken))) in
    let arrived : AllArrived old = subst AllArrived (sym finished.1)
    (subst AllArrived (sym c.load.ensures.view)
    (subst AllArrived (sym c.look-seen.ensures.view.view)
    (subst AllArrived (sym written) c.requires.arrived))) in
    let all = (g.met.W.Words.serving c.finish.new.table c.load.new.seat finished.0).writers in
    let setup_is = c.finish.ensures.step.setup_stays ∙ (c.load.ensures.step.setup_stays ∙ (c.look-seen.ensures.step.setup_stays ∙ c.in_ok-held.ensures.step.setup_stays)) in
    let many = ap (λ (s : Setup). length s.writers) setup_is in
    let some = (g.met.W.Words.rests c.args.table.now c.args.seat.now c.requires.seat).inside in
    let inside : 0 < length old.taken = omega (arith, all, many, some) in
    subst (λ (n : ℕ). LacksArrival new 0 n) none
    (takes_lacks setup old new c.args.chunk 1 c.args.id c.in-Ok.taken c.in-Ok.ensures.taken inside arrived)
