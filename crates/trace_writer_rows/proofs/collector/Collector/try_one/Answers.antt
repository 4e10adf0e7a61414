use Rattle.std.proofs.Common.{◌∙◌, ◌+◌, ◌<◌, ◌≤◌, ℕ, length, sym, ap, rules, arith, subst}
use Rattle.std.proofs.lemmas.Grind.{common_steps}
use Rattle.page_geometry.specs.Header.{packed}
use Rattle.chunk_plain.specs.Words.{AllArrived, LacksArrival, taken_content}
use Rattle.chunk_plain.proofs.ArrivedLemmas.{takes_lacks}
use Rattle.chunk_plain.proofs.Holding.{takes_reads}
use Rattle.chunk_plain.specs.Setup.{Setup, from_of}
use Rattle.chunk_plain.specs.Views.{ServiceView, taken_of}
use Rattle.trace_writer_rows.proofs.collector.Collector.try_one.Goals as goal
use Rattle.trace_base.specs.Ids.{id_of}

pub give_back-requires-clause-reading : goal.give_back-requires-clause-reading
give_back-requires-clause-reading c =
    let taken = c.in-Ok.ensures.taken in
    takes_reads c.args.table.now.told.world.service c.take.new.self.told.world.service c.args.chunk c.in-Ok.token.chunk
    taken.word (packed c.in-Ok.token.header) 0 _ (taken_content c.args.table.now.layout 0 (taken_of c.args.table.now.told.world.service 0).count c.in-Ok.token) taken.view taken.chunk_is

pub give_back-requires-clause-lacks : goal.give_back-requires-clause-lacks
give_back-requires-clause-lacks c =
    let needs = c.requires.needs in
    let old = c.args.table.now.told.world.service in
    let new = c.take.new.self.told.world.service in
    subst (λ (n : ℕ). LacksArrival new 0 n) (sym needs.5)
    (takes_lacks c.args.table.now.layout old new c.args.chunk 1 c.id_of.result c.in-Ok.token c.in-Ok.ensures.taken needs.3 needs.7)

pub returns-clause-leaves : goal.returns-clause-leaves
returns-clause-leaves c =
    let one = c.take.ensures.step in let two = c.give_back.ensures.step in
    record {
      setup_stays = two.setup_stays ∙ one.setup_stays;
      writers_stay = λ seat there.
          let first = one.writers_stay seat there in
          let second = two.writers_stay seat first.0 in
          (second.0, second.1 ∙ first.1);
    }

pub take-requires-clause-next : goal.take-requires-clause-next
take-requires-clause-next c = record {
  none_read = c.requires.needs.4;
  inside = first_of (search rules, grind (arith, common_steps));
  least = first_of (search rules, grind (arith, common_steps));
  most = first_of (search rules, grind (arith, common_steps));
  id_is = let needs = c.requires.needs in
      c.id_of.ensures ∙ ap (id_of 4294967295) needs.5 ∙ ap (λ (f : ℕ). id_of f (taken_of c.args.table.now.told.world.service 0).count) (sym needs.6);
}

-- another chunk than the next one was found: it was looked at, and all else stays
pub returns-in_default-take-clause-needs : goal.returns-in_default-take-clause-needs
returns-in_default-take-clause-needs c =
    let needs = c.requires.needs in
    let step = c.take.ensures.step in
    let same = c.in_default-take.ensures.other.look.view in (
      step.seat_stays,
      subst (λ (s : Setup). c.args.self.now.range.first + c.args.self.now.range.count ≤ length s.spots) (sym step.setup_stays) needs.1,
      subst (λ (s : Setup). 1 ≤ length s.writers) (sym step.setup_stays) needs.2,
      subst (λ (v : ServiceView). 0 < length v.taken) (sym same) needs.3,
      ap (λ (v : ServiceView). v.reading) same ∙ needs.4,
      needs.5 ∙ ap (λ (v : ServiceView). (taken_of v 0).count) (sym same),
      ap (λ (s : Setup). from_of s 0) step.setup_stays ∙ needs.6,
      subst AllArrived (sym same) needs.7,
    )
