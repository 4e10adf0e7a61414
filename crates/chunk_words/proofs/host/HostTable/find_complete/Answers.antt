use Rattle.std.proofs.Common.{◌∙◌, [], ap, subst, rules}
use Rattle.chunk_words.specs.Knows.{Knows, Nothing, service_of, by_service}
use Rattle.chunk_words.specs.Moves.{Mine}
use Rattle.chunk_words.proofs.Rests.{attends_now, attends_looked, looked_at, missed_at}
use Rattle.page_geometry.specs.Header.{packed}
use Rattle.std.proofs.Common.{None}
use Rattle.chunk_plain.specs.Steps.{looks_at}
use Rattle.chunk_plain.specs.Views.{ServiceView}
use Rattle.chunk_words.proofs.host.HostTable.find_complete.Goals as goal

pub returns-then-ne-clause-seat : goal.returns-then-ne-clause-seat
returns-then-ne-clause-seat c =
    let peek = c.step_peek-word in let find = c.step_find in
    attends_looked c.args.self.now c.args.seat.now peek.new.seat find.new.seat c.args.chunk peek.result find.result c.requires.seat peek.ensures.seat find.ensures.seat
    peek.ensures.me find.ensures.me

pub returns-then-ne-clause-other : goal.returns-then-ne-clause-other
returns-then-ne-clause-other c =
    let seat = c.args.seat.now in let peek = c.step_peek-word in let find = c.step_find in
    record {
      count_fits = c.unpack-header.ensures.count;
      flags_fit = c.unpack-header.ensures.flags;
      other = search rules;
      look = looked_at c.args.self.now.layout c.args.chunk peek.result find.result c.unpack-header.result seat.seat.me peek.new.seat.seat.me find.new.seat.seat.me
          peek.ensures.me find.ensures.me c.unpack-header.ensures.header;
    }

pub returns-then-header-writer-clause-other : goal.returns-then-header-writer-clause-other
returns-then-header-writer-clause-other c =
    let peek = c.step_peek-word in let know = c.step_know in
    record {
      count_fits = c.unpack-header-2.ensures.count;
      flags_fit = c.unpack-header-2.ensures.flags;
      other = search rules;
      look = missed_at c.args.self.now.layout c.args.chunk peek.result know.result c.unpack-header-2.result c.args.seat.now.seat.me peek.new.seat.seat.me know.new.seat.seat.me
          c.step_miss.new.seat.seat.me peek.ensures.me know.ensures.me c.step_miss.ensures.me (search rules);
    }

pub returns-then-header-writer-clause-seat : goal.returns-then-header-writer-clause-seat
returns-then-header-writer-clause-seat c =
    let self = c.args.self.now in let seat = c.args.seat.now in let serves = c.step_miss.ensures.me.serves in let serving = c.requires.seat.waits.serving in
    let known = ap (λ (m : Mine). m.0) c.step_know.ensures.me.new_is ∙ ap (λ (m : Mine). let k : Knows = by_service 0 (Rattle.chunk_words.specs.Knows.Known c.args.chunk c.step_peek-word.result c.step_know.result) (λ v. v) m.0 in k) c.step_peek-word.ensures.me.new_is in
    let header = c.unpack-header-2.result in
    let look : ServiceView → ServiceView = λ v. looks_at v c.args.chunk c.step_peek-word.result (packed header) None in
    attends_now self seat c.step_miss.new.seat Nothing (look (service_of seat.seat.me.0)) c.requires.seat (c.step_miss.ensures.seat ∙ (c.step_know.ensures.seat ∙ c.step_peek-word.ensures.seat))
    (serves.new_is ∙ ap (λ (k : Knows). let m : Mine = (by_service 0 Nothing look k, []) in m) known)
    (record { writers = serving.writers; level = serving.level }) (subst (λ (k : Knows). Rattle.chunk_words.specs.Moves.IsSeen (look (service_of k))) known serves.seen)
