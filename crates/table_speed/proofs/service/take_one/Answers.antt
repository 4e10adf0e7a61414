use Rattle.std.proofs.Common.{◌-◌, ◌<◌, ◌∙◌, ℕ, length, sym, ap, subst, arith, rules}
use Rattle.std.proofs.lemmas.Grind.{common_steps}
use Rattle.trace_base.specs.Ids.{id_of}
use Rattle.chunk_plain.specs.Views.{ServiceView, taken_of}
use Rattle.chunk_plain.specs.Words.{AllArrived, LacksArrival}
use Rattle.chunk_plain.proofs.ArrivedLemmas.{takes_lacks}
use Rattle.chunk_words.specs.Knows.{service_of}
use Rattle.chunk_words.specs.Sits.{setup_in}
use Rattle.table_speed.specs.Taking.{count_of}
use Rattle.table_speed.proofs.service.take_one.Goals as goal

pub take-requires-clause-next : goal.take-requires-clause-next
take-requires-clause-next c = record {
  inside = first_of (search rules, grind (arith, common_steps));
  least = first_of (search rules, grind (arith, common_steps));
  most = first_of (search rules, grind (arith, common_steps));
  id_is = c.id_of.ensures ∙ ap (id_of 0) c.requires.position ∙ ap (λ (f : ℕ). id_of f (count_of c.args.seat.now (c.args.writer - 1))) (sym c.requires.writer.from_is);
  none_read = c.requires.none_out;
}

pub give_back-requires-clause-lacks : goal.give_back-requires-clause-lacks
give_back-requires-clause-lacks c =
    let old = service_of c.args.seat.now.seat.me.0 in
    let new = service_of c.take.new.seat.seat.me.0 in
    let all = c.requires.seat.waits.serving.writers in
    let least = c.requires.writer.least in
    let most = c.requires.writer.most in
    let inside : c.args.writer - 1 < length old.taken = omega (arith, all, least, most) in
    subst (λ (n : ℕ). LacksArrival new (c.args.writer - 1) n) (sym c.requires.position)
    (takes_lacks (setup_in c.args.host.now) old new c.args.chunk c.args.writer c.id_of.result c.in-Ok.taken c.in-Ok.ensures.taken inside c.requires.arrived)

pub returns-in-Err-clause-other : goal.returns-in-Err-clause-other
returns-in-Err-clause-other c =
    let look = c.in-Err.ensures.other.look in
    record {
      all = λ place. ap (λ (v : ServiceView). (taken_of v place).count) look.view;
      none_out = ap (λ (v : ServiceView). v.reading) look.view ∙ c.requires.none_out;
      arrived = subst AllArrived (sym look.view) c.requires.arrived;
    }
