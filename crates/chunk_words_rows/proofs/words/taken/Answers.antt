use Rattle.std.proofs.Common.{◌∙◌, ℕ, sym, ap, subst, arith, rules}
use Rattle.std.proofs.lemmas.Grind.{common_steps}
use Rattle.trace_base.specs.Ids.{id_of}
use Rattle.chunk_plain.specs.Views.{ServiceView, taken_of}
use Rattle.chunk_plain.specs.Words.{LacksArrival}
use Rattle.chunk_plain.proofs.ArrivedLemmas.{takes_lacks}
use Rattle.chunk_words.specs.Knows.{service_of}
use Rattle.chunk_words.specs.Sits.{setup_in}
use Rattle.chunk_words_rows.proofs.words.taken.Goals as goal

pub take-requires-clause-next : goal.take-requires-clause-next
take-requires-clause-next c = record {
  inside = first_of (search rules, grind (arith, common_steps));
  least = first_of (search rules, grind (arith, common_steps));
  most = first_of (search rules, grind (arith, common_steps));
  id_is = c.id_of.ensures ∙ ap (id_of 4294967000) (sym c.requires.taken.count_is)
      ∙ ap (λ (f : ℕ). id_of f (taken_of (service_of c.args.service.now.seat.me.0) 0).count) (sym (c.requires.page.froms 0 (omega arith)));
  none_read = c.requires.taken.none_out;
}

-- the look at what was taken changes neither
pub give_back-requires-clause-lacks : goal.give_back-requires-clause-lacks
give_back-requires-clause-lacks c =
    let old = service_of c.args.service.now.seat.me.0 in
    let took = service_of c.take.new.seat.seat.me.0 in
    let all = c.requires.service.waits.serving.writers in
    let many = c.requires.page.writers in
    let lacks = takes_lacks (setup_in c.args.host.now) old took 0 1 c.id_of.result c.in-Ok.taken c.in-Ok.ensures.taken (omega (arith, all, many))
    c.requires.taken.arrived in
    let lacks_first : LacksArrival took 0 0 = subst (λ (n : ℕ). LacksArrival took 0 n) c.requires.taken.count_is lacks in
    let look = c.look-taken_word.ensures.view in
    subst (λ (v : ServiceView). LacksArrival v 0 0) (sym look.view) (record { taken = lacks_first.taken; others = lacks_first.others })
