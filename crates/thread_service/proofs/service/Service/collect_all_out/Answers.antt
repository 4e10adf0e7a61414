-- What was seen of a writer stays while the chunks of other producers' writers are taken.
use Rattle.std.proofs.Common.{◌∙◌, ◌+◌, List, [], ◌∷◌, ◌++◌, length, length-append, append_assoc, append-nil, refl, sym, ap, arith}
use Rattle.chunk_plain.specs.Views.{Look}
use Rattle.chunk_words.specs.Sits.{setup_in}
use Rattle.service_core.proofs.AgreeLemmas.{keeps_both, keeps_same}
use Rattle.thread_service.specs.Serving.{core_of, view_in}
use Rattle.thread_service.proofs.Standing.{stays_begin, stays_on}
use Rattle.thread_service.proofs.SettlingLemmas.{all_out_more, rounds_look, seen_next}
use Rattle.thread_service.proofs.service.Service.collect_all_out.Goals as goal

pub producers-init : goal.producers-init
producers-init c = record {
  stays = stays_begin c.requires.serves;
  keeps = keeps_same (setup_in c.args.table.now) (core_of c.args.self.now);
  takes = refl;
  looks = ([], sym (append-nil (view_in c.args.self.now).looks));
  seen = λ place inside none.
      let least = (c.requires.serves.agrees.routed.producers place inside).least in
      absurd (omega (arith, least, none));
}

pub producers-preserved : goal.producers-preserved
producers-preserved c =
    let setup = setup_in c.args.table.now in
    let i = c.producers.invariant in
    let looks = i.looks in
    let index = c.producers.index in
    let old = view_in c.args.self.now in
    let mid = view_in c.producers.self in
    let new = view_in c.collect_out.new.self in
    let takes = c.collect_out.ensures.takes in
    let more = rounds_look setup (index + 1) (takes.rounds ++ 0 ∷ []) mid new takes.takes in
    record {
      stays = stays_on i.stays c.collect_out.ensures.stays;
      keeps = keeps_both setup (core_of c.args.self.now) (core_of c.producers.self) (core_of c.collect_out.new.self) i.keeps c.collect_out.ensures.keeps;
      takes = all_out_more setup index old mid new i.takes takes;
      looks = (looks.0 ++ more.looks, more.more ∙ ap (λ (ls : List Look). ls ++ more.looks) looks.1 ∙ append_assoc old.looks looks.0 more.looks);
      seen = seen_next setup (length old.looks) index mid new
          (let grown = ap (λ (ls : List Look). length ls) looks.1 ∙ length-append old.looks looks.0 in omega (arith, grown))
          i.seen more c.collect_out.ensures.seen;
    }
