use Rattle.std.proofs.Common.{◌≡◌, ◌∙◌, ℕ, subst, sym, ap, arith, None, vec_len}
use Rattle.page_geometry.specs.Header.{packed}
use Rattle.chunk_plain.specs.Setup.{spot}
use Rattle.chunk_plain.specs.Words.{LacksArrival, taken_content}
use Rattle.chunk_plain.proofs.ArrivedLemmas.{takes_lacks}
use Rattle.chunk_plain.proofs.Holding.{takes_reads}
use Rattle.chunk_plain.specs.Views.{Arrive, taken_of}
use Rattle.chunk_words.specs.Knows.{service_of}
use Rattle.chunk_words.specs.Sits.{setup_in}
use Rattle.chunk_words_rows.proofs.Takings.{looked, loaded, served}
use Rattle.chunk_words_rows.proofs.serving.serve.Goals as goal
use Rattle.trace_base.specs.Ids.{id_of}

pub look-requires-clause-chunk : goal.look-requires-clause-chunk
look-requires-clause-chunk c = c.requires.page.inside c.args.chunk c.requires.chunk

pub load-requires-clause-chunk : goal.load-requires-clause-chunk
load-requires-clause-chunk c = c.requires.page.inside c.args.chunk c.requires.chunk

pub load-requires-clause-size : goal.load-requires-clause-size
load-requires-clause-size c = c.requires.size ∙ sym (c.requires.page.size c.args.chunk c.requires.chunk)

pub take-requires-clause-next : goal.take-requires-clause-next
take-requires-clause-next c =
    let looks = c.look.ensures.view in
    let one = looked c.args.seat.now c.look.new.seat c.args.chunk _ _ c.args.next looks.found c.requires.next looks.view in
    let two = loaded c.look.new.seat c.load.new.seat c.args.next one c.load.ensures.view in
    let count = two.count_is in
    record {
      inside = c.requires.page.inside c.args.chunk c.requires.chunk;
      least = omega arith;
      most = let two = c.requires.page.writers in omega (arith, two);
      id_is = c.id_of.ensures ∙ ap (id_of 4294967000) (sym count)
          ∙ ap (λ (f : ℕ). id_of f (taken_of (service_of c.load.new.seat.seat.me.0) 0).count) (sym (c.requires.page.froms 0 (omega arith)));
      none_read = two.none_out;
    }

pub give_back-requires-clause-lacks : goal.give_back-requires-clause-lacks
give_back-requires-clause-lacks c =
    let looks = c.look.ensures.view in
    let one = looked c.args.seat.now c.look.new.seat c.args.chunk _ _ c.args.next looks.found c.requires.next looks.view in
    let two = loaded c.look.new.seat c.load.new.seat c.args.next one c.load.ensures.view in
    let old = service_of c.load.new.seat.seat.me.0 in
    let new = service_of c.take.new.seat.seat.me.0 in
    let all = c.load.ensures.seat.waits.serving.writers in
    let many = c.requires.page.writers in
    subst (λ (n : ℕ). LacksArrival new 0 n) two.count_is
    (takes_lacks (setup_in c.args.host.now) old new c.args.chunk 1 c.id_of.result c.in-Ok.taken c.in-Ok.ensures.taken (omega (arith, all, many))
    two.arrived)

pub give_back-requires-clause-reading : goal.give_back-requires-clause-reading
give_back-requires-clause-reading c =
    let taken = c.in-Ok.ensures.taken in
    takes_reads (service_of c.load.new.seat.seat.me.0) (service_of c.take.new.seat.seat.me.0) c.args.chunk c.in-Ok.taken.chunk
    taken.word (packed c.in-Ok.taken.header) 0 None (taken_content (setup_in c.args.host.now) 0 (taken_of (service_of c.load.new.seat.seat.me.0) 0).count c.in-Ok.taken) taken.view taken.chunk_is

pub give_back-requires-clause-size : goal.give_back-requires-clause-size
give_back-requires-clause-size c =
    let taken = c.in-Ok.ensures.taken in
    subst (λ k. vec_len c.in-Ok.taken.body.payload ≡ (spot (setup_in c.args.host.now) k).payload_size) (sym taken.chunk_is) taken.whole

pub returns-in-Err-clause-next : goal.returns-in-Err-clause-next
returns-in-Err-clause-next c =
    let looks = c.look.ensures.view in
    let one = looked c.args.seat.now c.look.new.seat c.args.chunk _ _ c.args.next looks.found c.requires.next looks.view in
    let two = loaded c.look.new.seat c.load.new.seat c.args.next one c.load.ensures.view in
    let other = c.in-Err.ensures.other.look in
    looked c.load.new.seat c.take.new.seat c.args.chunk _ _ c.args.next other.found two other.view

pub returns-in-Ok-clause-next : goal.returns-in-Ok-clause-next
returns-in-Ok-clause-next c =
    let looks = c.look.ensures.view in let taken = c.in-Ok.ensures.taken in
    let one = looked c.args.seat.now c.look.new.seat c.args.chunk _ _ c.args.next looks.found c.requires.next looks.view in
    let two = loaded c.look.new.seat c.load.new.seat c.args.next one c.load.ensures.view in
    let all = c.load.ensures.seat.waits.serving.writers in let many = c.requires.page.writers in
    served c.load.new.seat c.take.new.seat c.give_back.new.seat c.args.chunk c.in-Ok.taken.chunk taken.word (packed c.in-Ok.taken.header) c.args.next None (taken_content (setup_in c.args.host.now) 0 (taken_of (service_of c.load.new.seat.seat.me.0) 0).count c.in-Ok.taken)
    (Arrive 2 c.args.next) two (omega (arith, all, many)) taken.view taken.chunk_is c.give_back.ensures.view c.give_back.ensures.arrived
