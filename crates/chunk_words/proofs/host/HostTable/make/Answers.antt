use Rattle.std.proofs.Common.{◌≡◌, ◌∙◌, List, length, replicate, refl, ap, sym, subst, arith, rules}
use Rattle.std.proofs.lemmas.Grind.{common_steps}
use Rattle.chunk_plain.specs.declared.setup.Spot.{Spot}
use Rattle.chunk_plain.specs.Setup.{Setup, IsLaid}
use Rattle.chunk_plain.specs.Plain.{first_world}
use Rattle.chunk_plain.specs.Words.{IsServing}
use Rattle.chunk_plain.proofs.LayingLemmas.{setup_laid}
use Rattle.chunk_plain.proofs.MadeLemmas.{first_owned, first_serves}
use Rattle.chunk_words.specs.Knows.{made_of, joined_of, stage_of, service_of}
use Rattle.chunk_words.specs.Made.{HasFreeBodies}
use Rattle.chunk_words.specs.Moves.{Mine, IsSeen}
use Rattle.chunk_words.specs.Places.{word_total}
use Rattle.chunk_words.specs.Seats.{IsServiceIdle}
use Rattle.chunk_words.proofs.Making.{few_before, few_pages, starts_shared}
use Rattle.chunk_words.proofs.host.HostTable.make.Goals as goal

pub payload_starts-requires-clause-pages : goal.payload_starts-requires-clause-pages
payload_starts-requires-clause-pages c =
    let pages = ap (λ (s : Setup). s.pages) c.in_ok-layout.ensures in let few = few_pages c.args.producers.now c.requires.pages in
    omega (arith, pages, few, c.requires.producers)

pub overflow_add-spare-2 : goal.overflow_add-spare-2
overflow_add-spare-2 c =
    let layout = c.in_ok-layout.layout in
    let laid : IsLaid layout = subst IsLaid (sym c.in_ok-layout.ensures) (setup_laid c.args.producers.now c.args.writers.now c.requires.producers c.requires.some_page c.requires.pages) in
    let low = few_before layout (length layout.spots) laid (omega arith) in let few = laid.few in
    let pages = ap (λ (s : Setup). s.pages) c.in_ok-layout.ensures in let few_of = few_pages c.args.producers.now c.requires.pages in
    omega (arith, low, few, c.in_ok-starts.ensures.requests, pages, few_of, c.requires.producers, c.requires.writers)

pub overflow_add-spare-3 : goal.overflow_add-spare-3
overflow_add-spare-3 c =
    let layout = c.in_ok-layout.layout in
    let laid : IsLaid layout = subst IsLaid (sym c.in_ok-layout.ensures) (setup_laid c.args.producers.now c.args.writers.now c.requires.producers c.requires.some_page c.requires.pages) in
    let low = few_before layout (length layout.spots) laid (omega arith) in let few = laid.few in
    let pages = ap (λ (s : Setup). s.pages) c.in_ok-layout.ensures in let few_of = few_pages c.args.producers.now c.requires.pages in
    omega (arith, low, few, c.in_ok-starts.ensures.requests, pages, few_of, c.requires.producers, c.requires.writers)

pub new-requires : goal.new-requires
new-requires c =
    let layout = c.in_ok-layout.layout in let bodies = c.in_ok-bodies.bodies.items in
    let laid : IsLaid layout = subst IsLaid (sym c.in_ok-layout.ensures) (setup_laid c.args.producers.now c.args.writers.now c.requires.producers c.requires.some_page c.requires.pages) in
    let free : HasFreeBodies layout.spots (length layout.spots) bodies = subst (λ (l : List Spot). HasFreeBodies l (length l) bodies) c.spots.ensures c.in_ok-bodies.ensures in
    let zeros : c.deref.result.now ≡ replicate (word_total layout) 0 = c.deref.ensures.value
    ∙ (c.in_ok-words.ensures.items_if_clones_equal (λ y h. h) ∙ ap (λ n. replicate n 0) (let many = ap (λ (s : Setup). length s.writers) c.in_ok-layout.ensures in omega (arith, many, c.in_ok-starts.ensures.requests))) in
    starts_shared layout c.deref.result.now bodies laid zeros free

pub returns : goal.returns
returns c =
    let layout = c.in_ok-layout.layout in let service = c.make_seats.new.service in
    let me_is = c.in_ok-seats.ensures.me in
    let view_is : service_of service.seat.me.0 ≡ (first_world layout).service = ap (λ (m : Mine). service_of m.0) me_is in
    record {
      setup = c.in_ok-layout.ensures;
      seats = first_of (search rules, grind (arith, common_steps));
      service = record {
        joined = c.in_ok-seats.ensures.seat ∙ c.in-Ok.ensures.ok.2;
        waits = record {
          idle = subst IsServiceIdle (sym me_is) refl;
          serving = subst (IsServing layout) (sym view_is) (first_serves layout);
          seen = subst IsSeen (sym view_is) ∣ (first_world layout, first_owned layout, refl) ∣₁;
          all_made = ap (λ (m : Mine). made_of m.0) me_is ∙ (let many = ap (λ (s : Setup). length s.writers) c.in_ok-layout.ensures in let few = c.requires.writers in omega (arith, many, few));
          none_joined = ap (λ (m : Mine). joined_of m.0) me_is;
        };
      };
      service_view = view_is;
      no_pass = ap (λ (m : Mine). stage_of m.0) me_is;
    }
