-- A round that takes a chunk uses up an id; one that takes none shows that none is left.
use Rattle.std.proofs.Common.{◌≡◌, ◌≤◌, ℕ, [], ◌∷◌, ◌++◌, length, length-append, sym, subst, arith}
use Rattle.chunk_plain.specs.Setup.{producer_of}
use Rattle.chunk_words.specs.Sits.{setup_in}
use Rattle.service_core.specs.Taking.{Takes, places_of}
use Rattle.service_core.proofs.AgreeLemmas.{keeps_both}
use Rattle.service_core.proofs.QuietLemmas.{places_below}
use Rattle.service_core.proofs.RoomLemmas.{ids_fall}
use Rattle.thread_service.specs.Serving.{core_of, view_in}
use Rattle.thread_service.specs.Settling.{TakesRounds}
use Rattle.thread_service.proofs.Standing.{stays_on}
use Rattle.thread_service.proofs.SettlingLemmas.{rounds_look, rounds_more, some_more, round_shows, seen_since}
use Rattle.thread_service.proofs.service.Service.collect_out.Goals as goal

pub rounds-smaller : goal.rounds-smaller
rounds-smaller c =
    ids_fall (setup_in c.args.table.now) (view_in c.rounds.self) (view_in c.collect.new.self) (core_of c.rounds.self) (core_of c.collect.new.self) c.args.producer
    c.collect.result c.rounds.invariant.stays.serves.agrees c.collect.ensures.stays.serves.agrees c.collect.ensures.takes c.ids_fit.ensures c.rounds-test.true

pub rounds-preserved : goal.rounds-preserved
rounds-preserved c =
    let setup = setup_in c.args.table.now in
    let i = c.rounds.invariant in
    record {
      stays = stays_on i.stays c.collect.ensures.stays;
      keeps = keeps_both setup (core_of c.args.self.now) (core_of c.rounds.self) (core_of c.collect.new.self) i.keeps c.collect.ensures.keeps;
      rounds = (
        i.rounds.0 ++ c.collect.result ∷ [],
        some_more i.rounds.0 c.collect.result i.rounds.1 c.rounds-test.true,
        rounds_more setup c.args.producer i.rounds.0 c.collect.result (view_in c.args.self.now) (view_in c.rounds.self) (view_in c.collect.new.self)
            i.rounds.2 c.collect.ensures.takes,
      );
    }

pub returns-clause-takes : goal.returns-clause-takes
returns-clause-takes c =
    let setup = setup_in c.args.table.now in
    let rounds = c.rounds.invariant.rounds in
    let zero : c.collect.result ≡ 0 = (let few = c.rounds-test.false in omega (arith, few)) in
    record {
      rounds = rounds.0;
      some = rounds.1;
      takes = subst (λ (n : ℕ). TakesRounds setup c.args.producer (rounds.0 ++ n ∷ []) (view_in c.args.self.now) (view_in c.collect.new.self)) zero
          (rounds_more setup c.args.producer rounds.0 c.collect.result (view_in c.args.self.now) (view_in c.rounds.self) (view_in c.collect.new.self)
          rounds.2 c.collect.ensures.takes);
    }

pub returns-clause-seen : goal.returns-clause-seen
returns-clause-seen c place inside own =
    let setup = setup_in c.args.table.now in
    let rounds = c.rounds.invariant.rounds in
    let on = rounds_look setup c.args.producer rounds.0 (view_in c.args.self.now) (view_in c.rounds.self) rounds.2 in
    let zero : c.collect.result ≡ 0 = (let few = c.rounds-test.false in omega (arith, few)) in
    let takes = subst (λ (n : ℕ). Takes setup (places_of c.args.producer 0 setup.writers) n (view_in c.rounds.self) (view_in c.collect.new.self)) zero c.collect.ensures.takes in
    let routed = c.requires.serves.agrees.routed in
    let laid = c.args.table.now.laid in
    let grown = length-append (view_in c.args.self.now).looks on.looks in
    let more = subst (λ (ls : _). length (view_in c.args.self.now).looks ≤ length ls) (sym on.more) (omega (arith, grown)) in
    seen_since setup (length (view_in c.args.self.now).looks) (length (view_in c.rounds.self).looks) place (view_in c.collect.new.self) more
    (round_shows setup c.args.producer (view_in c.rounds.self) (view_in c.collect.new.self) takes
    (λ p below. laid.some (producer_of setup p) (routed.producers p below))
    (places_below c.args.producer 0 setup.writers (length setup.writers) (omega arith)) place inside own)
