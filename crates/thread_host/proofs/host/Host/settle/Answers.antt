-- What was heard of the writers is taken, and with it all that they have begun.
use Rattle.std.proofs.Common.{◌≡◌, ◌∙◌, ℕ, ◌<◌, ◌≤◌, Option, IfSome, List, [], length, sym, ap, subst, arith}
use Rattle.std.specs.Option.{IsSomeAnd}
use Rattle.std.proofs.lemmas.List.{with_items_is}
use Rattle.std.proofs.lemmas.Option.{slice_get_within}
use Rattle.chunk_plain.specs.Views.{At, BegunChunk, Heard, Letter, ServiceView, asked_in, taken_of}
use Rattle.chunk_plain.specs.World.{writer}
use Rattle.chunk_plain.proofs.Lists.{at_seam}
use Rattle.chunk_words.specs.declared.seats.WriterSeat.{WriterSeat}
use Rattle.chunk_words.specs.Knows.{Desk, Tale}
use Rattle.chunk_words.specs.Sits.{setup_in, known_by_pass}
use Rattle.chunk_words.specs.Told.{StaysCompleted}
use Rattle.loss_report.specs.declared.counts.SequenceCounts.{SequenceCounts}
use Rattle.replay_model.specs.Flushes.{requests_in}
use Rattle.run_model.specs.Answered.{run_sums}
use Rattle.thread_service.specs.declared.service.Service.{Service}
use Rattle.thread_service.specs.Serving as serving
use Rattle.thread_service.specs.Settling.{TakesAllOut}
use Rattle.thread_host.specs.Ending.{AreDoneSeats}
use Rattle.thread_host.specs.Hosts.{IsServed}
use Rattle.run_model.specs.Scraped.{has_part}
use Rattle.thread_host.proofs.Parts.{takes_out_none}
use Rattle.thread_service.specs.Reading.{IsKnownWhole}
use Rattle.thread_host.specs.Growing.{IsHearing}
use Rattle.thread_host.specs.Tally.{IsTally, KeepsServing}
use Rattle.thread_host.specs.declared.tally.Tally.{Tally}
use Rattle.thread_host.proofs.Ordered.{hears_ordered, same_ordered}
use Rattle.thread_host.proofs.ReadAnswers.{hears_asked, hears_letters, only_session}
use Rattle.thread_host.proofs.Seating.{seat_at, served_on, whole_tale}
use Rattle.thread_host.proofs.SettledAnswers.{answered_seat, settle_answers, settle_keeps, tale_still, tally_there}
use Rattle.thread_host.proofs.TallyLemmas.{sums_are}
use Rattle.thread_host.proofs.host.Host.settle.Goals as goal

pub unreachable-requires : goal.unreachable-requires
unreachable-requires c = subst (λ (o : Option Service). IsSomeAnd o (IsServed c.requires.played.0 c.args.self.table)) c.in_default.is c.requires.played.1.served

pub end_writers-requires-clause-serves : goal.end_writers-requires-clause-serves
end_writers-requires-clause-serves c =
    (subst (λ (o : Option Service). IsSomeAnd o (IsServed c.requires.played.0 c.args.self.table)) c.in-Some.is c.requires.played.1.served).serves

pub unreachable-requires-in_default-tally : goal.unreachable-requires-in_default-tally
unreachable-requires-in_default-tally c =
    let scenario = c.requires.played.0 in
    subst (λ (o : Option Tally). IsSomeAnd o (λ (tally : Tally). IsSomeAnd c.args.self.service (λ (service : Service).
    IsTally (requests_in scenario.lines) (length (setup_in c.args.self.table).writers) (serving.view_in service).letters tally))) c.in_default-tally.is
    c.requires.played.1.tallied

pub read_answers-requires-clause-tally : goal.read_answers-requires-clause-tally
read_answers-requires-clause-tally c =
    let scenario = c.requires.played.0 in let host = c.requires.played.1 in let learns = c.end_writers.ensures.learns in
    let was = subst (λ (o : Option Service). IsSomeAnd o (IsServed scenario c.args.self.table)) c.in-Some.is host.served in
    let tally = tally_there scenario c.args.self.table c.args.self.service c.in-Some.service c.args.self.tally c.in-Some-tally.tally host.tallied c.in-Some.is c.in-Some-tally.is in
    record {
      started = (only_session (serving.core_of c.in-Some.service) (serving.core_of c.end_writers.new.service) learns.only).state ∙ was.started;
      tallied = (
        requests_in scenario.lines,
        subst (λ (v : ServiceView). IsTally (requests_in scenario.lines) (length (setup_in c.args.self.table).writers) v.letters c.in-Some-tally.tally) (sym learns.view) tally,
      );
      room = let same = ap (λ (v : ServiceView). asked_in v.letters) learns.view in let few = was.few in let rows = tally.rows in omega (arith, same, few, rows);
    }

pub returns-clause-service : goal.returns-clause-service
returns-clause-service c =
    let setup = setup_in c.args.self.table in
    let first : Service = c.in-Some.service in
    subst (λ (o : Option Service). IfSome o (λ before. KeepsServing setup (serving.core_of before) (serving.core_of c.settle.new.self))) (sym c.in-Some.is)
    (settle_keeps setup (serving.core_of first) (serving.core_of c.end_writers.new.service) (serving.core_of c.read_answers.new.service)
    (serving.core_of c.compare.new.self) (serving.core_of c.mark.new.self) (serving.core_of c.settle.new.self) c.end_writers.ensures.learns.only
    c.read_answers.ensures.leaves.keeps c.read_answers.ensures.leaves.session c.compare.ensures.same.only c.mark.ensures.same.only c.settle.ensures.keeps)

pub returns-clause-takes : goal.returns-clause-takes
returns-clause-takes c =
    let setup = setup_in c.args.self.table in
    let last : Service = c.settle.new.self in
    let heard = serving.view_in c.read_answers.new.service in
    subst (λ (o : Option Service). IfSome o (λ before. (view : ServiceView) × IsHearing (length setup.writers) (serving.view_in before) view
    × TakesAllOut setup (length setup.ranges) view (serving.view_in last))) (sym c.in-Some.is) (
      heard,
      subst (λ (v : ServiceView). IsHearing (length setup.writers) v heard) c.end_writers.ensures.learns.view c.read_answers.ensures.hears,
      subst (λ (v : ServiceView). TakesAllOut setup (length setup.ranges) v (serving.view_in last)) (c.mark.ensures.same.view ∙ c.compare.ensures.same.view) c.settle.ensures.takes,
    )

-- no request was made behind those that the pass knows
pub returns-clause-requests : goal.returns-clause-requests
returns-clause-requests c =
    ap asked_in (c.settle.ensures.stays.letters ∙ ap (λ (v : ServiceView). v.letters) (c.mark.ensures.same.view ∙ c.compare.ensures.same.view)) ∙ c.compare.ensures.goes_on.asked

-- the last request's answer is read of each writer, since the writer told of it
pub returns-clause-answered : goal.returns-clause-answered
returns-clause-answered c have =
    let view = serving.view_in c.read_answers.new.service in
    let same : (serving.view_in c.settle.new.self).letters ≡ view.letters =
    c.settle.ensures.stays.letters ∙ ap (λ (v : ServiceView). v.letters) (c.mark.ensures.same.view ∙ c.compare.ensures.same.view) in
    subst (λ (letters : List Letter). 0 < asked_in letters → (place : ℕ) → place < length (setup_in c.args.self.table).writers
    → (n : ℕ) × (chunks : ℕ) × At letters n (Heard place (asked_in letters) chunks)) (sym same)
    (λ some place inside.
    let heard = c.read_answers.ensures.heard place inside in
    let many = c.end_writers.ensures.seats.0 in
    let here = seat_at c.end_writers.new.seats.items place (omega (arith, inside, many)) in
    let told = c.end_writers.ensures.heard place here.seat here.there in
    let tale = heard.told told.number told.tale (subst (λ (d : Desk). At d.told told.number told.tale) (sym c.read_answers.ensures.leaves.desk) told.told) told.place_is in
    let flush = told.flush_is in
    let last = answered_seat (asked_in (known_by_pass c.args.self.pass).letters) c.args.writers.items c.end_writers.new.seats.items place here.seat c.end_writers.ensures.seats.1 here.there have in
    let asked = c.compare.ensures.goes_on.asked in
    let made = heard.made in
    let number : heard.flush ≡ asked_in view.letters = omega (arith, tale, flush, last, asked, made) in
    (heard.number, heard.chunks, subst (λ (n : ℕ). At view.letters heard.number (Heard place n heard.chunks)) number heard.there))

pub returns-clause-settled : goal.returns-clause-settled
returns-clause-settled c scenario host played =
    let table = c.args.self.table in
    let first : Service = c.in-Some.service in
    let mid : Service = c.end_writers.new.service in
    let marked : Service = c.mark.new.self in
    let last : Service = c.settle.new.self in
    let ends = c.end_writers.ensures in
    let marks = c.mark.ensures.marked in
    let settles = c.settle.ensures in
    let reads = c.read_answers.ensures in
    let heard_view = serving.view_in c.read_answers.new.service in
    let marked_view : serving.view_in marked ≡ heard_view = c.mark.ensures.same.view ∙ c.compare.ensures.same.view in
    let writers : ℕ = length (setup_in table).writers in
    let hears = subst (λ (v : ServiceView). IsHearing writers v heard_view) ends.learns.view reads.hears in
    let letters = hears_letters writers (serving.view_in first) heard_view hears in
    let letters_same : (serving.view_in last).letters ≡ heard_view.letters = settles.stays.letters ∙ ap (λ (v : ServiceView). v.letters) marked_view in
    let desk_told : (serving.desk_in c.compare.new.self).told ≡ (serving.desk_in mid).told =
    ap (λ (d : Desk). d.told) c.compare.ensures.desk ∙ ap (λ (d : Desk). d.told) reads.leaves.desk in
    let looks_same : length (serving.view_in mid).looks ≡ length (serving.view_in marked).looks =
    sym (ap (λ (v : ServiceView). length v.looks) marked_view ∙ ap (λ (v : ServiceView). length v.looks) (hears_letters writers (serving.view_in mid) heard_view reads.hears).2) in
    let seats : List WriterSeat = c.end_writers.new.seats.items in
    let was = subst (λ (o : Option Service). IsSomeAnd o (IsServed scenario table)) c.in-Some.is host.served in
    let keeps = settle_keeps (setup_in table) (serving.core_of first) (serving.core_of mid) (serving.core_of c.read_answers.new.service)
    (serving.core_of c.compare.new.self) (serving.core_of marked) (serving.core_of last) ends.learns.only reads.leaves.keeps reads.leaves.session c.compare.ensures.same.only c.mark.ensures.same.only settles.keeps in
    let done = ends.done scenario.lines played in
    let wrote : List SequenceCounts = c.end_writers.new.sequences in
    let long = c.end_writers.auto.sequences in
    let lent = ap (λ (xs : List SequenceCounts). length xs) c.deref_mut.ensures.value in
    let ok = c.args.self.counts.sequences.ok.0 in (
      record {
        laid = host.laid;
        producers = host.producers;
        served = served_on scenario table first last was settles.stays.serves keeps
            (settles.own ∙ ap (λ (v : ServiceView). v.commits) marked_view ∙ ap (λ (v : ServiceView). v.commits) letters.2)
            (λ sequence. takes_out_none (setup_in table) (length (setup_in table).ranges) (serving.view_in marked) (serving.view_in last) settles.takes sequence
            ∙ ap (λ (v : ServiceView). has_part sequence v.events) marked_view ∙ ap (λ (v : ServiceView). has_part sequence v.events) letters.2)
            (ap asked_in letters_same ∙ hears_asked writers (serving.view_in first) heard_view hears)
            (same_ordered heard_view.letters (serving.view_in last).letters letters_same (hears_ordered writers (serving.view_in first) heard_view hears was.in_order))
            (settle_answers (setup_in table) writers (serving.core_of first) (serving.core_of mid) (serving.core_of c.read_answers.new.service)
            (serving.core_of c.compare.new.self) (serving.core_of marked) (serving.core_of last) ends.learns.only c.compare.ensures.same.only c.mark.ensures.same.only settles.keeps
            (ap (λ (v : ServiceView). v.letters) ends.learns.view) letters_same reads.leaves.kept was.kept);
        many = ends.seats.0;
        done = subst (λ (xs : List SequenceCounts). AreDoneSeats scenario.lines table seats xs)
            (sym (with_items_is c.args.self.counts.sequences wrote (omega (arith, long, lent, ok)))) done;
        taken = λ place seat there.
            let heard = ends.heard place seat there in
            let inside = slice_get_within seats place seat there in
            let many = ends.seats.0 in
            let whole = whole_tale scenario.lines table (serving.view_in mid) (serving.desk_in mid) place seat _ (omega (arith, inside, many)) (done place seat there) heard in
            let at_compare : At (serving.desk_in c.compare.new.self).told heard.number heard.tale =
            subst (λ (told : List Tale). At told heard.number heard.tale) (sym desk_told) heard.told in
            let taken = settles.taken heard.number heard.tale (subst (λ (d : Desk). At d.told heard.number heard.tale) (sym marks.desk_is) at_compare)
            (tale_still (setup_in table) (serving.view_in mid) (serving.view_in marked) heard.tale looks_same whole) in
            subst (λ (begun : List BegunChunk). length begun ≤ (taken_of (serving.view_in last) place).count) heard.begun_is
            (subst (λ (p : ℕ). length heard.tale.begun ≤ (taken_of (serving.view_in last) p).count) heard.place_is taken);
        stood = marks.world;
        number = length (serving.desk_in c.compare.new.self).marks;
        marked = subst (λ (d : Desk). At d.marks (length (serving.desk_in c.compare.new.self).marks) marks.world) (sym (settles.stays.desk ∙ marks.desk_is))
            (at_seam (serving.desk_in c.compare.new.self).marks [] marks.world);
        reached = marks.reached;
        completed = λ place seat there.
            let heard = ends.heard place seat there in
            subst (λ (begun : List BegunChunk). StaysCompleted begun (writer marks.world place).begun) heard.begun_is
            (subst (λ (p : ℕ). StaysCompleted heard.tale.begun (writer marks.world p).begun) heard.place_is (marks.told heard.number heard.tale (subst (λ (told : List Tale). At told heard.number heard.tale) (sym desk_told) heard.told)));
        settles = subst (λ (v : ServiceView). TakesAllOut (setup_in table) (length (setup_in table).ranges) v (serving.view_in last))
            (c.mark.ensures.same.view ∙ sym marks.view_is) settles.takes;
        pass = c.compare.ensures.pass;
        known = subst IsKnownWhole (sym c.compare.ensures.known) host.known;
        few_buffers = host.few_buffers;
        buffers = host.buffers;
        sequences = host.sequences;
        flushes = λ all.
            let tally = reads.leaves.tallied (requests_in scenario.lines)
            (subst (λ (v : ServiceView). IsTally (requests_in scenario.lines) (length (setup_in table).writers) v.letters c.in-Some-tally.tally) (sym ends.learns.view)
            (tally_there scenario table c.args.self.service first c.args.self.tally c.in-Some-tally.tally host.tallied c.in-Some.is c.in-Some-tally.is)) in
            ap (λ (v : _). v.items) c.into_sums.ensures
            ∙ sums_are (requests_in scenario.lines) (length (setup_in table).writers) heard_view.letters c.read_answers.new.tally tally (sym (ap asked_in letters_same) ∙ all)
            ∙ ap (run_sums writers) (sym letters_same);
        raws = host.raws;
      },
      subst (λ (o : Option Service). IfSome o (λ service. IsHearing writers (serving.view_in service) marks.world.service)) (sym c.in-Some.is)
          (subst (λ (v : ServiceView). IsHearing writers (serving.view_in first) v) (sym (marks.view_is ∙ c.compare.ensures.same.view)) hears),
    )
