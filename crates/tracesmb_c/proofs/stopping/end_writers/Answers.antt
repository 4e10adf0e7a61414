-- Each writer leaves its seat behind those before it.
use Rattle.std.proofs.Common.{◌≡◌, ◌∙◌, ℕ, ◌+◌, Option, Some, None, List, [], ◌∷◌, ◌++◌, length, length-append}
use Rattle.std.proofs.Common.{append_assoc, sym, ap, subst, arith}
use Rattle.std.specs.Prelude.{slice_get, slice_index_or}
use Rattle.chunk_plain.specs.Letters.{last_flush}
use Rattle.chunk_plain.specs.Views.{WriterView}
use Rattle.chunk_plain.specs.Owned.{held_count}
use Rattle.chunk_words.specs.declared.seats.WriterSeat.{WriterSeat}
use Rattle.chunk_words.specs.Knows.{Desk, with_tale}
use Rattle.chunk_words.specs.Sits.{setup_in}
use Rattle.schedule_laws.specs.Resting.{IsBetweenCalls}
use Rattle.thread_service.specs.Serving as serving
use Rattle.thread_writer.specs.declared.writer.TraceWriter.{TraceWriter}
use Rattle.thread_writer.specs.Writing.{core_of, view_in}
use Rattle.tracesmb_c.specs.declared.session.Counted.{Counted}
use Rattle.tracesmb_c.specs.Ending.{IsCountOf, IsLeft, IsTold, none_counted}
use Rattle.tracesmb_c.specs.Sessions.{IsHome}
use Rattle.tracesmb_c.proofs.EndLemmas.{next_there, some_left, left_next, told_last, told_next}
use Rattle.thread_host.proofs.Seating.{left_first, only_both}
use Rattle.tracesmb_c.proofs.HomeLemmas.{none_held, between_calls}
use Rattle.tracesmb_c.proofs.stopping.end_writers.Goals as goal

pub unreachable-requires : goal.unreachable-requires
unreachable-requires c =
    let i = c.writers.invariant in
    let all : List (Option TraceWriter) = c.args.homes.items in
    let left : List (Option TraceWriter) = c.writers.left.items in
    let many : c.len-many.result ≡ length all = (let len = c.len-many.ensures in let ok = c.args.homes.ok.0 in omega (arith, len, ok)) in
    let first = left_first left c.remove.new.self.items c.remove.result
    (some_left all i.gone left c.writers.place c.len-many.result i.all i.many many c.writers-test.true)
    c.remove.ensures.value c.remove.ensures.by_index.2 in
    let there : slice_get all c.writers.place ≡ Some c.remove.result = next_there all i.gone left c.remove.new.self.items c.remove.result
    c.writers.place i.all i.many first in
    let below = c.writers-test.true in
    let home = c.requires.there c.writers.place (omega (arith, below, many)) in
    let is : slice_get all c.writers.place ≡ Some (Some home.0) = home.1 in
    let none : c.remove.result ≡ None = c.in_default.is in
    cc

pub end_writer-seat-requires-clause-writes : goal.end_writer-seat-requires-clause-writes
end_writer-seat-requires-clause-writes c =
    let i = c.writers.invariant in
    let all : List (Option TraceWriter) = c.args.homes.items in
    let left : List (Option TraceWriter) = c.writers.left.items in
    let many : c.len-many.result ≡ length all = (let len = c.len-many.ensures in let ok = c.args.homes.ok.0 in omega (arith, len, ok)) in
    let first = left_first left c.remove.new.self.items c.remove.result
    (some_left all i.gone left c.writers.place c.len-many.result i.all i.many many c.writers-test.true)
    c.remove.ensures.value c.remove.ensures.by_index.2 in
    (c.requires.home c.writers.place c.in-Some.writer
    (next_there all i.gone left c.remove.new.self.items c.remove.result c.writers.place i.all i.many first ∙ ap
    (λ (h : Option TraceWriter). Some h) c.in-Some.is)).writes

pub end_writer-seat-requires-clause-none_held : goal.end_writer-seat-requires-clause-none_held
end_writer-seat-requires-clause-none_held c =
    let i = c.writers.invariant in
    let all : List (Option TraceWriter) = c.args.homes.items in
    let left : List (Option TraceWriter) = c.writers.left.items in
    let many : c.len-many.result ≡ length all = (let len = c.len-many.ensures in let ok = c.args.homes.ok.0 in omega (arith, len, ok)) in
    let first = left_first left c.remove.new.self.items c.remove.result
    (some_left all i.gone left c.writers.place c.len-many.result i.all i.many many c.writers-test.true)
    c.remove.ensures.value c.remove.ensures.by_index.2 in
    (c.requires.home c.writers.place c.in-Some.writer
    (next_there all i.gone left c.remove.new.self.items c.remove.result c.writers.place i.all i.many first ∙ ap
    (λ (h : Option TraceWriter). Some h) c.in-Some.is)).none_held

pub put_behind-requires-clause-seats_room : goal.put_behind-requires-clause-seats_room
put_behind-requires-clause-seats_room c =
    let i = c.writers.invariant in
    let len = c.len-many.ensures in
    let ok = c.args.homes.ok.0 in
    let below = c.writers-test.true in
    let many = i.seats_many in
    let room = i.seats_room in
    omega (arith, len, ok, below, many, room)

pub put_behind-requires-clause-counts_room : goal.put_behind-requires-clause-counts_room
put_behind-requires-clause-counts_room c =
    let i = c.writers.invariant in
    let len = c.len-many.ensures in
    let ok = c.args.homes.ok.0 in
    let below = c.writers-test.true in
    let many = i.counts_many in
    let room = i.counts_room in
    omega (arith, len, ok, below, many, room)

pub writers-preserved : goal.writers-preserved
writers-preserved c =
    let i = c.writers.invariant in
    let all : List (Option TraceWriter) = c.args.homes.items in
    let left : List (Option TraceWriter) = c.writers.left.items in
    let home : Option TraceWriter = c.remove.result in
    let many : c.len-many.result ≡ length all = (let len = c.len-many.ensures in let ok = c.args.homes.ok.0 in omega (arith, len, ok)) in
    let first = left_first left c.remove.new.self.items home
    (some_left all i.gone left c.writers.place c.len-many.result i.all i.many many c.writers-test.true)
    c.remove.ensures.value c.remove.ensures.by_index.2 in
    let writer : TraceWriter = c.in-Some.writer in
    let there : slice_get all c.writers.place ≡ Some (Some writer) =
    next_there all i.gone left c.remove.new.self.items home c.writers.place i.all i.many first ∙ ap
    (λ (h : Option TraceWriter). Some h) c.in-Some.is in
    let is : IsHome c.args.table.now c.writers.place writer = c.requires.home c.writers.place writer there in
    let seats : List WriterSeat = c.writers.seats.items in
    let counts : List Counted = c.writers.counts.items in
    let seat : WriterSeat = c.end_writer-seat.result.0 in
    let count : Counted = c.end_writer-seat.result.1 in
    let ends = c.end_writer-seat.ensures in
    let leaves = ends.leaves in
    let seats_is : c.put_behind.new.seats.items ≡ seats ++ seat ∷ [] = c.put_behind.ensures.seats in
    let counts_is : c.put_behind.new.counts.items ≡ counts ++ count ∷ [] = c.put_behind.ensures.counts in
    let grown = length-append seats (seat ∷ []) in
    let counted_more = length-append counts (count ∷ []) in
    let more = length-append i.gone (home ∷ []) in
    let gone_is = i.many in
    let seats_many = i.seats_many in
    let counts_many = i.counts_many in
    let seats_room = i.seats_room in
    let counts_room = i.counts_room in
    let seats_capacity = c.put_behind.ensures.seats_capacity in
    let counts_capacity = c.put_behind.ensures.counts_capacity in
    let here : c.writers.place ≡ length seats = sym seats_many in
    let same : length counts ≡ length seats = omega (arith, seats_many, counts_many) in
    let old_view = serving.view_in c.writers.service in
    let none : held_count (view_in writer).begun ≡ 0 = none_held c.args.table.now c.writers.place writer is in
    let last : IsLeft c.args.table.now all c.writers.place seat count = record {
      writer = writer;
      home = there;
      knows = leaves.knows;
      sits = leaves.sits;
      place_is = leaves.place_is ∙ is.place_is;
      between = subst (IsBetweenCalls (setup_in c.args.table.now) c.writers.place) (sym leaves.knows)
          (between_calls c.args.table.now c.writers.place writer is);
      none_held = ap (λ (v : WriterView). held_count v.begun) leaves.knows ∙ none;
      counts = subst (λ (v : WriterView). IsCountOf v count) (sym leaves.knows) ends.counts;
    } in
    let looks : ℕ = length old_view.looks in
    let desk : Desk = serving.desk_in c.writers.service in
    let number : ℕ = (core_of writer).seat.place in
    let flush : ℕ = last_flush (view_in writer).letters.answers in
    let told = told_last old_view desk number c.writers.place flush (view_in writer) seat is.place_is leaves.knows none leaves.few in
    let told_all = told_next looks desk old_view number (view_in writer).begun flush seats seat i.told
    (subst (λ (p : ℕ). IsTold looks (with_tale desk old_view number (view_in writer).begun flush) p seat) here told) in
    record {
      gone = i.gone ++ home ∷ [];
      all = append_assoc i.gone (home ∷ []) c.remove.new.self.items ∙ ap (λ (hs : List (Option TraceWriter)). i.gone ++ hs) (sym first)
          ∙ i.all;
      many = omega (arith, more, gone_is);
      seats_many = ap (λ (ss : List WriterSeat). length ss) seats_is ∙ grown ∙
          (let next : length seats + 1 ≡ c.writers.place + 1 = omega (arith, seats_many) in next);
      counts_many = ap (λ (cs : List Counted). length cs) counts_is ∙ counted_more ∙
          (let next : length counts + 1 ≡ c.writers.place + 1 = omega (arith, counts_many) in next);
      seats_room = omega (arith, seats_room, seats_capacity);
      counts_room = omega (arith, counts_room, counts_capacity);
      serves = ends.serves;
      same = record {
        view = ends.same.view ∙ i.same.view;
        only = only_both (serving.core_of c.args.service.now) (serving.core_of c.writers.service)
            (serving.core_of c.end_writer-seat.new.service) i.same.only ends.same.only;
      };
      left = subst (λ (ss : List WriterSeat). (place : ℕ) (other : WriterSeat) → slice_get ss place ≡ Some other
          → IsLeft c.args.table.now all place other (slice_index_or c.put_behind.new.counts.items place none_counted)) (sym seats_is)
          (subst (λ (cs : List Counted). (place : ℕ) (other : WriterSeat) → slice_get (seats ++ seat ∷ []) place ≡ Some other
          → IsLeft c.args.table.now all place other (slice_index_or cs place none_counted)) (sym counts_is)
          (left_next c.args.table.now all seats seat counts count same i.left
          (subst (λ (p : ℕ). IsLeft c.args.table.now all p seat count) here last)));
      told = subst (λ (ss : List WriterSeat). (place : ℕ) (other : WriterSeat) → slice_get ss place ≡ Some other
          → IsTold (length (serving.view_in c.end_writer-seat.new.service).looks)
          (serving.desk_in c.end_writer-seat.new.service) place other) (sym seats_is)
          (subst (λ (d : Desk). (place : ℕ) (other : WriterSeat) → slice_get (seats ++ seat ∷ []) place ≡ Some other
          → IsTold (length (serving.view_in c.end_writer-seat.new.service).looks) d place other) (sym ends.told)
          (subst (λ (n : ℕ). (place : ℕ) (other : WriterSeat) → slice_get (seats ++ seat ∷ []) place ≡ Some other
          → IsTold n (with_tale desk old_view number (view_in writer).begun flush) place other)
          (ap (λ v. length v.looks) (sym ends.same.view)) told_all));
    }
