-- Each writer leaves its seat behind those before it.
use Rattle.std.proofs.Common.{◌≡◌, ◌∙◌, ℕ, ◌+◌, ◌<◌, Some, List, [], ◌∷◌, ◌++◌, length, length-append, length-set, append_assoc, sym, ap, subst, arith}
use Rattle.std.specs.Prelude.{slice_get, slice_set}
use Rattle.trace_base.proofs.Lists.{get_seam}
use Rattle.chunk_plain.specs.Letters.{last_flush}
use Rattle.run_model.specs.Settled.{last_flushes}
use Rattle.chunk_words.specs.declared.seats.WriterSeat.{WriterSeat}
use Rattle.chunk_words.specs.Closed.{views_of}
use Rattle.chunk_words.specs.Knows.{Desk}
use Rattle.loss_report.specs.declared.counts.SequenceCounts.{SequenceCounts}
use Rattle.thread_service.specs.Serving as serving
use Rattle.thread_writer.specs.declared.writer.TraceWriter.{TraceWriter}
use Rattle.thread_writer.specs.Writing.{core_of, view_in}
use Rattle.thread_host.specs.Ending.{AreDoneSeats, HasHeardAll}
use Rattle.thread_host.specs.Hosts.{HasPlayed}
use Rattle.thread_host.proofs.Seating.{left_first, only_both, done_seat, heard_last, heard_all, done_all, know_last}
use Rattle.thread_host.proofs.settled.end_writers.Goals as goal

-- the writer that is taken out stands at its place among all of them
next_there : (all gone left rest : List TraceWriter) (writer : TraceWriter) (place : ℕ) → gone ++ left ≡ all → length gone ≡ place → left ≡ writer ∷ rest
    → slice_get all place ≡ Some writer
next_there all gone left rest writer place is many first =
    subst (λ (n : ℕ). slice_get all n ≡ Some writer) many
    (subst (λ (ws : List TraceWriter). slice_get ws (length gone) ≡ Some writer) (ap (λ (ws : List TraceWriter). gone ++ ws) (sym first) ∙ is) (get_seam gone rest writer))

some_left : (all gone left : List TraceWriter) (place many : ℕ) → gone ++ left ≡ all → length gone ≡ place → many ≡ length all → place < many → 0 < length left
some_left all gone left place many is gone_is all_is below =
    let sum = ap (λ (ws : List TraceWriter). length ws) is in
    let parts = length-append gone left in
    omega (arith, sum, parts, gone_is, all_is, below)

pub end_writer-seat-requires-clause-writes : goal.end_writer-seat-requires-clause-writes
end_writer-seat-requires-clause-writes c =
    let i = c.writers.invariant in
    let all = c.args.writers.items in
    let left = c.writers.left.items in
    let first = left_first left c.remove.new.self.items c.remove.result
    (some_left all i.gone left c.writers.place c.len-many.result i.all i.many (let len = c.len-many.ensures in let ok = c.args.writers.ok.0 in omega (arith, len, ok)) c.writers-test.true)
    c.remove.ensures.value c.remove.ensures.by_index.2 in
    (c.requires.played.1.each c.writers.place c.remove.result (next_there all i.gone left c.remove.new.self.items c.remove.result c.writers.place i.all i.many first)).writes

pub end_writer-seat-requires-clause-none_held : goal.end_writer-seat-requires-clause-none_held
end_writer-seat-requires-clause-none_held c =
    let i = c.writers.invariant in
    let all = c.args.writers.items in
    let left = c.writers.left.items in
    let first = left_first left c.remove.new.self.items c.remove.result
    (some_left all i.gone left c.writers.place c.len-many.result i.all i.many (let len = c.len-many.ensures in let ok = c.args.writers.ok.0 in omega (arith, len, ok)) c.writers-test.true)
    c.remove.ensures.value c.remove.ensures.by_index.2 in
    (c.requires.played.1.each c.writers.place c.remove.result (next_there all i.gone left c.remove.new.self.items c.remove.result c.writers.place i.all i.many first)).none_held

pub writers-preserved : goal.writers-preserved
writers-preserved c =
    let i = c.writers.invariant in
    let all : List TraceWriter = c.args.writers.items in
    let left : List TraceWriter = c.writers.left.items in
    let writer : TraceWriter = c.remove.result in
    let seats : List WriterSeat = c.writers.seats.items in
    let seat : WriterSeat = c.end_writer-seat.result.0 in
    let counts : SequenceCounts = c.end_writer-seat.result.1 in
    let ends = c.end_writer-seat.ensures in
    let first = left_first left c.remove.new.self.items c.remove.result
    (some_left all i.gone left c.writers.place c.len-many.result i.all i.many (let len = c.len-many.ensures in let ok = c.args.writers.ok.0 in omega (arith, len, ok)) c.writers-test.true)
    c.remove.ensures.value c.remove.ensures.by_index.2 in
    let there = next_there all i.gone left c.remove.new.self.items writer c.writers.place i.all i.many first in
    let items : c.push.new.self.items ≡ seats ++ seat ∷ [] = c.in-Ok.ensures.items in
    let grown = length-append seats (seat ∷ []) in
    let more = length-append i.gone (writer ∷ []) in
    let gone_is = i.many in
    let seats_is = i.seats_many in
    let place : ℕ = length seats in
    let here : c.writers.place ≡ place = sym seats_is in
    let capacity = c.in-Ok.ensures.capacity in
    let room = i.room in
    let played = c.requires.played.1.each c.writers.place writer there in
    let old_looks = length (serving.view_in c.writers.service).looks in
    let looks_same : length (serving.view_in c.writers.service).looks ≡ length (serving.view_in c.end_writer-seat.new.service).looks =
    ap (λ v. length v.looks) (sym ends.learns.view) in
    let last = subst (λ (p : ℕ). HasPlayed c.requires.played.0 last_flushes c.args.table.now p writer) here played in
    let heard = heard_all old_looks (serving.desk_in c.writers.service) (serving.view_in c.writers.service) (core_of writer).seat.place (view_in writer).begun (last_flush (view_in writer).letters.answers)
    seats seat i.heard
    (heard_last c.requires.played.0 c.args.table.now place (serving.view_in c.writers.service) (serving.desk_in c.writers.service) writer seat last ends.seat.knows ends.seat.few) in
    let heard_next = subst (λ (d : Desk). HasHeardAll old_looks d (seats ++ seat ∷ [])) (sym ends.told) heard in
    let heard_now = subst (λ (n : ℕ). HasHeardAll n (serving.desk_in c.end_writer-seat.new.service) (seats ++ seat ∷ [])) looks_same heard_next in
    let wide = i.sequences in
    let below = c.writers-test.true in
    let many = c.requires.played.1.many in
    let len = c.len-many.ensures in
    let ok = c.args.writers.ok.0 in
    let inside : place < length c.writers.sequences = omega (arith, here, below, wide, many, len, ok) in
    record {
      gone = i.gone ++ writer ∷ [];
      all = append_assoc i.gone (writer ∷ []) c.remove.new.self.items ∙ ap (λ (ws : List TraceWriter). i.gone ++ ws) (sym first) ∙ i.all;
      many = omega (arith, more, gone_is);
      seats_many = ap (λ (ss : List WriterSeat). length ss) items ∙ grown ∙ (let same : length seats + 1 ≡ c.writers.place + 1 = omega (arith, seats_is) in same);
      know = ap views_of items ∙ know_last seats i.gone seat writer i.know ends.seat.knows;
      room = omega (arith, room, capacity);
      sequences = length-set c.writers.sequences c.writers.place counts ∙ i.sequences;
      learns = record {
        serves = ends.learns.serves;
        view = ends.learns.view ∙ i.learns.view;
        only = only_both (serving.core_of c.args.service.now) (serving.core_of c.writers.service) (serving.core_of c.end_writer-seat.new.service) i.learns.only ends.learns.only;
      };
      heard = subst (λ (ss : List WriterSeat). HasHeardAll (length (serving.view_in c.end_writer-seat.new.service).looks) (serving.desk_in c.end_writer-seat.new.service) ss)
          (sym items) heard_now;
      ended = λ lines have.
          let one = done_seat lines c.args.table.now place writer seat counts
          (subst (λ (p : ℕ). HasPlayed lines last_flushes c.args.table.now p writer) here (have.each c.writers.place writer there)) ends.seat.sits ends.seat.knows ends.seat.place_is ends.counts in
          subst (λ (ss : List WriterSeat). AreDoneSeats lines c.args.table.now ss (slice_set c.writers.sequences c.writers.place counts)) (sym items)
          (subst (λ (p : ℕ). AreDoneSeats lines c.args.table.now (seats ++ seat ∷ []) (slice_set c.writers.sequences p counts)) (sym here)
          (done_all lines c.args.table.now seats seat c.writers.sequences counts inside (i.ended lines have) one));
    }
