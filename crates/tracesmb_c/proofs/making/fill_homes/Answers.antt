-- The next seat is that of the next place, and its writer goes there.
use Rattle.std.proofs.Common.{◌≡◌, ◌∙◌, ℕ, ◌<◌, Option, List, [], ◌∷◌, ◌++◌, Some, slice_get, get_or, length, refl, length-append}
use Rattle.std.proofs.Common.{append_assoc, sym, ap, subst, arith}
use Rattle.std.proofs.lemmas.Option.{slice_get-get_or}
use Rattle.trace_base.specs.declared.policy.WriterSpec.{WriterSpec}
use Rattle.chunk_plain.specs.Setup.{Setup, no_writer}
use Rattle.chunk_words.specs.declared.seats.WriterSeat.{WriterSeat}
use Rattle.thread_writer.specs.declared.writer.TraceWriter.{TraceWriter}
use Rattle.replay_host.proofs.MakingLemmas.{pushed_each}
use Rattle.tracesmb_c.specs.Sessions.{IsNewHome, IsNewWriter}
use Rattle.thread_host.proofs.Made.{seat_at, seat_below}
use Rattle.tracesmb_c.proofs.making.fill_homes.Goals as goal

pub make_writer-requires-clause-sits : goal.make_writer-requires-clause-sits
make_writer-requires-clause-sits c = (c.requires.seats.each (length c.loop-seat.yielded) c.in-Some.seat
    (seat_at c.loop-seat.yielded c.loop-seat.seat-iterator.rest.items c.args.seats.items c.next.new.self.rest.items c.in-Some.seat
    c.loop-seat.invariant.rests
    c.in-Some.ensures.steps.0)).1

pub make_writer-requires-clause-fresh : goal.make_writer-requires-clause-fresh
make_writer-requires-clause-fresh c = (c.requires.seats.each (length c.loop-seat.yielded) c.in-Some.seat
    (seat_at c.loop-seat.yielded c.loop-seat.seat-iterator.rest.items c.args.seats.items c.next.new.self.rest.items c.in-Some.seat
    c.loop-seat.invariant.rests
    c.in-Some.ensures.steps.0)).2

pub make_writer-requires-clause-spec : goal.make_writer-requires-clause-spec
make_writer-requires-clause-spec c =
    let specs : List WriterSpec = c.args.specs.now in
    let yielded : List WriterSeat = c.loop-seat.yielded in
    let inv = c.loop-seat.invariant in
    let at = c.requires.seats.each (length yielded) c.in-Some.seat
    (seat_at yielded c.loop-seat.seat-iterator.rest.items c.args.seats.items c.next.new.self.rest.items c.in-Some.seat inv.rests
    c.in-Some.ensures.steps.0) in
    let below = seat_below yielded c.loop-seat.seat-iterator.rest.items c.args.seats.items c.next.new.self.rest.items c.in-Some.seat
    inv.rests
    c.in-Some.ensures.steps.0 in
    let count = c.requires.seats.count_is in
    let many = inv.many in
    let seen = c.len.ensures in
    let long = c.loop-seat.homes.ok.0 in
    let here : length yielded ≡ c.len.result = omega (arith, many, seen, long) in
    let inside : c.len.result < length specs = omega (arith, here, below, count) in
    ap (λ (s : Setup). slice_get s.writers c.in-Some.seat.place) c.requires.setup ∙ ap (λ (n : ℕ). slice_get specs n) (at.0 ∙ here)
    ∙ slice_get-get_or specs c.len.result no_writer inside

pub loop-seat-preserved : goal.loop-seat-preserved
loop-seat-preserved c =
    let table = c.args.table.now in
    let specs : List WriterSpec = c.args.specs.now in
    let old : List (Option TraceWriter) = c.loop-seat.homes.items in
    let one : TraceWriter = c.make_writer.result in
    let home : Option TraceWriter = Some one in
    let seat : WriterSeat = c.in-Some.seat in
    let yielded : List WriterSeat = c.loop-seat.yielded in
    let next : List WriterSeat = c.next.new.self.rest.items in
    let inv = c.loop-seat.invariant in
    let is : ℕ → Option TraceWriter → Type 0 = IsNewHome table specs in
    let items : c.push.new.self.items ≡ old ++ home ∷ [] = c.in-Ok.ensures.items in
    let at = c.requires.seats.each (length yielded) seat
    (seat_at yielded c.loop-seat.seat-iterator.rest.items c.args.seats.items next seat inv.rests c.in-Some.ensures.steps.0) in
    let many : length old ≡ length yielded = inv.many in
    let capacity = c.in-Ok.ensures.capacity in
    let room = inv.room in
    let below = seat_below yielded c.loop-seat.seat-iterator.rest.items c.args.seats.items next seat inv.rests c.in-Some.ensures.steps.0 in
    let count = c.requires.seats.count_is in
    let seen = c.len.ensures in
    let long = c.loop-seat.homes.ok.0 in
    let here : c.len.result ≡ length old = omega (arith, seen, long) in
    let inside : length old < length specs = omega (arith, many, below, count) in
    let spec_is : slice_get specs (length old) ≡ Some (get_or specs (length old) no_writer) = slice_get-get_or specs
    (length old) no_writer inside in
    let made : IsNewWriter table seat.place (get_or specs (length old) no_writer).policy one =
    subst (λ (n : ℕ). IsNewWriter table seat.place (get_or specs n no_writer).policy one) here c.make_writer.ensures in
    let new : IsNewHome table specs (length old) home = record {
      writer = one;
      home_is = refl;
      made = λ spec there.
          let same : get_or specs (length old) no_writer ≡ spec = cc in
          subst (λ (p : ℕ). IsNewWriter table p spec.policy one) (at.0 ∙ sym many)
          (subst (λ (s : WriterSpec). IsNewWriter table seat.place s.policy one) same made);
    } in
    record {
      rests = append_assoc yielded (seat ∷ []) next ∙ ap (λ (rest : List WriterSeat). yielded ++ rest) (sym c.in-Some.ensures.steps.0)
          ∙ inv.rests;
      many =
          let longer = ap (λ (hs : List (Option TraceWriter)). length hs) items in
          let pushed = length-append old (home ∷ []) in
          let came = length-append yielded (seat ∷ []) in omega (arith, many, longer, pushed, came);
      room = omega (arith, room, capacity);
      made = λ place other there.
          pushed_each is old home inv.made new place other
          (subst (λ (homes : List (Option TraceWriter)). slice_get homes place ≡ Some other) items there);
    }
