use Rattle.std.proofs.Common.{◌+◌, ◌∙◌, [], refl, ap}
use Rattle.layout_tuner.specs.Knows.{Knows, User, Collector, newcomer, made_of, joined_of, watch_of, collector_of}
use Rattle.layout_tuner.specs.Plays.{Mine}
use Rattle.layout_tuner.proofs.Making.{seats_more}
use Rattle.layout_tuner.proofs.table.TuneTable.make_seats.Goals as goal

pub loop-number-preserved : goal.loop-number-preserved
loop-number-preserved c =
    let self = c.args.self.now in let number = c.loop-number.number in let invariant = c.loop-number.invariant in
    let known = ap (λ (m : Mine). m.0) invariant.me in
    record {
      seat = c.next_seat-seat.ensures.seat ∙ invariant.seat;
      me = c.next_seat-seat.ensures.me ∙ ap (λ (k : Knows). let m : Mine = (Collector (made_of k + 1) (joined_of k) (watch_of k) (collector_of k), []) in m) known;
      seats = rw c.in_ok-push.ensures.items (seats_more self number c.loop-number.seats.items _ invariant.seats refl
          (c.next_seat-seat.ensures.joined ∙ (invariant.seat ∙ c.requires.seat))
          (c.next_seat-seat.ensures.made ∙ ap (λ (k : Knows). let m : Mine = (User (made_of k) newcomer, []) in m) known));
    }
