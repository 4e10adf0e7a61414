use Rattle.std.proofs.Common.{◌+◌, ◌∙◌, [], refl, ap, arith}
use Rattle.chunk_plain.specs.Views.{newcomer}
use Rattle.chunk_words.specs.Knows.{Writer, Service, Knows, made_of, desk_of, watch_of, service_of}
use Rattle.chunk_words.specs.Moves.{Mine}
use Rattle.chunk_words.proofs.Making.{seats_more}
use Rattle.chunk_words.proofs.host.HostTable.make_seats.Goals as goal

pub loop-place-preserved : goal.loop-place-preserved
loop-place-preserved c =
    let self = c.args.self.now in let place = c.loop-place.place in let invariant = c.loop-place.invariant in
    let known = ap (λ (m : Mine). m.0) invariant.me in
    record {
      seat = c.next_seat-seat.ensures.seat ∙ invariant.seat;
      me = c.next_seat-seat.ensures.me ∙ ap (λ (k : Knows). let m : Mine = (Service 0 (made_of k + 1) (desk_of k) (watch_of k) (service_of k), []) in m) known;
      seats = rw c.in_ok-push.ensures.items (seats_more self place c.loop-place.seats.items _ invariant.seats refl
          (c.next_seat-seat.ensures.joined ∙ (invariant.seat ∙ c.requires.seat))
          (c.next_seat-seat.ensures.made ∙ ap (λ (k : Knows). let m : Mine = (Writer (made_of k) 0 newcomer, []) in m) known)
          (let count = c.requires.count in let less = c.loop-place-test.true in let ended = c.loop-place.auto.place-end in omega arith));
    }
