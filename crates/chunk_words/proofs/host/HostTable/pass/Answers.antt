use Rattle.std.proofs.Common.{◌∙◌, refl, ap, arith}
use Rattle.chunk_words.specs.Knows.{Away, made_of, desk_of, watch_of, service_of, with_stage, without_pass}
use Rattle.chunk_words.specs.Moves.{Mine}
use Rattle.chunk_words.proofs.Rests.{attends_as}
use Rattle.chunk_words.proofs.Staging.{pass_made}
use Rattle.chunk_words.proofs.host.HostTable.pass.Goals as goal

pub split_seat-requires : goal.split_seat-requires
split_seat-requires c =
    let self = c.args.self.now in let seat = c.args.seat.now.seat in let k = seat.me.0 in let waits = c.requires.seat.waits in (
      c.requires.seat.joined,
      (let words = self.word_count in omega arith),
      rw (self.key, waits.idle)
          (pass_made self.layout seat.id (made_of k) (desk_of k) (watch_of k) (service_of k) c.requires.none_made),
    )

pub returns-clause-seat : goal.returns-clause-seat
returns-clause-seat c =
    let self = c.args.self.now in let seat = c.args.seat.now in let k = seat.seat.me.0 in let waits = c.requires.seat.waits in
    attends_as self seat (record { seat = c.split_seat.new.seat }) (with_stage (desk_of k) Away) (watch_of k) (service_of k) c.requires.seat c.split_seat.ensures.0 refl
    (c.split_seat.ensures.2 ∙ (ap (λ (m : Mine). let n : Mine = (without_pass m.0, m.1) in n) waits.idle)) waits.serving waits.seen
