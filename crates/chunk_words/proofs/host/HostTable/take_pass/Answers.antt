use Rattle.std.proofs.Common.{ap, arith}
use Rattle.chunk_words.specs.Knows.{made_of, desk_of, passed_of, watch_of, service_of}
use Rattle.chunk_words.specs.Moves.{Mine}
use Rattle.chunk_words.proofs.Staging.{pass_joins}
use Rattle.chunk_words.proofs.host.HostTable.take_pass.Goals as goal

pub join_seat-requires : goal.join_seat-requires
join_seat-requires c =
    let self = c.args.self.now in let seat = c.args.seat.now.seat in let k = seat.me.0 in let pass = c.args.pass in (
      c.requires.seat.joined,
      c.requires.joined,
      ap (λ (m : Mine). m.1) c.requires.pass,
      (let words = self.word_count in omega arith),
      rw (self.key, c.requires.seat.idle, c.requires.pass)
          (pass_joins self.layout seat.id (made_of k) (desk_of k) (watch_of k) (service_of k) pass.id (passed_of pass.me.0)),
    )
