use Rattle.std.proofs.Common.{arith}
use Rattle.chunk_words.specs.Knows.{made_of, desk_of, stage_of, staged, watch_of, service_of}
use Rattle.chunk_words.proofs.Staging.{pass_given}
use Rattle.chunk_words.proofs.host.HostTable.give_pass.Goals as goal

pub split_seat-requires : goal.split_seat-requires
split_seat-requires c =
    let self = c.args.self.now in let seat = c.args.seat.now.seat in let k = seat.me.0 in (
      c.requires.seat.joined,
      (let words = self.word_count in omega arith),
      rw (self.key, c.requires.seat.idle)
          (pass_given self.layout seat.id (made_of k) (desk_of k) (watch_of k) (service_of k) (staged (stage_of k)) c.requires.here),
    )
