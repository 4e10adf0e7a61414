use Rattle.std.proofs.Common.{arith}
use Rattle.chunk_words.specs.Knows.{made_of, desk_of, watch_of, service_of}
use Rattle.chunk_words.proofs.Making.{splits_shared}
use Rattle.chunk_words.proofs.host.HostTable.next_seat.Goals as goal

pub split_seat-requires : goal.split_seat-requires
split_seat-requires c =
    let self = c.args.self.now in let seat = c.args.service.now.seat in let k = seat.me.0 in (
      c.requires.seat.joined,
      (let words = self.word_count in omega arith),
      rw (self.key, c.requires.seat.idle)
          (splits_shared self.layout seat.id (made_of k) (desk_of k) (watch_of k) (service_of k) c.requires.inside),
    )
