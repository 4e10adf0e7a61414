use Rattle.std.proofs.Common.{ap, arith}
use Rattle.chunk_words.specs.Knows.{view_of, made_of, desk_of, watch_of, service_of}
use Rattle.chunk_words.specs.Moves.{Mine}
use Rattle.chunk_words.proofs.Closing.{joins_shared}
use Rattle.chunk_words.proofs.host.HostTable.join_one.Goals as goal

pub join_seat-requires : goal.join_seat-requires
join_seat-requires c =
    let self = c.args.self.now in let seat = c.args.service.now.seat in let k = seat.me.0 in let mine = c.args.mine.seat in (
      c.requires.seat.joined,
      c.requires.joined,
      ap (λ (m : Mine). m.1) c.requires.rests,
      (let words = self.word_count in omega arith),
      rw (self.key, c.requires.seat.idle, c.requires.rests)
          (joins_shared self.layout seat.id c.args.mine.place (made_of k) mine.id (desk_of k) (watch_of k) (service_of k) (view_of mine.me.0) c.requires.next),
    )
