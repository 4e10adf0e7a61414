use Rattle.std.proofs.Common.{arith}
use Rattle.layout_tuner.specs.Knows.{made_of, joined_of, watch_of, collector_of}
use Rattle.layout_tuner.proofs.Making.{splits_tuned}
use Rattle.layout_tuner.proofs.table.TuneTable.next_seat.Goals as goal

pub split_seat-requires : goal.split_seat-requires
split_seat-requires c =
    let self = c.args.self.now in let seat = c.args.collect.now.seat in let k = seat.me.0 in (
      c.requires.seat,
      (let words = self.word_count in let some = self.some_page in omega (arith, words, some)),
      rw (self.key, c.requires.idle) (splits_tuned self.shape seat.id (made_of k) (joined_of k) (watch_of k) (collector_of k) c.requires.inside),
    )
