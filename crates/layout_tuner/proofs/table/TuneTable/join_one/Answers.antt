use Rattle.std.proofs.Common.{ap, arith}
use Rattle.layout_tuner.specs.Knows.{made_of, joined_of, watch_of, collector_of, view_of}
use Rattle.layout_tuner.specs.Plays.{Mine}
use Rattle.layout_tuner.proofs.Hearing.{joins_tuned}
use Rattle.layout_tuner.proofs.table.TuneTable.join_one.Goals as goal

pub join_seat-requires : goal.join_seat-requires
join_seat-requires c =
    let self = c.args.self.now in let seat = c.args.collect.now.seat in let k = seat.me.0 in let mine = c.args.mine.seat in (
      c.requires.seat,
      c.requires.mine.joined,
      ap (λ (m : Mine). m.1) c.requires.mine.idle,
      (let words = self.word_count in let some = self.some_page in omega (arith, words, some)),
      rw (self.key, c.requires.idle, c.requires.mine.idle)
          (joins_tuned self.shape seat.id c.args.mine.number (made_of k) mine.id (joined_of k) (watch_of k) (collector_of k) (view_of mine.me.0) c.requires.next),
    )
