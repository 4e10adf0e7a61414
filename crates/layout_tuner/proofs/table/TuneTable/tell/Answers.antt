use Rattle.std.proofs.Common.{◌∙◌, [], ap, arith}
use Rattle.layout_tuner.specs.Knows.{made_of, joined_of, watch_of, collector_of, tells}
use Rattle.layout_tuner.specs.Plays.{Mine}
use Rattle.layout_tuner.specs.Sits.{known_by}
use Rattle.layout_tuner.proofs.Hearing.{tells_tuned, hears_tuned}
use Rattle.layout_tuner.proofs.table.TuneTable.tell.Goals as goal

pub split_seat-report-requires : goal.split_seat-report-requires
split_seat-report-requires c =
    let self = c.args.self.now in let seat = c.args.seat.now in (
      c.requires.seat.joined,
      (let words = self.word_count in let some = self.some_page in omega (arith, words, some)),
      rw (self.key, c.requires.seat.idle) (tells_tuned self.shape seat.seat.id seat.number (known_by seat)),
    )

pub join_seat-requires : goal.join_seat-requires
join_seat-requires c =
    let self = c.args.self.now in let from = c.args.seat.now in let seat = c.args.collect.now.seat in let k = seat.me.0 in let report = c.split_seat-report.result in
    let tale = c.split_seat-report.ensures.4 ∙ ap (λ (m : Mine). let n : Mine = (tells m.0, []) in n) c.requires.seat.idle in (
      c.requires.collect.serving.joined,
      c.split_seat-report.ensures.3 ∙ c.requires.seat.joined,
      ap (λ (m : Mine). m.1) tale,
      (let words = self.word_count in let some = self.some_page in omega (arith, words, some)),
      rw (self.key, c.requires.collect.serving.idle, tale)
          (hears_tuned self.shape seat.id (made_of k) report.id from.number (joined_of k) (watch_of k) (collector_of k) (known_by from).completed),
    )
