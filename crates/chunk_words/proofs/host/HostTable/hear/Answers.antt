use Rattle.std.proofs.Common.{◌∙◌, [], ap, arith}
use Rattle.chunk_plain.specs.Views.{asked_in}
use Rattle.chunk_words.specs.Knows.{view_of, passed_of, notice_of}
use Rattle.chunk_words.specs.Moves.{Mine}
use Rattle.chunk_words.proofs.MailPass.{notice_cut, notice_heard}
use Rattle.chunk_words.proofs.host.HostTable.hear.Goals as goal

pub split_seat-notice-requires : goal.split_seat-notice-requires
split_seat-notice-requires c =
    let self = c.args.self.now in let pass = c.args.pass.now.seat in (
      c.requires.pass.joined,
      (let words = self.word_count in omega arith),
      rw (self.key, c.requires.pass.idle) (notice_cut self.layout pass.id (passed_of pass.me.0)),
    )

pub join_seat-requires : goal.join_seat-requires
join_seat-requires c =
    let self = c.args.self.now in let seat = c.args.seat.now in let pass = c.args.pass.now.seat in
    let notice = c.split_seat-notice.ensures.4 ∙ ap (λ (m : Mine). let n : Mine = (notice_of m.0, []) in n) c.requires.pass.idle in (
      c.requires.seat.joined,
      c.split_seat-notice.ensures.3 ∙ c.requires.pass.joined,
      ap (λ (m : Mine). m.1) notice,
      (let words = self.word_count in omega arith),
      rw (self.key, c.requires.seat.rests.idle, notice)
          (notice_heard self.layout seat.seat.id seat.place c.split_seat-notice.result.id (asked_in (passed_of pass.me.0).letters) (view_of seat.seat.me.0)),
    )
