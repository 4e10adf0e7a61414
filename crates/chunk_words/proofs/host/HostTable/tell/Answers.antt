use Rattle.std.proofs.Common.{◌∙◌, refl, [], ap, arith}
use Rattle.chunk_plain.specs.Letters.{last_flush}
use Rattle.chunk_words.specs.Knows.{Service, made_of, desk_of, watch_of, service_of, view_of, with_tale, tells, hears}
use Rattle.chunk_words.specs.Moves.{Mine}
use Rattle.chunk_words.proofs.Rests.{attends_as}
use Rattle.chunk_words.proofs.Staging.{tale_cut, tale_heard}
use Rattle.chunk_words.proofs.host.HostTable.tell.Goals as goal

pub split_seat-report-requires : goal.split_seat-report-requires
split_seat-report-requires c =
    let self = c.args.self.now in let from = c.args.from.now in (
      c.requires.from.joined,
      (let words = self.word_count in omega arith),
      rw (self.key, c.requires.from.rests.idle) (tale_cut self.layout from.seat.id from.place 0 (view_of from.seat.me.0)),
    )

pub join_seat-requires : goal.join_seat-requires
join_seat-requires c =
    let self = c.args.self.now in let from = c.args.from.now in let seat = c.args.service.now.seat in let k = seat.me.0 in let report = c.split_seat-report.result in
    let tale = c.split_seat-report.ensures.4 ∙ ap (λ (m : Mine). let n : Mine = (tells m.0, []) in n) c.requires.from.rests.idle in (
      c.requires.service.joined,
      c.split_seat-report.ensures.3 ∙ c.requires.from.joined,
      ap (λ (m : Mine). m.1) tale,
      (let words = self.word_count in omega arith),
      rw (self.key, c.requires.service.waits.idle, tale)
          (tale_heard self.layout seat.id (made_of k) report.id from.place (desk_of k) (watch_of k) (service_of k) (view_of from.seat.me.0).begun (last_flush (view_of from.seat.me.0).letters.answers)),
    )

pub returns-clause-service : goal.returns-clause-service
returns-clause-service c =
    let self = c.args.self.now in let from = c.args.from.now in let service = c.args.service.now in let k = service.seat.me.0 in let waits = c.requires.service.waits in
    let tale = c.split_seat-report.ensures.4 ∙ ap (λ (m : Mine). let n : Mine = (tells m.0, []) in n) c.requires.from.rests.idle in
    attends_as self service (record { seat = c.join_seat.new.seat }) (with_tale (desk_of k) (service_of k) from.place (view_of from.seat.me.0).begun (last_flush (view_of from.seat.me.0).letters.answers)) (watch_of k) (service_of k) c.requires.service
    c.join_seat.ensures.0 refl
    (c.join_seat.ensures.2
    ∙ (ap (λ (m : Mine). let n : Mine = (hears m.0 c.split_seat-report.result.me.0, m.1) in n) waits.idle
    ∙ ap (λ (m : Mine). let n : Mine = (hears (Service 0 (made_of k) (desk_of k) (watch_of k) (service_of k)) m.0, []) in n) tale))
    waits.serving waits.seen
