use Rattle.std.proofs.Common.{◌∙◌, [], refl, ap, arith}
use Rattle.chunk_words.specs.Knows.{Away, Nothing, Knows, Service, made_of, desk_of, watch_of, service_of, passed_of, with_stage}
use Rattle.chunk_words.specs.Moves.{Mine}
use Rattle.chunk_words.proofs.Rests.{attends_as}
use Rattle.chunk_words.proofs.Staging.{pass_handed}
use Rattle.chunk_words.proofs.host.HostTable.compare.Goals as goal

pub split_seat-inner-requires : goal.split_seat-inner-requires
split_seat-inner-requires c =
    let self = c.args.self.now in let pass = c.args.pass.now.seat in (
      c.requires.pass.joined,
      (let words = self.word_count in omega arith),
      rw (self.key, c.requires.pass.idle) (pass_handed self.layout pass.id (passed_of pass.me.0)),
    )

pub returns-clause-seat : goal.returns-clause-seat
returns-clause-seat c =
    let self = c.args.self.now in let seat = c.args.seat.now in let k = seat.seat.me.0 in let waits = c.requires.seat.waits in
    let view = service_of k in let read = c.step_compare.ensures.me in
    let taken = ap (λ (m : Mine). m.0) c.take_pass.ensures.me in
    let noted = ap (λ (m : Mine). m.0) read.new_is in
    attends_as self seat c.give_pass.new.seat (with_stage (desk_of k) Away) Nothing view c.requires.seat (c.give_pass.ensures.seat ∙ (c.step_compare.ensures.seat ∙ c.take_pass.ensures.seat)) refl
    (c.give_pass.ensures.me
    ∙ (ap (λ (n : Knows). let m : Mine = (Service 0 (made_of n) (with_stage (desk_of n) Away) (watch_of n) (service_of n), []) in m) noted
    ∙ ap (λ (n : Knows). let m : Mine = (Service 0 (made_of n) (with_stage (desk_of n) Away) Nothing (service_of n), []) in m) taken))
    waits.serving waits.seen
