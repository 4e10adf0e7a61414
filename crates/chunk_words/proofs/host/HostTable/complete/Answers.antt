use Rattle.std.proofs.Common.{◌≡◌, ◌∙◌, [], ap, refl}
use Rattle.chunk_plain.specs.Views.{Completed}
use Rattle.chunk_plain.specs.Steps.{completes}
use Rattle.chunk_plain.specs.Drafts.{head_at}
use Rattle.chunk_plain.specs.Shows.{content_of}
use Rattle.chunk_plain.proofs.Resting.{entry_rest}
use Rattle.chunk_plain.proofs.Known.{some_is}
use Rattle.chunk_plain.specs.Setup.{from_of}
use Rattle.chunk_words.specs.Knows.{Knows, view_of, place_of, by_writer}
use Rattle.chunk_words.specs.Moves.{Mine, Completes, body_in}
use Rattle.chunk_words.proofs.Rests.{sits_now, held_of_table}
use Rattle.chunk_words.proofs.host.HostTable.complete.Goals as goal

pub step_fetch-requires-clause-chunk : goal.step_fetch-requires-clause-chunk
step_fetch-requires-clause-chunk c =
    let self = c.args.self.now in let seat = c.args.seat.now in
    held_of_table self.layout seat.place c.args.held.chunk c.args.held.position (view_of seat.seat.me.0) self.laid c.requires.seat.rests.rests c.requires.held

pub step_complete-requires-clause-chunk : goal.step_complete-requires-clause-chunk
step_complete-requires-clause-chunk c =
    let self = c.args.self.now in let seat = c.args.seat.now in
    held_of_table self.layout seat.place c.args.held.chunk c.args.held.position (view_of seat.seat.me.0) self.laid c.requires.seat.rests.rests c.requires.held

pub returns-clause-seat : goal.returns-clause-seat
returns-clause-seat c =
    let self = c.args.self.now in let seat = c.args.seat.now in let view = view_of seat.seat.me.0 in
    let chunk = c.args.held.chunk in let position = c.args.held.position in let body = c.args.held.body in
    let between = c.body_in.new.seat in let last = c.step_complete.new.seat.seat.me in
    let done : Completes self.layout chunk position body between.me last = some_is (λ b. Completes self.layout chunk position b between.me last) (body_in between.me.1) body (ap (λ (m : Mine). body_in m.1) c.body_in.ensures.me) c.step_complete.ensures.me in
    let known = ap (λ (m : Mine). m.0) c.body_in.ensures.me ∙ ap (λ (m : Mine). m.0) c.step_fetch.ensures.me.new_is in
    let place_is : place_of seat.seat.me.0 ≡ seat.place = ap (λ (m : Mine). place_of m.0) c.requires.seat.rests.idle in
    let content = content_of (from_of self.layout (place_of seat.seat.me.0)) (place_of seat.seat.me.0) position (head_at view position) body in
    sits_now self seat c.step_complete.new.seat (completes view chunk position content) c.requires.seat
    (c.step_complete.ensures.seat ∙ (c.body_in.ensures.seat ∙ c.step_fetch.ensures.seat)) (c.step_complete.ensures.place ∙ c.step_fetch.ensures.place)
    (done ∙ ap (λ (k : Knows). let m : Mine = (by_writer 0 (λ v. completes v chunk position (content_of (from_of self.layout (place_of k)) (place_of k) position (head_at v position) body)) k, []) in m) known)
    (entry_rest self.layout seat.place view c.requires.seat.rests.rests chunk position (Completed chunk content) c.requires.held refl)
