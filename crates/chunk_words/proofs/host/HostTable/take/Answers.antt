use Rattle.std.proofs.Common.{ℕ, ◌-◌, ◌∙◌, None, [], ap, subst, arith}
use Rattle.page_geometry.specs.Header.{packed}
use Rattle.chunk_plain.specs.Views.{Content, ServiceView, taken_of}
use Rattle.chunk_plain.specs.Steps.{looks_at, takes_in, learns}
use Rattle.chunk_plain.specs.Shows.{content_of}
use Rattle.chunk_plain.proofs.Taking.{taken_serves}
use Rattle.chunk_plain.specs.Setup.{from_of}
use Rattle.chunk_words.specs.Knows.{Knows, Nothing, service_of, by_service}
use Rattle.chunk_words.specs.Moves.{Mine, IsSeen}
use Rattle.chunk_words.proofs.Rests.{attends_now}
use Rattle.chunk_words.proofs.host.HostTable.take.Goals as goal

pub returns-clause-seat : goal.returns-clause-seat
returns-clause-seat c =
    let self = c.args.self.now in let seat = c.args.seat.now in let place = c.args.writer - 1 in let header = c.in_ok-word.header in
    let serves = c.take_found-body.ensures.left.me in let ready = c.in_ok-word.ensures.ready in
    let known = ap (λ (m : Mine). m.0) ready.new_is in
    let content : ℕ → Content = λ position. content_of (from_of self.layout place) place position (record { count = header.count; flags = header.flags }) c.take_found-body.result in
    -- the position is how many were taken as the seat found the chunk, and finding it took none
    let next : Knows → ℕ = λ k. (taken_of (service_of k) place).count in
    let step : ℕ → ServiceView → ServiceView = λ position v. learns (takes_in (looks_at v c.args.chunk c.in_ok-word.word (packed header) None) place c.args.chunk) place (content position) in
    let position = next seat.seat.me.0 in
    attends_now self seat c.take_found-body.new.seat Nothing (step position (service_of seat.seat.me.0)) c.requires.seat (c.take_found-body.ensures.left.seat ∙ c.in_ok-word.ensures.joined)
    (serves.new_is ∙ ap (λ (k : Knows). let m : Mine = (by_service 0 Nothing (step (next k)) k, []) in m) known)
    (taken_serves self.layout (service_of seat.seat.me.0) place c.args.chunk c.in_ok-word.word header (content position) c.requires.seat.waits.serving (let least = c.requires.next.least in let most = c.requires.next.most in omega arith))
    (subst (λ (k : Knows). IsSeen (step (next k) (service_of k))) known serves.seen)
