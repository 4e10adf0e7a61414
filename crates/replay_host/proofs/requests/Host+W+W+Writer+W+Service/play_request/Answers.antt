-- A request is made, the writers answer it, and the chunks are taken.
use Rattle.replay_host.proofs.RequestLemmas.{requested_amid, answered_flags, request_played}
use Rattle.replay_host.proofs.requests.Host+W+W+Writer+W+Service.play_request.Goals as goal

pub answer_all-requires : goal.answer_all-requires
answer_all-requires g c = record {
  amid = requested_amid g.W.Words.means c.requires.next.0 c.args.self.now c.request.new.self c.requires.next.1 c.requires.next.2
      c.request.ensures.requested;
}

pub collect_all-requires : goal.collect_all-requires
collect_all-requires g c =
    let means = g.W.Words.means in
    let moment = c.requires.next.0 in
    let old = c.args.self.now in
    let mid = c.request.new.self in
    let made = c.request.ensures.requested in
    let all = c.answer_all.ensures.answered (requested_amid means moment old mid c.requires.next.1 c.requires.next.2 made) in
    record { flags = answered_flags means moment old mid c.requires.next.1 c.requires.next.2 made c.answer_all.new.self all }

pub returns : goal.returns
returns g c = record {
  played = λ moment is next taken.
      let means = g.W.Words.means in
      let old = c.args.self.now in
      let mid = c.request.new.self in
      let made = c.request.ensures.requested in
      let all = c.answer_all.ensures.answered (requested_amid means moment old mid is next made) in
      request_played means moment old mid is next made c.answer_all.new.self all c.collect_all.new.self taken
      (c.collect_all.ensures.served (answered_flags means moment old mid is next made c.answer_all.new.self all));
}
