-- The commit is answered, and the answer is kept.
use Rattle.std.proofs.Common.{◌∙◌, ℕ, suc, ◌<◌, List, length, sym, ap, subst, arith, vec_len}
use Rattle.std.specs.Prelude.{vec_capacity}
use Rattle.replay_host.specs.declared.flushes.Flushes.{Flushes}
use Rattle.replay_host.proofs.KindLemmas.{comes_raw}
use Rattle.replay_host.proofs.MomentLemmas.{flag_is, names_inside, names_open}
use Rattle.replay_host.proofs.RawLinesLemmas.{numbers_raw}
use Rattle.replay_host.proofs.RawPlayedLemmas.{may_commit, raw_played}
use Rattle.replay_host.proofs.lines.Host+W+W+Writer+W+Service.play_raw.Goals as goal

pub commit-answer-requires-clause-host : goal.commit-answer-requires-clause-host
commit-answer-requires-clause-host g c = c.requires.next.2.at.going.kept.is_host

pub commit-answer-requires-clause-may : goal.commit-answer-requires-clause-may
commit-answer-requires-clause-may g c =
    let moment = c.requires.next.0 in
    let next = c.requires.next.2 in
    let comes = comes_raw g.W.Words.means moment c.args.self.now c.args.place c.args.chunk.now c.requires.next.1 next in
    may_commit g.W.Words.means moment c.args.place c.args.chunk.now c.args.self.now next.at.going.kept comes.1

pub commit-answer-requires-clause-open : goal.commit-answer-requires-clause-open
commit-answer-requires-clause-open g c =
    let moment = c.requires.next.0 in
    let next = c.requires.next.2 in
    let comes = comes_raw g.W.Words.means moment c.args.self.now c.args.place c.args.chunk.now c.requires.next.1 next in
    flag_is g.W.Words.means moment.scenario moment.before moment.notes c.args.self.now next.at.going.kept c.args.place
    (names_inside moment.scenario.writers moment.before c.args.place comes.1.of_writer)
    ∙ names_open moment.scenario moment.before c.args.place comes.1.of_writer

pub tell-requires : goal.tell-requires
tell-requires g c =
    let moment = c.requires.next.0 in
    let next = c.requires.next.2 in
    let one = ap (λ (ns : List ℕ). length ns) (numbers_raw moment.line moment.rest (suc c.args.place) c.args.chunk.now c.requires.next.1) in
    let room = next.at.going.told_room in
    let less : vec_len c.args.self.now.flushes.answers < vec_capacity c.args.self.now.flushes.answers = omega (arith, one, room) in
    subst (λ (f : Flushes). vec_len f.answers < vec_capacity f.answers) (sym c.commit-answer.ensures.leaves.writers.flushes) less

pub returns-clause-played : goal.returns-clause-played
returns-clause-played g c moment what next taken =
    let means = g.W.Words.means in
    let comes = comes_raw means moment c.args.self.now c.args.place c.args.chunk.now what next in
    let commit = c.commit-answer.ensures in
    let tell = c.tell.ensures in
    raw_played means moment c.args.place c.args.chunk.now c.commit-answer.result c.args.self.now c.commit-answer.new.self c.tell.new.self
    taken what comes.0 commit.leaves.host commit.leaves.writers commit.leaves.opened commit.leaves.session (commit.done taken) tell.tally tell.made tell.answered
    tell.chunks tell.more tell.room
