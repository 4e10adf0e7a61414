use Rattle.std.proofs.Common.{◌≡◌, ◌∙◌, Some, [], length, vec_len, refl, sym, ap, arith}
use Rattle.commit_body.specs.declared.body.CommitBody.{CommitBody}
use Rattle.chunk_plain.specs.Steps.{stamps, begins}
use Rattle.chunk_plain.proofs.Holding.{begun_at}
use Rattle.chunk_plain.proofs.Resting.{begins_rest}
use Rattle.chunk_words.specs.Knows.{Knows, view_of, by_writer}
use Rattle.chunk_words.specs.Moves.{Mine, body_in}
use Rattle.chunk_words.proofs.Rests.{sits_now}
use Rattle.chunk_words.proofs.host.HostTable.begin.Goals as goal

pub returns-clause-held : goal.returns-clause-held
returns-clause-held c =
    let self = c.args.self.now in let seat = c.args.seat.now in let stamps_it = c.step_stamp.ensures.me in let body = c.body_out-body.result in
    record {
      chunk_is = refl;
      position_is = begun_at self.layout seat.place (length (view_of seat.seat.me.0).begun) c.args.id c.position_at-position.result c.requires.may.id_is
          (let few = c.requires.may.few_begun in omega (arith, few)) c.position_at-position.ensures;
      whole =
          let there : Some stamps_it.body ≡ Some body = sym (ap (λ (m : Mine). body_in m.1) stamps_it.new_is) ∙ c.body_out-body.ensures.body in
          let same : stamps_it.body ≡ body = cc in
          ap (λ (b : CommitBody). vec_len b.payload) (sym same) ∙ stamps_it.whole;
      empty = c.clear.ensures;
    }

pub returns-clause-seat : goal.returns-clause-seat
returns-clause-seat c =
    let self = c.args.self.now in let seat = c.args.seat.now in let view = view_of seat.seat.me.0 in let chunk = c.args.claimed.chunk in
    let last = c.step_begin.ensures.me in let words = last.words in
    let known = ap (λ (m : Mine). m.0) c.body_out-body.ensures.me ∙ ap (λ (m : Mine). m.0) c.step_stamp.ensures.me.new_is in
    sits_now self seat c.step_begin.new.seat (begins (stamps view chunk) chunk words) c.requires.seat
    (c.step_begin.ensures.seat ∙ (c.body_out-body.ensures.seat ∙ c.step_stamp.ensures.seat)) (c.step_begin.ensures.place ∙ c.step_stamp.ensures.place)
    (last.new_is ∙ ap (λ (k : Knows). let m : Mine = (by_writer 0 (λ v. begins v chunk words) k, []) in m) known)
    (begins_rest self.layout seat.place view c.requires.seat.rests.rests chunk words c.requires.may.claimed)
