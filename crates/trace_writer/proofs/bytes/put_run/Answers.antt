use Rattle.std.proofs.Common.{◌≡◌, ℕ, ◌+◌, List, [], ◌∷◌, ◌++◌, take, length-set, ap, sym, ◌∙◌, arith}
use Rattle.std.specs.List.{repeat}
use Rattle.trace_model.specs.Images.{with_bytes}
use Rattle.trace_model.proofs.EncodingLemmas.{length-repeat}
use Rattle.trace_writer.proofs.packets.OneByOne.{front_next, rest_next, all_put}
use Rattle.trace_writer.proofs.packets.Putting.{repeat-next}
use Rattle.trace_writer.proofs.bytes.put_run.Goals as goal

pub loop-turn-preserved : goal.loop-turn-preserved
loop-turn-preserved c =
    let same = c.loop-turn.invariant.size in let more = c.loop-turn-test.true in let most = c.requires in
    let turn = c.loop-turn.turn in
    let run = c.args.byte ∷ [] in
    record {
      front = front_next c.args.payload.now c.loop-turn.payload (repeat turn run) c.args.at turn c.args.byte (omega arith) c.loop-turn.invariant.front
          ∙ ap (λ (l : List ℕ). take c.args.at c.args.payload.now ++ l) (sym (repeat-next turn run));
      rest = rest_next c.args.payload.now c.loop-turn.payload c.args.at turn c.args.byte c.loop-turn.invariant.rest;
      size = length-set c.loop-turn.payload (c.args.at + turn) c.args.byte ∙ same;
    }

pub returns : goal.returns
returns c =
    let turn = c.loop-turn.turn in
    let all : turn ≡ c.args.times = omega arith in
    all_put c.args.payload.now c.loop-turn.payload (repeat turn (c.args.byte ∷ [])) c.args.at turn c.loop-turn.invariant.front c.loop-turn.invariant.rest
    (omega (arith, length-repeat turn (c.args.byte ∷ [])))
    ∙ ap (λ (n : ℕ). with_bytes c.args.payload.now c.args.at (repeat n (c.args.byte ∷ []))) all
