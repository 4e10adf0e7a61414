use Rattle.std.proofs.Common.{ℕ, ◌+◌, List, ◌++◌, take, get_or, length-set, ap, sym, ◌∙◌, arith}
use Rattle.std.proofs.lemmas.List.{take_more}
use Rattle.trace_writer.proofs.packets.OneByOne.{front_next, rest_next}
use Rattle.trace_writer.proofs.bytes.put_short.Goals as goal

pub loop-i-preserved : goal.loop-i-preserved
loop-i-preserved c =
    let same = c.loop-i.invariant.size in let more = c.loop-i-test.true in let most = c.requires in
    let piece = c.args.piece.now in
    let i = c.loop-i.i in
    record {
      front = front_next c.args.payload.now c.loop-i.payload (take i piece) c.args.at i (get_or piece i 0) (omega arith) c.loop-i.invariant.front
          ∙ ap (λ (l : List ℕ). take c.args.at c.args.payload.now ++ l) (sym (take_more piece i 0 more));
      rest = rest_next c.args.payload.now c.loop-i.payload c.args.at i (get_or piece i 0) c.loop-i.invariant.rest;
      size = length-set c.loop-i.payload (c.args.at + i) (get_or piece i 0) ∙ same;
    }
