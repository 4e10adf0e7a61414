use Rattle.std.proofs.Common.{◌∙◌, ◌++◌, List, ℕ, ap, sym, add-one, append_assoc}
use Rattle.std.specs.List.{repeat}
use Rattle.emitted_packets.proofs.EmitLemmas.{one_more_turn}
use Rattle.emitted_packets.proofs.emitter.push_times.Goals as goal

pub loop-turn-preserved : goal.loop-turn-preserved
loop-turn-preserved c =
    c.in_ok-extend_from_slice.ensures.items ∙ ap (λ (xs : List ℕ). xs ++ c.args.text.now) c.loop-turn.invariant
    ∙ append_assoc c.args.bytes.now.items (repeat c.loop-turn._turn c.args.text.now) c.args.text.now
    ∙ ap (λ (xs : List ℕ). c.args.bytes.now.items ++ xs) (one_more_turn c.loop-turn._turn c.args.text.now ∙ ap (λ (n : ℕ). repeat n c.args.text.now) (sym (add-one c.loop-turn._turn)))
