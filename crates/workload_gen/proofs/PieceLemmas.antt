-- Pieces of text that are added one behind another.
use Rattle.std.proofs.Common.{ℕ, List, ◌++◌, ◌∙◌, ap, append_assoc}
use Rattle.workload_gen.specs.Workload.{IsAdded}

-- two pieces added are one
pub both_added : {old mid new piece rest : List ℕ} → IsAdded old piece mid → IsAdded mid rest new → IsAdded old (piece ++ rest) new
both_added {old} {mid} {new} {piece} {rest} first second =
    record { text = second.text ∙ ap (λ text. text ++ rest) first.text ∙ append_assoc old piece rest }
