-- The bytes that were copied and those behind them are what was left before.
use Rattle.std.proofs.Common.{◌≡◌, ℕ, ◌+◌, ◌-◌, List, ◌++◌, length, take, drop, sym, ◌∙◌, ap, arith}
use Rattle.std.proofs.lemmas.Grind.{common_steps}
use Rattle.std.proofs.lemmas.List.{take_rest, take-append-drop, drop-drop}
use Rattle.byte_io.proofs.memory.MemSourceSource.read.Goals as goal

-- the first n of what stands from a place on, and what stands n further on
front_and_rest : (bytes : List ℕ) (at n : ℕ) → drop at bytes ≡ take n (take (length bytes - at) (drop at bytes)) ++ drop (at + n) bytes
front_and_rest bytes at n = rw (take_rest bytes at) (sym (take-append-drop n (drop at bytes)) ∙ ap (λ rest. take n (drop at bytes) ++ rest) (drop-drop n at bytes))

pub returns-clause-bytes : goal.returns-clause-bytes
returns-clause-bytes c =
    grind (arith, common_steps, front_and_rest c.args.self.now.bytes.items c.args.self.now.at c.copy_front-count.result, c.copy_front-count.ensures.front)
