-- Each of two writers with one specification has it.
use Rattle.std.proofs.Common.{◌≡◌, ℕ, zero, suc, ◌<◌, [], ◌∷◌, get_or, refl, arith}
use Rattle.trace_base.specs.declared.policy.WriterSpec.{WriterSpec}
use Rattle.chunk_plain.specs.Setup.{no_writer}

pub from_of_two : (spec : WriterSpec) (place : ℕ) → place < 2 → (get_or (spec ∷ spec ∷ []) place no_writer).from ≡ spec.from
from_of_two spec zero low = refl
from_of_two spec (suc zero) low = refl
from_of_two spec (suc (suc place)) low = absurd (omega (arith, low))
