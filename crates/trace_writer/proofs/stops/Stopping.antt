-- Where a writer stops, and what its call answers then.
use Rattle.std.proofs.Common.{◌≡◌, true, false, Bool, refl}
use Rattle.trace_base.specs.declared.policy.WriterPolicy.{WriterPolicy}
use Rattle.trace_base.specs.declared.policy.WriterPolicy.TheVariants.{Drops, Stalls, StallsThenDrops}
use Rattle.trace_writer.specs.Helping.{refuses}

-- a call that goes on stalls no writer
pub refuses_none : (policy : WriterPolicy) → refuses policy false ≡ false
refuses_none Drops = refl
refuses_none Stalls = refl
refuses_none (StallsThenDrops tries) = refl

pub either_way : {P : Type 0} (was : Bool) → (was ≡ false → P) → (was ≡ true → P) → P
either_way true goes waits = waits refl
either_way false goes waits = goes refl
