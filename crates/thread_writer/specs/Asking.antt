-- A helper as a writer over a lent table asks it.
use Rattle.std.specs.Prelude.{◌≡◌, ℕ, Bool}
use Rattle.atomic_table.specs.Seated.{TableId}
use Rattle.chunk_words.specs.declared.shared.Shared.{Shared}
use Rattle.thread_writer.specs.declared.helper.Asks.{Asks}
use Rattle.chunk_words.specs.Named.{identity_of}

-- it may be asked at the lent table
abbrev pub MayAsk : {H : Type 0} → (H → TableId → Type 0) → Asks H → Shared → Type 0
MayAsk of_table asks shared = of_table asks.help (identity_of shared.table.now)

-- One help is one of the helper's own, and leaves the writer with the same table.
abbrev pub IsHelp : {H : Type 0} → (H → ℕ → Bool → H → Type 0) → Asks H → Shared → ℕ → Bool → Asks H → Shared → Type 0
IsHelp helps asks shared producer answer after left = (left ≡ shared) × helps asks.help producer answer after.help
