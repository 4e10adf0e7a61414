-- What a writer's loss of a packet has behind it.
use Rattle.std.specs.Prelude.{◌≡◌, ℕ, List, ◌++◌, length}
use Rattle.std.specs.List.{All, flat_map}
use Rattle.chunk_plain.specs.declared.setup.ChunkRange.{ChunkRange}
use Rattle.chunk_plain.specs.Setup.{Setup}
use Rattle.chunk_plain.specs.Views.{Ask, WriterView}
use Rattle.claim_arbiter.specs.Claiming.{AllClaimed, lost_asks}

-- The last claims of the call are so many whole rounds in vain, one behind the other: each asked for each chunk of the range once, and
-- found it claimed.
pub record LosesBehind (setup : Setup) (range : ChunkRange) (many : ℕ) (old new : WriterView) : Type 0 where
  pub before : List Ask
  pub rounds : List (List ℕ)
  pub count_is : length rounds ≡ many
  pub each : All (λ (words : List ℕ). (length words ≡ range.count) × AllClaimed setup range.first words) rounds
  pub asked : new.asked ≡ old.asked ++ before ++ flat_map (lost_asks (length old.calls) range.first) rounds
