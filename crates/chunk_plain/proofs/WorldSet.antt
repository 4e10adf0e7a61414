-- Worlds are plain data: two of them are equal in one way.
use Rattle.std.proofs.Math.Nat.{ℕ_set}
use Rattle.std.proofs.Math.Bool.{Bool-set}
use mathlib.Core.Sum.{⊎_set}
use mathlib.Core.List.{is_set as list_set}
use Rattle.std.proofs.Math.Option.{is_set as option_set}
use Rattle.chunk_plain.specs.World.{World}

pub world_set : IsSet World
world_set = hlevel (ℕ_set, Bool-set, ⊎_set, list_set, option_set)
