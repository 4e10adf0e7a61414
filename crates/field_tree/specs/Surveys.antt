-- What was found of some nodes, where they are gone over once.
use Rattle.std.specs.Prelude.{◌≡◌, ℕ, ◌-◌, ◌^◌, min, List, [], ◌∷◌}
use Rattle.field_tree.specs.declared.survey.Survey.{Survey}
use Rattle.field_tree.specs.Nodes.{Shown}
use Rattle.field_tree.specs.Judged.{deepest, kinds_of, level, nodes_len, reserved_from}

-- how many messages are open behind some nodes, where so many are in front of them
abbrev pub level_behind : ℕ → List Shown → ℕ
level_behind now [] = now
level_behind now (node ∷ nodes) = level_behind (level now node.0) nodes

-- a length that was counted in 64 bits: where it is more, the greatest number stands for it
abbrev pub IsCounted : ℕ → ℕ → Type 0
IsCounted counted len = counted ≡ min len (2 ^ 64 - 1)

-- their first reserved field, their depth and their length
pub record IsSurvey (found : Survey) (nodes : List Shown) : Type 0 where
  pub reserved : found.reserved ≡ reserved_from 0 (kinds_of nodes)
  pub deep : found.deepest ≡ deepest 0 0 (kinds_of nodes)
  pub len : IsCounted found.len (nodes_len nodes)
