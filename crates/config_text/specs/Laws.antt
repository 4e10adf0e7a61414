-- Statements of the laws of texts and configurations.
use Rattle.std.specs.Prelude.{◌≡◌, ℕ, List}
use Rattle.config_text.specs.declared.reason.ConfigReason.{ConfigReason}
use Rattle.config_text.specs.Configs.{ConfigOf}
use Rattle.config_text.specs.Grammar.{SpellsConfig, IsFaulty}
use Rattle.config_text.specs.Writing.{IsWritable, written_config}

-- a text spells one configuration at most, has one first fault at most, and never both
pub record AnswersAreOne : Type 0 where
  pub one_config : (text : List ℕ) (a b : ConfigOf) → SpellsConfig text a → SpellsConfig text b → a ≡ b
  pub one_fault : (text : List ℕ) (a b : ℕ × ConfigReason) → IsFaulty text a → IsFaulty text b → a ≡ b
  pub apart : (text : List ℕ) (config : ConfigOf) (fault : ℕ × ConfigReason) → SpellsConfig text config → IsFaulty text fault → ⊥

-- what a configuration is written as spells it
abbrev pub WrittenIsRead : Type 0
WrittenIsRead = (config : ConfigOf) → IsWritable config → SpellsConfig (written_config config) config
