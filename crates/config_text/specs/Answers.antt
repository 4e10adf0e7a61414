-- What the answers of the reader say. Memory is free to run out.
use Rattle.std.specs.Prelude.{◌≡◌, ℕ, List, Result, Ok, Err}
use Rattle.text_form.specs.Entries.{Item}
use Rattle.config_text.specs.declared.collector.Collector.{Collector}
use Rattle.config_text.specs.declared.config.Config.{Config}
use Rattle.config_text.specs.declared.reason.ConfigFault.{ConfigFault}
use Rattle.config_text.specs.declared.reason.ConfigFault.TheVariants.{OutOfMemory, BadConfig}
use Rattle.config_text.specs.declared.reason.ConfigReason.TheVariants.{BadText}
use Rattle.config_text.specs.Collecting.{Collected, collected_all}
use Rattle.config_text.specs.Collectors.{collected_of}
use Rattle.config_text.specs.Configs.{parts_of}
use Rattle.config_text.specs.Grammar.{SpellsConfig, IsFaulty}

-- what is collected with the items of a text, or the line at which it is no more of the form
abbrev pub collected_items : Collected → Result (List Item) ℕ → Result Collected ℕ
collected_items collected (Ok items) = Ok (collected_all collected items)
collected_items collected (Err line) = Err line

-- a collector has this, or the text is bad at this line
abbrev pub Collects : Result Collector ConfigFault → Result Collected ℕ → Type 0
Collects (Ok collector) given = given ≡ Ok (collected_of collector)
Collects (Err OutOfMemory) given = Unit {0}
Collects (Err (BadConfig line reason)) given = (reason ≡ BadText) × (given ≡ Err line)

-- a configuration that the text spells, or the first fault that it has
abbrev pub GivesConfig : List ℕ → Result Config ConfigFault → Type 0
GivesConfig text (Ok config) = SpellsConfig text (parts_of config)
GivesConfig text (Err OutOfMemory) = Unit {0}
GivesConfig text (Err (BadConfig line reason)) = IsFaulty text (line, reason)
