-- Producers that a set of entries names.
use Rattle.std.specs.Prelude.{ℕ, Bool, ◌==◌, ◌&&◌, not, List, length}
use Rattle.std.specs.Borrow.{Bor}
use Rattle.std.specs.Str.{bytes_eq}
use Rattle.std.specs.HashSet.{HashSet, contains_by}
use Rattle.config_text.specs.declared.kept.KeptProducer.{KeptProducer}

-- the producer has a name that isn't empty, and it is in the set
abbrev pub is_wanted : {S : Type 0} → HashSet (Bor (List ℕ)) S → KeptProducer → Bool
is_wanted wanted producer = not (length producer.name.now == 0) && contains_by (λ entry. bytes_eq producer.name.now entry.now) wanted
