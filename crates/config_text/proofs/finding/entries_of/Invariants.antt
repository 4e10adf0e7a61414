use Rattle.std.proofs.Common.{◌≡◌, ℕ, List, take}
use Rattle.std.specs.Borrow.{Bor}
use Rattle.std.specs.List.{list_any}
use Rattle.std.specs.Str.{bytes_eq}
use Rattle.std.specs.HashSet.{contains_by}
use Rattle.config_text.specs.Kept.{texts}
use Rattle.config_text.proofs.finding.entries_of.Given as goal

abbrev pub invariant-loop-entry : goal.invariant-loop-entry
invariant-loop-entry l =
    (name : Bor (List ℕ)) → contains_by (λ entry. bytes_eq name.now entry.now) l.wanted ≡ list_any (bytes_eq name.now) (texts (take l.entry-index l.filters))
