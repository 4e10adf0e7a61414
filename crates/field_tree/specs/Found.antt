-- Fields that were found, as their nodes.
use Rattle.std.specs.Prelude.{Result, Ok, Err}
use Rattle.field_tree.specs.declared.fault.FieldError.{FieldError}
use Rattle.field_tree.specs.declared.parse.Found.{Found}
use Rattle.field_tree.specs.declared.tree.FieldTree.{FieldTree}

-- the nodes that were found, or the fault
abbrev pub nodes_found : Result Found FieldError → Result FieldTree FieldError
nodes_found (Ok found) = Ok found.fields
nodes_found (Err fault) = Err fault
