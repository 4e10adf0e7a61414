-- The fields of a line as the code has them.
use Rattle.std.specs.Prelude.{◌≤◌, length}
use Rattle.loss_report.specs.declared.fields.Field.{Field}
use Rattle.loss_report.specs.declared.fields.TheConstants.{MAX_NAME}
use Rattle.loss_report.specs.Lines.{Entry}

-- an entry of a line, as the definitions have it
abbrev pub entry_of : Field → Entry
entry_of field = record { name = field.name.now; value = field.value }

-- the name of an entry fits the room for names
abbrev pub HasShortName : Field → Type 0
HasShortName field = length field.name.now ≤ MAX_NAME
