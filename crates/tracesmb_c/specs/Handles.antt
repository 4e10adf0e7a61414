-- What a box that may be there has in it.
use Rattle.std.specs.Prelude.{Option, Some, None}
use Rattle.std.specs.Global.{Global}
use Rattle.std.specs.declared.boxed.Box.{Box}

-- the value in the box
abbrev pub value_of : {X : Type 0} → Option (Box X Global) → Option X
value_of None = None
value_of (Some box) = Some box.value
