-- Things that lines name by their number in the order of their set-up lines, counted from 1.
use Rattle.std.specs.Prelude.{◌-◌, ◌==◌, List, Option, None, slice_get, slice_set, if◌then◌else◌}
use Rattle.trace_base.specs.declared.numeral.Numeral.{Numeral}
use Rattle.trace_base.specs.declared.numeral.Numeral.TheVariants.{Fits, TooLarge}

-- the thing with this number, if there is one
unfoldable pub item : {X : Type 0} → List X → Numeral → Option X
item things (Fits n) = if n == 0 then None else slice_get things (n - 1)
item things TooLarge = None

-- the things, with another one in its place
unfoldable pub with_item : {X : Type 0} → List X → Numeral → X → List X
with_item things (Fits n) thing = if n == 0 then things else slice_set things (n - 1) thing
with_item things TooLarge thing = things
