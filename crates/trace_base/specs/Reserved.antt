use Rattle.std.specs.Prelude.{ℕ, ◌==◌, Bool}
use Rattle.std.specs.List.{list_any}
use Rattle.trace_base.specs.declared.reserved.TheConstants.{RESERVED_FIELDS}

-- the test that a field is among the reserved ones
abbrev pub is_reserved : ℕ → Bool
is_reserved field = list_any (λ reserved. reserved == field) RESERVED_FIELDS
