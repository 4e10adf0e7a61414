-- The sequences that a buffer is made for.
use Rattle.std.specs.Prelude.{◌≡◌, ℕ, ◌≤◌, ◌==◌, false, List, [], ◌∷◌}
use Rattle.std.specs.List.{list_any}
use Rattle.page_geometry.specs.Sizes.{record_size}
use Rattle.trace_model.specs.Sequences.{Sequence, fresh}
use Rattle.trace_buffer.specs.declared.answers.SequenceSpec.{SequenceSpec}

-- a sequence of which nothing has arrived
abbrev pub sequence_of : SequenceSpec → Sequence
sequence_of spec = fresh spec.sequence (record_size spec.payload) spec.from

-- no two have one number
abbrev pub AreDistinct : List SequenceSpec → Type 0
AreDistinct [] = Unit {0}
AreDistinct (spec ∷ specs) = (list_any (λ other. other.sequence == spec.sequence) specs ≡ false) × AreDistinct specs

-- a record of each fits into so many bytes
abbrev pub AllSmall : ℕ → List SequenceSpec → Type 0
AllSmall room [] = Unit {0}
AllSmall room (spec ∷ specs) = (record_size spec.payload ≤ room) × AllSmall room specs

-- a record of each takes at least so many bytes
abbrev pub AllTakeLeast : ℕ → List SequenceSpec → Type 0
AllTakeLeast least [] = Unit {0}
AllTakeLeast least (spec ∷ specs) = (least ≤ record_size spec.payload) × AllTakeLeast least specs
