-- The lines of a writer by themselves: where the bytes of each stand, if all are whole packets.
use Rattle.std.specs.Prelude.{◌≡◌, ℕ, ◌+◌, ◌≤◌, ◌==◌, All, Bool, true, false, Option, Some, None, List, [], ◌∷◌, ◌++◌, length, map, take, drop, slice_get, if◌then◌else◌}
use Rattle.field_tree.specs.Written.{shown_in, AreFitNodes}
use Rattle.scenario_text.specs.declared.line_list.KeptKind.{KeptKind}
use Rattle.scenario_text.specs.declared.line_list.KeptKind.TheVariants.{Packet}
use Rattle.scenario_text.specs.declared.line_list.KeptLine.{KeptLine}
use Rattle.scenario_text.specs.declared.own_lines.Row.{Row}
use Rattle.scenario_text.specs.declared.own_lines.Span.{Span}
use Rattle.scenario_text.specs.declared.scenario.LineKind.{LineKind}
use Rattle.scenario_text.specs.declared.scenario.LineKind.TheVariants as kinds
use Rattle.scenario_text.specs.declared.scenario.NumberedLine.{NumberedLine}
use Rattle.scenario_text.specs.Accepted.{is_of, own_kinds}
use Rattle.scenario_text.specs.KeptLines.{kind_of, lines_of, AreLaid}

-- the bytes that stand there
abbrev pub bytes_at : List ℕ → Span → List ℕ
bytes_at code span = take span.len (drop span.bytes code)

-- they are there, and say nodes
abbrev pub IsSpan : List ℕ → Span → Type 0
IsSpan code span = (span.bytes + span.len ≤ length code) × AreFitNodes (bytes_at code span)

-- the packets of the writer with this number
abbrev pub packets_at : ℕ → List ℕ → List Span → List LineKind
packets_at number code spans = map (λ span. kinds.Packet number (shown_in (bytes_at code span))) spans

-- the bytes of the line, where it is a packet of the writer
abbrev pub span_of : ℕ → KeptKind → ℕ → List Span
span_of number (Packet writer len) bytes = if number == writer then (record { bytes = bytes; len = len }) ∷ [] else []
span_of number other bytes = []

-- the line is one of the writer, and no packet
abbrev pub is_other : ℕ → KeptKind → Bool
is_other number (Packet writer len) = false
is_other number what = is_of number (kind_of what [])

-- the writer's packets in front of the lines that are left were noted, unless it has other lines
abbrev pub IsRowOf : ℕ → List KeptLine → List KeptLine → ℕ → List ℕ → Row → Type 0
IsRowOf number heads left bytes code row = row.whole ≡ true
    → All (IsSpan code) row.spans.items
    × (own_kinds number (lines_of heads code) ≡ packets_at number code row.spans.items ++ own_kinds number (lines_of left (drop bytes code)))

-- all lines but those that are left were noted; so many bytes are in front of these
pub record AreNoted (heads left : List KeptLine) (bytes : ℕ) (rows : List Row) : Type 0 where
  pub inside : (code : List ℕ) → AreLaid heads code → bytes ≤ length code
  pub laid : (code : List ℕ) → AreLaid heads code → AreLaid left (drop bytes code)
  pub each : (code : List ℕ) → AreLaid heads code → (number : ℕ) (row : Row) → slice_get rows number ≡ Some row
      → IsRowOf number heads left bytes code row

-- nothing was noted yet
abbrev pub AreEmpty : List Row → Type 0
AreEmpty rows = All (λ row. row.spans.items ≡ []) rows

-- one more line was noted
abbrev pub NotesLine : KeptKind → ℕ → (before after : List Row) → Type 0
NotesLine what bytes before after = (number : ℕ) (row : Row) → slice_get after number ≡ Some row
    → (old : Row) × (slice_get before number ≡ Some old)
    × (row.whole ≡ true → (old.whole ≡ true) × (is_other number what ≡ false) × (row.spans.items ≡ old.spans.items ++ span_of number what bytes))

-- the rows of all lines, by the writers' numbers
abbrev pub AreRows : List KeptLine → List ℕ → List Row → Type 0
AreRows heads code rows = (number : ℕ) (row : Row) → slice_get rows number ≡ Some row → row.whole ≡ true
    → All (IsSpan code) row.spans.items × (own_kinds number (lines_of heads code) ≡ packets_at number code row.spans.items)

-- the spans of a row that is whole
abbrev pub IsWholeRow : List Row → ℕ → List Span → Type 0
IsWholeRow rows number spans = (row : Row) × (slice_get rows number ≡ Some row) × (row.whole ≡ true) × (row.spans.items ≡ spans)

-- the writer's packets, or else its lines among all
abbrev pub own_left : ℕ → List NumberedLine → Option (List LineKind) → List LineKind
own_left number lines (Some own) = own
own_left number lines None = own_kinds number lines
