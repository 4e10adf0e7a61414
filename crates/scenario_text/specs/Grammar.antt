-- The grammar of a scenario: what its lines add, one after another, or the first line that is refused and its reason.
use Rattle.std.specs.Prelude.{ℕ, ◌+◌, nat_lt, ◌==◌, Bool, true, List, [], ◌∷◌, Option, Some, None, Result, Ok, Err, if◌then◌else◌}
use Rattle.trace_base.specs.declared.policy.WriterSpec.{WriterSpec}
use Rattle.trace_base.specs.declared.numeral.Numeral.TheVariants.{Fits}
use Rattle.scenario_text.specs.declared.form.Form.{Form}
use Rattle.scenario_text.specs.declared.reason.Reason.{Reason}
use Rattle.scenario_text.specs.declared.reason.Reason.TheVariants.{UnfinishedLine, BadLine, PacketLeft}
use Rattle.scenario_text.specs.declared.open_packet.OpenPacket.{OpenPacket}
use Rattle.scenario_text.specs.Pieces.{pieces}
use Rattle.scenario_text.specs.Forms.{form_of}
use Rattle.scenario_text.specs.State.{State, beginning, is_closed, packet_of}
use Rattle.scenario_text.specs.Reasons.{given, refusal_of}
use Rattle.scenario_text.specs.Effects.{moved, nodes_given}

-- ---- one line

unfoldable pub unless : Option Reason → State → Result State Reason
unless None state = Ok state
unless (Some reason) state = Err reason

-- what a line of this form leads to, or the reason for which it is refused
unfoldable pub after_form : State → ℕ → List ℕ → Option Form → Result State Reason
after_form state number line None = Err BadLine
after_form state number line (Some form) =
    unless (refusal_of state line form) (moved state number line form (nodes_given (given state line form)))

-- an empty line and one that begins with '#' say nothing
unfoldable pub says_nothing : List ℕ → Bool
says_nothing [] = true
says_nothing (byte ∷ bytes) = byte == 35

-- what a line leads to, or the reason for which it is refused
unfoldable pub after_line : State → ℕ → List ℕ → Result State Reason
after_line state number line = if says_nothing line then Ok state else after_form state number line (form_of line)

-- ---- packets that aren't ended

-- the lesser of two lines, of which one or both may be missing
unfoldable pub earlier : Option ℕ → Option ℕ → Option ℕ
earlier None other = other
earlier (Some line) None = Some line
earlier (Some line) (Some other) = if nat_lt other line then Some other else Some line

-- the line of a packet that a writer has begun, where the writer's producer isn't closed
unfoldable pub line_left : State → WriterSpec → Option OpenPacket → Option ℕ
line_left state writer None = None
line_left state writer (Some packet) = if is_closed state (Fits writer.producer) then None else Some packet.line

-- the first such line of these writers, who count from this number on, or another line before it
unfoldable pub first_left : State → Option ℕ → ℕ → List WriterSpec → Option ℕ
first_left state line number [] = line
first_left state line number (writer ∷ writers) =
    first_left state (earlier line (line_left state writer (packet_of state (Fits number)))) (number + 1) writers

-- the scenario, unless a packet is left begun
unfoldable pub unless_left : Option ℕ → State → Result State (ℕ × Reason)
unless_left None state = Ok state
unless_left (Some line) state = Err (line, PacketLeft)

-- what a text whose lines led here says
unfoldable pub at_end : State → Result State (ℕ × Reason)
at_end state = unless_left (first_left state None 1 state.writers) state

-- ---- all lines

unfoldable pub and_then : ℕ → Result State Reason → (State → Result State (ℕ × Reason)) → Result State (ℕ × Reason)
and_then number (Ok state) others = others state
and_then number (Err reason) others = Err (number, reason)

-- What the pieces of a text lead to, from this line on, or the first line that is refused and its reason. A piece is a
-- line where another piece stands behind it. The last piece is what stands behind the last line feed: an unfinished line,
-- where it isn't empty.
unfoldable pub after_lines : State → ℕ → List (List ℕ) → Result State (ℕ × Reason)
after_lines state number [] = at_end state
after_lines state number ([] ∷ []) = at_end state
after_lines state number ((byte ∷ bytes) ∷ []) = Err (number, UnfinishedLine)
after_lines state number (line ∷ next ∷ others) =
    and_then number (after_line state number line) (λ after. after_lines after (number + 1) (next ∷ others))

-- what the lines of a text lead to, or its first fault
unfoldable pub state_after : List ℕ → Result State (ℕ × Reason)
state_after text = after_lines beginning 1 (pieces 10 text)
