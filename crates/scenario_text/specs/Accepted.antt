-- The calls that a scenario's lines ask of its writers, and that a writer accepts each of them where it stands: its fields,
-- depths and lengths are those of what the writer has been asked to write so far. Which calls a writer accepts is this
-- profile's: protobuf's field numbers, none of the service's own fields at the top level, and the limits of a packet.
-- The packets that are written so are ones that the packet check accepts.
use Rattle.std.specs.Prelude.{◌≡◌, ℕ, ◌+◌, ◌*◌, ◌<◌, ◌≤◌, ◌==◌, All, Bool, true, false, List, [], ◌∷◌, ◌++◌, length, map, Some, slice_get, ⊤, if◌then◌else◌}
use Rattle.std.specs.List.{filter, flat_map, list_any}
use Rattle.trace_base.specs.declared.limits.TheConstants.{MAX_NESTING, MAX_PACKET_LEN}
use Rattle.trace_base.specs.declared.policy.WriterSpec.{WriterSpec}
use Rattle.trace_base.specs.Reserved.{is_reserved}
use Rattle.trace_model.specs.Calls as call
use Rattle.trace_model.specs.Calls.{Call}
use Rattle.trace_model.specs.Encoding.{number_field, bytes_head, nested_tag}
use Rattle.trace_model.specs.Packets.{Account, Packet, nothing_yet, noted, packets_of, emissions_of, is_writing, open_count, newest_length}
use Rattle.trace_model.specs.Walks.{is_accepted}
use Rattle.field_tree.specs.declared.node.FieldNode.TheVariants as node
use Rattle.field_tree.specs.Nodes.{Shown, IsField}
use Rattle.scenario_text.specs.declared.scenario.LineKind.{LineKind}
use Rattle.scenario_text.specs.declared.scenario.LineKind.TheVariants as line
use Rattle.scenario_text.specs.declared.scenario.NumberedLine.{NumberedLine}
use Rattle.scenario_text.specs.declared.scenario.Scenario.{Scenario}
use Rattle.scenario_text.specs.Scenario.{IsScenario}

-- ---- the calls of lines

-- what a writer is called for a node of FIELDS
unfoldable pub node_call : Shown → Call
node_call (node.Number field value, text) = call.Number field value
node_call (node.Bytes field times, text) = call.Bytes field text times
node_call (node.Begin field, text) = call.Nested field
node_call (node.End, text) = call.Ended

-- the line is one of the writer with this number
abbrev pub is_of : ℕ → LineKind → Bool
is_of number (line.Packet writer fields) = number == writer
is_of number (line.Begin writer) = number == writer
is_of number (line.Add writer fields) = number == writer
is_of number (line.Nest writer field) = number == writer
is_of number (line.Unnest writer) = number == writer
is_of number (line.End writer) = number == writer
is_of number (line.Flush writer) = number == writer
is_of number other = false

-- what the lines of the writer with this number have done
abbrev pub own_kinds : ℕ → List NumberedLine → List LineKind
own_kinds number lines = filter (is_of number) (map (λ line. line.what) lines)

-- the lines behind some that aren't the writer's
pub record PassesOver (number : ℕ) (lines behind : List NumberedLine) : Type 0 where
  pub passed : List NumberedLine
  pub all : passed ++ behind ≡ lines
  pub others : All (λ line. is_of number line.what ≡ false) passed

-- the calls that a line asks of the writer that it names
abbrev pub named_calls : LineKind → List Call
named_calls (line.Packet writer fields) = call.Begun true ∷ map node_call fields ++ call.Finished ∷ []
named_calls (line.Begin writer) = call.Begun true ∷ []
named_calls (line.Add writer fields) = map node_call fields
named_calls (line.Nest writer field) = call.Nested field ∷ []
named_calls (line.Unnest writer) = call.Ended ∷ []
named_calls (line.End writer) = call.Finished ∷ []
named_calls (line.Flush writer) = call.Flushed ∷ []
named_calls other = []

-- the calls, where the line is one of the writer with this number
abbrev pub if_own : ℕ → ℕ → List Call → List Call
if_own number writer calls = if number == writer then calls else []

-- the calls that a line asks of the writer with this number
unfoldable pub line_calls : ℕ → LineKind → List Call
line_calls number (line.Packet writer fields) = if_own number writer (call.Begun true ∷ map node_call fields ++ call.Finished ∷ [])
line_calls number (line.Begin writer) = if_own number writer (call.Begun true ∷ [])
line_calls number (line.Add writer fields) = if_own number writer (map node_call fields)
line_calls number (line.Nest writer field) = if_own number writer (call.Nested field ∷ [])
line_calls number (line.Unnest writer) = if_own number writer (call.Ended ∷ [])
line_calls number (line.End writer) = if_own number writer (call.Finished ∷ [])
line_calls number (line.Flush writer) = if_own number writer (call.Flushed ∷ [])
line_calls number other = []

-- all that the lines ask of it, in order
abbrev pub calls_asked : ℕ → List NumberedLine → List Call
calls_asked number lines = flat_map (λ line. line_calls number line.what) lines

-- ---- which calls a writer accepts behind these packets, the newest first

-- a field that takes so many bytes: one of protobuf's, no one of the service's own at the top level, and not too long
pub record AcceptsField (packets : List Packet) (field more : ℕ) : Type 0 where
  pub begun : is_writing packets ≡ true
  pub numbered : IsField field
  pub free : open_count packets ≡ 1 → is_reserved field ≡ false
  pub short : newest_length packets + more ≤ MAX_PACKET_LEN

-- That a packet is given up or dropped is no call that is asked: a writer notes it by itself.
abbrev pub Accepts : List Packet → Call → Type 0
Accepts packets (call.Begun kept) = (kept ≡ true) × (is_writing packets ≡ false)
Accepts packets (call.Number field value) = AcceptsField packets field (length (number_field field value))
Accepts packets (call.Bytes field text times) = AcceptsField packets field (length (bytes_head field (times * length text)) + times * length text)
Accepts packets (call.Nested field) = AcceptsField packets field (length (nested_tag field) + 4) × (open_count packets ≤ MAX_NESTING)
Accepts packets call.Ended = (is_writing packets ≡ true) × (1 < open_count packets)
Accepts packets call.GivenUp = ⊥
Accepts packets call.Finished = (is_writing packets ≡ true) × (open_count packets ≡ 1)
Accepts packets call.Flushed = is_writing packets ≡ false

-- each call is accepted behind those before it
abbrev pub AreAccepted : Account → List Call → Type 0
AreAccepted account [] = ⊤
AreAccepted account (call ∷ calls) = Accepts account.packets call × AreAccepted (noted account call) calls

-- ---- every scenario

-- a line closes the producer with this number
unfoldable pub closes : ℕ → LineKind → Bool
closes producer (line.Close number) = producer == number
closes producer other = false

-- a line closes the producer
abbrev pub is_closed_by : List NumberedLine → ℕ → Bool
is_closed_by lines producer = list_any (λ line. closes producer line.what) lines

-- Of each value that the grammar gives: a writer accepts what its lines ask of it, and ends its last packet, unless a line
-- has closed its producer; and the packet check accepts each packet that it emits.
pub record AsksWell (lines : List NumberedLine) (number : ℕ) (writer : WriterSpec) : Type 0 where
  pub accepted : AreAccepted nothing_yet (calls_asked number lines)
  pub ended : is_closed_by lines writer.producer ≡ false → is_writing (packets_of (calls_asked number lines)) ≡ false
  pub passes : All (λ (packet : List ℕ). is_accepted packet ≡ true) (emissions_of (calls_asked number lines))

-- The calls of each writer of a scenario are ones that a writer accepts, and what they emit the packet check accepts.
abbrev pub ScenariosAreAccepted : Type 0
ScenariosAreAccepted = (scenario : Scenario) → IsScenario scenario
    → (place : ℕ) (writer : WriterSpec) → slice_get scenario.writers.items place ≡ Some writer
    → AsksWell scenario.lines (place + 1) writer
