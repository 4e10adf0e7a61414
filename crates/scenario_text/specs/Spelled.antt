-- The trees of fields that a scenario's lines spell: the calls that the lines ask of a writer are those by which whole packets are
-- written, and each packet that it emits is the encoding of its tree.
use Rattle.std.specs.Prelude.{◌≡◌, ℕ, ◌+◌, Bool, true, false, not, List, [], ◌∷◌, ◌++◌, map, Some, slice_get}
use Rattle.std.specs.List.{filter, flat_map, list_any}
use Rattle.trace_base.specs.declared.policy.WriterSpec.{WriterSpec}
use Rattle.trace_model.specs.Calls as call
use Rattle.trace_model.specs.Calls.{Call}
use Rattle.trace_model.specs.Encoding.{Fields, encoding_of, calls_of}
use Rattle.trace_model.specs.Packets.{emissions_of}
use Rattle.trace_model.specs.PacketLaws.{WholePacket, packet_calls}
use Rattle.field_tree.specs.Nodes.{nodes_of}
use Rattle.scenario_text.specs.declared.scenario.LineKind.TheVariants as line
use Rattle.scenario_text.specs.declared.scenario.Scenario.{Scenario}
use Rattle.scenario_text.specs.Scenario.{IsScenario}
use Rattle.scenario_text.specs.Accepted.{node_call, line_calls, calls_asked}

-- the call ends a packet
abbrev pub ends_packet : Call → Bool
ends_packet call.Finished = true
ends_packet other = false

-- the call is a flush
abbrev pub is_flush : Call → Bool
is_flush call.Flushed = true
is_flush other = false

-- a packet with these fields, kept and written whole
abbrev pub whole : Fields → WholePacket
whole tree = record { kept = true; fields = tree }

-- The calls, flushes left out, are those that write packets with these trees, one whole packet behind another, and then calls of which
-- none ends a packet. The packets that they emit are the encodings of these trees.
pub record SpellsTrees (calls : List Call) : Type 0 where
  pub trees : List Fields
  pub rest : List Call
  pub calls_are : filter (λ call. not (is_flush call)) calls ≡ flat_map (λ tree. packet_calls (whole tree)) trees ++ rest
  pub unended : list_any ends_packet rest ≡ false
  pub emitted : emissions_of calls ≡ map encoding_of trees

-- The nodes of a tree ask for the calls that write it. So a `p` line asks for a whole packet with the tree of its FIELDS, and what it
-- emits is the encoding of this tree.
pub record LinesSpellTrees : Type 0 where
  pub nodes : (tree : Fields) → map node_call (nodes_of tree) ≡ calls_of tree
  pub packet : (number : ℕ) (tree : Fields) → line_calls number (line.Packet number (nodes_of tree)) ≡ packet_calls (whole tree)
  pub emits : (number : ℕ) (tree : Fields)
      → emissions_of (line_calls number (line.Packet number (nodes_of tree))) ≡ encoding_of tree ∷ []

-- And what the lines of each scenario ask of a writer, over however many lines a packet runs, spells one tree for each packet that it
-- emits.
abbrev pub ScenariosSpellTrees : Type 0
ScenariosSpellTrees = (scenario : Scenario) → IsScenario scenario
    → (place : ℕ) (writer : WriterSpec) → slice_get scenario.writers.items place ≡ Some writer
    → SpellsTrees (calls_asked (place + 1) scenario.lines)
