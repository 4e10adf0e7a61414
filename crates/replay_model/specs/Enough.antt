-- When a scenario's chunks and buffer bytes are enough, by its lines alone.
use Rattle.std.specs.Prelude.{◌≡◌, ℕ, suc, ◌+◌, ◌*◌, ◌≤◌, List, [], ◌∷◌, length, map, Some, slice_get, if◌then◌else◌}
use Rattle.trace_base.specs.declared.limits.TheConstants.{BYTES_PER_KB}
use Rattle.trace_base.specs.declared.policy.WriterSpec.{WriterSpec}
use Rattle.page_geometry.specs.Sizes.{payload_size}
use Rattle.trace_model.specs.Counts.{last_count}
use Rattle.trace_model.specs.Enough.{ChunkRoom, WriterLoad, IsEnough}
use Rattle.trace_model.specs.Packets.{emissions_of}
use Rattle.scenario_text.specs.declared.scenario.BufferLine.{BufferLine}
use Rattle.scenario_text.specs.declared.scenario.ProducerLine.{ProducerLine}
use Rattle.scenario_text.specs.declared.scenario.NumberedLine.{NumberedLine}
use Rattle.scenario_text.specs.Scenario.{Parts}
use Rattle.scenario_text.specs.Accepted.{calls_asked, is_closed_by, AsksWell}
use Rattle.scenario_text.specs.Limits.{IsSetUp}
use Rattle.scenario_text.specs.Raws.{RawsNone}

-- the producers that a line closes, of which the first has this number
abbrev pub closed_from : List NumberedLine → (number : ℕ) → List ProducerLine → List ℕ
closed_from lines number [] = []
closed_from lines number (producer ∷ producers) =
    if is_closed_by lines number then number ∷ closed_from lines (suc number) producers else closed_from lines (suc number) producers

-- a producer's chunks
abbrev pub room_of : ProducerLine → ChunkRoom
room_of line = record { chunks = line.pages * line.chunks; payload = payload_size line.page_size line.chunks }

-- the writers with all that the lines have them emit, of which the first has this number
abbrev pub loads_from : List NumberedLine → (number : ℕ) → List WriterSpec → List WriterLoad
loads_from lines number [] = []
loads_from lines number (spec ∷ specs) =
    record { spec = spec; emitted = emissions_of (calls_asked number lines) } ∷ loads_from lines (suc number) specs

-- No line closes a producer or commits a chunk, and chunks and bytes are enough for all that the lines have writers emit.
pub record HasEnough (scenario : Parts) : Type 0 where
  pub no_raw : RawsNone scenario.lines
  pub enough : IsEnough (closed_from scenario.lines 1 scenario.producers) (map (λ (line : BufferLine). line.kb * BYTES_PER_KB) scenario.buffers)
      (map room_of scenario.producers) (loads_from scenario.lines 1 scenario.writers)

-- What the grammar gives of each scenario: the lines are no more than a count can tell, the set-up is within its limits, and each writer
-- accepts what its lines ask and ends its last packet.
pub record IsPlayable (scenario : Parts) : Type 0 where
  pub few : length scenario.lines ≤ last_count
  pub set_up : IsSetUp scenario.buffers scenario.producers scenario.writers
  pub asks : (place : ℕ) (spec : WriterSpec) → slice_get scenario.writers place ≡ Some spec → AsksWell scenario.lines (place + 1) spec
