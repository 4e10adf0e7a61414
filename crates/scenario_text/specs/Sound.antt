-- What holds of the set-up and of the packets that are begun, whatever the lines were.
use Rattle.std.specs.Prelude.{◌≡◌, ◌≤◌, nat_le, Bool, true, ◌&&◌, List, length, Option, Some, None}
use Rattle.std.specs.List.{list_all}
use Rattle.trace_base.specs.declared.limits.TheConstants.{MAX_BUFFERS, MAX_NESTING, MAX_PRODUCERS, MAX_WRITERS}
use Rattle.trace_base.specs.declared.policy.WriterSpec.{WriterSpec}
use Rattle.scenario_text.specs.declared.scenario.BufferLine.{BufferLine}
use Rattle.scenario_text.specs.declared.scenario.ProducerLine.{ProducerLine}
use Rattle.scenario_text.specs.declared.open_packet.OpenPacket.{OpenPacket}
use Rattle.scenario_text.specs.Ranges.{is_page_size, is_chunk_count}

-- the producer's pages can be cut so
unfoldable pub is_cut : ProducerLine → Bool
is_cut producer = is_page_size producer.page_size && is_chunk_count producer.chunks

-- so many messages may be open in a packet
unfoldable pub is_shallow : Option OpenPacket → Bool
is_shallow None = true
is_shallow (Some packet) = nat_le packet.depth MAX_NESTING

-- what was read so far is within its limits
pub record IsSound (buffers : List BufferLine) (producers : List ProducerLine) (writers : List WriterSpec)
    (packets : List (Option OpenPacket)) : Type 0 where
  pub few_buffers : length buffers ≤ MAX_BUFFERS
  pub few_producers : length producers ≤ MAX_PRODUCERS
  pub few_writers : length writers ≤ MAX_WRITERS
  pub cut : list_all is_cut producers ≡ true
  pub shallow : list_all is_shallow packets ≡ true
