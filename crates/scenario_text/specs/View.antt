-- What the code's state is in the grammar's words.
use Rattle.scenario_text.specs.declared.reader.Reader.{Reader}
use Rattle.scenario_text.specs.State.{State}

-- what a reader has read so far
abbrev pub state_of : Reader → State
state_of reader = record {
  buffers = reader.scenario.buffers.items;
  producers = reader.scenario.producers.items;
  writers = reader.scenario.writers.items;
  lines = reader.scenario.lines;
  closed = reader.closed.items;
  packets = reader.packets.items;
  bytes = reader.bytes;
  clones = reader.clones;
}
