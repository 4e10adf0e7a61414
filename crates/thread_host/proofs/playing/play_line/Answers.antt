-- A line asks the writer that it names for its calls.
use Rattle.thread_host.proofs.PlayedLines.{line_asked}
use Rattle.thread_host.proofs.playing.play_line.Goals as goal

pub returns-in-Packet : goal.returns-in-Packet
returns-in-Packet g c = record {
  asked = line_asked g.H.Helper.helps g.H.Helper.of_table c.args.table.now c.args.help.now c.args.writer.now c.ask_packet.new.help c.ask_packet.new.writer
      c.args.line.now _ c.in-Packet.is c.ask_packet.ensures.asked;
  helped = c.ask_packet.ensures.helped;
}

pub returns-in-Begin : goal.returns-in-Begin
returns-in-Begin g c = record {
  asked = line_asked g.H.Helper.helps g.H.Helper.of_table c.args.table.now c.args.help.now c.args.writer.now c.ask.new.help c.ask.new.writer
      c.args.line.now _ c.in-Begin.is c.ask.ensures.asked;
  helped = c.ask.ensures.helped;
}

pub returns-in-Add : goal.returns-in-Add
returns-in-Add g c = record {
  asked = line_asked g.H.Helper.helps g.H.Helper.of_table c.args.table.now c.args.help.now c.args.writer.now c.ask_fields.new.help c.ask_fields.new.writer
      c.args.line.now _ c.in-Add.is c.ask_fields.ensures.asked;
  helped = c.ask_fields.ensures.helped;
}

pub returns-in-Nest : goal.returns-in-Nest
returns-in-Nest g c = record {
  asked = line_asked g.H.Helper.helps g.H.Helper.of_table c.args.table.now c.args.help.now c.args.writer.now c.ask-in-Nest.new.help c.ask-in-Nest.new.writer
      c.args.line.now _ c.in-Nest.is c.ask-in-Nest.ensures.asked;
  helped = c.ask-in-Nest.ensures.helped;
}

pub returns-in-Unnest : goal.returns-in-Unnest
returns-in-Unnest g c = record {
  asked = line_asked g.H.Helper.helps g.H.Helper.of_table c.args.table.now c.args.help.now c.args.writer.now c.ask-in-Unnest.new.help c.ask-in-Unnest.new.writer
      c.args.line.now _ c.in-Unnest.is c.ask-in-Unnest.ensures.asked;
  helped = c.ask-in-Unnest.ensures.helped;
}

pub returns-in-End : goal.returns-in-End
returns-in-End g c = record {
  asked = line_asked g.H.Helper.helps g.H.Helper.of_table c.args.table.now c.args.help.now c.args.writer.now c.ask-in-End.new.help c.ask-in-End.new.writer
      c.args.line.now _ c.in-End.is c.ask-in-End.ensures.asked;
  helped = c.ask-in-End.ensures.helped;
}

pub returns-in-Flush : goal.returns-in-Flush
returns-in-Flush g c = record {
  asked = line_asked g.H.Helper.helps g.H.Helper.of_table c.args.table.now c.args.help.now c.args.writer.now c.ask-in-Flush.new.help c.ask-in-Flush.new.writer
      c.args.line.now _ c.in-Flush.is c.ask-in-Flush.ensures.asked;
  helped = c.ask-in-Flush.ensures.helped;
}
