-- A packet was begun, written as far as it goes, and ended.
use Rattle.std.proofs.Common.{arith}
use Rattle.tracesmb_c.proofs.EventLemmas.{begun_kept, begun_dropping, begun_either, begun_answered}
use Rattle.tracesmb_c.proofs.writer.OwnedWriter.try_event.Goals as goal

pub returns-in-Ok-clause-kept : goal.returns-in-Ok-clause-kept
returns-in-Ok-clause-kept c ok = record {
  begun = c.begin-begun.new.self;
  written = c.event_fields-fields.new.self;
  begins = begun_kept c.args.self.now c.begin-begun.new.self c.begin-begun.result c.begin_code.result c.begin_code.ensures ok
      c.begin-begun.ensures.notes;
  noted = c.in-Ok.ensures.all;
  ends = c.end_packet.ensures.ends;
}

pub returns-in-Ok-clause-dropping : goal.returns-in-Ok-clause-dropping
returns-in-Ok-clause-dropping c dropping = record {
  begun = c.begin-begun.new.self;
  written = c.event_fields-fields.new.self;
  begins = begun_dropping c.args.self.now c.begin-begun.new.self c.begin-begun.result c.begin_code.result c.begin_code.ensures dropping
      c.begin-begun.ensures.notes;
  noted = c.in-Ok.ensures.all;
  ends = c.end_packet.ensures.ends;
}

pub returns-in-Ok-clause-cut : goal.returns-in-Ok-clause-cut
returns-in-Ok-clause-cut c refused = begun_answered c.begin-begun.result c.begin_code.result c.begin_code.ensures
    (λ ok. omega (arith, refused, ok)) (λ dropping. omega (arith, refused, dropping))

pub returns-in-Ok-clause-refused : goal.returns-in-Ok-clause-refused
returns-in-Ok-clause-refused c ok dropping refused = begun_answered c.begin-begun.result c.begin_code.result c.begin_code.ensures ok
    dropping

pub returns-in-Ok-clause-when : goal.returns-in-Ok-clause-when
returns-in-Ok-clause-when c may ok dropping = begun_answered c.begin-begun.result c.begin_code.result c.begin_code.ensures ok dropping

pub returns-in-Err-clause-cut : goal.returns-in-Err-clause-cut
returns-in-Err-clause-cut c refused =
    let either = begun_either c.args.self.now c.begin-begun.new.self c.begin-begun.result c.begin-begun.ensures.notes in
    record {
      kept = either.0;
      begun = c.begin-begun.new.self;
      written = c.event_fields-fields.new.self;
      begins = either.1;
      some = c.in-Err.ensures.some;
      ends = c.end_packet.ensures.ends;
    }
