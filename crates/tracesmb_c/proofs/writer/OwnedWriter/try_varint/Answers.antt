use Rattle.std.proofs.Common.{arith}
use Rattle.tracesmb_c.proofs.CallLemmas.{noted_of}
use Rattle.tracesmb_c.proofs.writer.OwnedWriter.try_varint.Goals as goal

pub returns-clause-done : goal.returns-clause-done
returns-clause-done c = λ ok. noted_of c.varint.result c.field_code.result c.field_code.ensures ok c.varint.ensures.writes.notes

pub varint-requires-clause-field : goal.varint-requires-clause-field
varint-requires-clause-field c = record { least = omega arith; most = omega arith }
