use Rattle.std.proofs.Common.{arith}
use Rattle.tracesmb_c.proofs.CallLemmas.{noted_of}
use Rattle.tracesmb_c.proofs.writer.OwnedWriter.try_bytes.Goals as goal

pub returns-clause-done : goal.returns-clause-done
returns-clause-done c = λ ok. noted_of c.bytes.result c.field_code.result c.field_code.ensures ok c.bytes.ensures.writes.notes

pub bytes-requires-clause-field : goal.bytes-requires-clause-field
bytes-requires-clause-field c = record { least = omega arith; most = omega arith }
