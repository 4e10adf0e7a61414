use Rattle.std.proofs.Common.{arith}
use Rattle.tracesmb_c.proofs.CallLemmas.{noted_of}
use Rattle.tracesmb_c.proofs.writer.OwnedWriter.try_begin_nested.Goals as goal

pub returns-clause-done : goal.returns-clause-done
returns-clause-done c = λ ok. noted_of c.begin_nested.result c.field_code.result c.field_code.ensures ok c.begin_nested.ensures.notes

pub begin_nested-requires-clause-field : goal.begin_nested-requires-clause-field
begin_nested-requires-clause-field c = record { least = omega arith; most = omega arith }
