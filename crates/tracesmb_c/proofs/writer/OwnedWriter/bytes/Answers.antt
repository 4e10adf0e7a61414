use Rattle.std.proofs.Common.{refl, arith}
use Rattle.tracesmb_c.proofs.writer.OwnedWriter.bytes.Goals as goal

pub bytes_at-requires-clause-blank : goal.bytes_at-requires-clause-blank
bytes_at-requires-clause-blank c = record {
  name_is = refl;
  parts_are = refl;
  some = let parts = c.new.ensures in omega (arith, parts);
}
