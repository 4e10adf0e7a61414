use Rattle.std.proofs.Common.{refl, arith}
use Rattle.tracesmb_c.proofs.writer.OwnedWriter.varint.Goals as goal

pub varint_at-requires-clause-blank : goal.varint_at-requires-clause-blank
varint_at-requires-clause-blank c = record {
  name_is = refl;
  parts_are = refl;
  some = let parts = c.new.ensures in omega (arith, parts);
}
