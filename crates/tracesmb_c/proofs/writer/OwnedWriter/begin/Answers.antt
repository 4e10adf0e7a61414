use Rattle.std.proofs.Common.{refl, arith}
use Rattle.tracesmb_c.proofs.writer.OwnedWriter.begin.Goals as goal

pub begin_at-requires-clause-blank : goal.begin_at-requires-clause-blank
begin_at-requires-clause-blank c = record {
  name_is = refl;
  parts_are = refl;
  some = let parts = c.new.ensures in omega (arith, parts);
}
