use Rattle.std.proofs.Common.{◌≡◌, take}
use Rattle.std.specs.List.{flat_map}
use Rattle.byte_io.specs.Bytes.{after_told}
use Rattle.config_text.specs.Writing.{source_line}
use Rattle.config_text.proofs.putting.put_sources.Given as goal

abbrev pub invariant-loop-source : goal.invariant-loop-source
invariant-loop-source g l = record {
  taken : g.O.Sink.taken l.out ≡ after_told (g.O.Sink.taken l.fn.out) (flat_map (source_line l.producers) (take l.source-index l.sources));
  faults : g.O.Sink.faults l.out ≡ g.O.Sink.faults l.fn.out;
  may : g.O.Sink.may_write l.out;
}
