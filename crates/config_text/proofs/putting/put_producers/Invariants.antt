use Rattle.std.proofs.Common.{◌≡◌, take}
use Rattle.std.specs.List.{flat_map}
use Rattle.byte_io.specs.Bytes.{after_told}
use Rattle.config_text.specs.Writing.{producer_line}
use Rattle.config_text.proofs.putting.put_producers.Given as goal

abbrev pub invariant-loop-producer : goal.invariant-loop-producer
invariant-loop-producer g l = record {
  taken : g.O.Sink.taken l.out ≡ after_told (g.O.Sink.taken l.fn.out) (flat_map producer_line (take l.producer-index l.producers));
  faults : g.O.Sink.faults l.out ≡ g.O.Sink.faults l.fn.out;
  may : g.O.Sink.may_write l.out;
}
