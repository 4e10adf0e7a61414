use Rattle.std.proofs.Common.{◌≡◌, take}
use Rattle.std.specs.List.{flat_map}
use Rattle.byte_io.specs.Bytes.{after_told}
use Rattle.config_text.specs.Writing.{buffer_line}
use Rattle.config_text.proofs.putting.put_buffers.Given as goal

abbrev pub invariant-loop-buffer : goal.invariant-loop-buffer
invariant-loop-buffer g l = record {
  taken : g.O.Sink.taken l.out ≡ after_told (g.O.Sink.taken l.fn.out) (flat_map buffer_line (take l.buffer-index l.buffers));
  faults : g.O.Sink.faults l.out ≡ g.O.Sink.faults l.fn.out;
  may : g.O.Sink.may_write l.out;
}
