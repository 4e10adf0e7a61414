-- No line before those that are still to come begins a packet.
use Rattle.std.proofs.Common.{◌≡◌, length}
use Rattle.std.specs.List.{list_any}
use Rattle.run_model.specs.Collected.{begins_packet, begins_packets}
use Rattle.thread_host.proofs.writing.begins_packets.Given as goal

abbrev pub invariant-lines : goal.invariant-lines
invariant-lines l = record { same : list_any begins_packet l.walk ≡ begins_packets l.number l.lines }

abbrev pub decreases-lines : goal.decreases-lines
decreases-lines l = length l.walk
