-- One packet more.
use Rattle.std.specs.Prelude.{ℕ, ◌+◌, Bool, if◌then◌else◌}
use Rattle.trace_summary.specs.declared.summary.Totals.{Totals}

-- the totals with a packet, which is marked or not and whose content has so many bytes
unfoldable pub with_packet : Totals → Bool → ℕ → Totals
with_packet totals marked bytes = record {
  packets = totals.packets + 1;
  marked = if marked then totals.marked + 1 else totals.marked;
  bytes = totals.bytes + bytes;
}
