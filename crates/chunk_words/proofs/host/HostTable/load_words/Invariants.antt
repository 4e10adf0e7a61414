use Rattle.std.proofs.Common.{◌≡◌, length}
use Rattle.chunk_words.specs.Moves.{LoadsUpTo}
use Rattle.chunk_words.proofs.host.HostTable.load_words.Given as goal

-- the words so far were loaded
abbrev pub invariant-loop-index : goal.invariant-loop-index
invariant-loop-index l = record {
  seat : l.seat.seat.table_id ≡ l.fn.seat.seat.table_id;
  size : length l.into ≡ length l.fn.into;
  loads : LoadsUpTo l.chunk l.index (length l.fn.into) l.into l.fn.seat.seat.me l.seat.seat.me;
}
