use Rattle.std.proofs.Common.{◌≡◌}
use Rattle.chunk_words.specs.Moves.{Stores}
use Rattle.chunk_words.proofs.host.HostTable.store_words.Given as goal

-- the words so far were stored
abbrev pub invariant-loop-index : goal.invariant-loop-index
invariant-loop-index l = record {
  seat : l.seat.seat.table_id ≡ l.fn.seat.seat.table_id;
  place : l.seat.place ≡ l.fn.seat.place;
  stores : Stores l.chunk l.position l.first l.index l.copy l.fn.seat.seat.me l.seat.seat.me;
}
