-- What the fields of a sequence mean.
use Rattle.std.specs.Prelude.{◌≡◌, ℕ, ◌^◌, ◌<◌, ◌≤◌, true, false, length, replicate}
use Rattle.trace_base.specs.declared.limits.TheConstants.{IDS_AHEAD}
use Rattle.trace_model.specs.Sequences.{Sequence, is_among}
use Rattle.trace_buffer.specs.Circle.{bit, marked, arrived_of}
use Rattle.trace_buffer.specs.declared.row.SequenceRow.TheInside.{Inside}

-- the row of a sequence as one of the model
abbrev pub row_view : Inside → Sequence
row_view row = record {
  number = row.number;
  size = row.size;
  from = row.from;
  arrived = arrived_of row.base row.ahead.items;
  cursor = record { chunk_id = row.at; passed = row.passed };
  closed = row.closed;
  final = marked row.finals.items IDS_AHEAD row.base;
  missing = row.missing;
  delivered = row.delivered;
  dropped = row.dropped;
  lost = row.lost;
  cut = row.cut;
}

-- the fields of a row hold together
pub record IsSequence (row : Inside) : Type 0 where
  pub ahead : length row.ahead.items ≡ IDS_AHEAD
  pub finals : length row.finals.items ≡ IDS_AHEAD
  pub low : row.base ≤ 2 ^ 32
  -- the base hasn't arrived
  pub settled : bit row.ahead.items row.base ≡ false
  pub small : (position : ℕ) → is_among position (arrived_of row.base row.ahead.items) ≡ true → position < 2 ^ 32
  -- nothing is final before the sequence is closed
  pub none : row.closed ≡ false → row.finals.items ≡ replicate IDS_AHEAD false
