-- A seat is one of a table's, and between two calls.
use Rattle.std.specs.Prelude.{◌≡◌, ℕ, ◌<◌, []}
use Rattle.chunk_plain.specs.Owned.{times}
use Rattle.layout_tuner.specs.declared.table.TuneTable.{TuneTable}
use Rattle.layout_tuner.specs.declared.seats.TuneSeat.{TuneSeat}
use Rattle.layout_tuner.specs.declared.seats.CollectSeat.{CollectSeat}
use Rattle.layout_tuner.specs.PageWords.{spot}
use Rattle.layout_tuner.specs.Knows.{UserView, CollectView, Watch, Collector, view_of, collector_of, made_of, joined_of, watch_of}
use Rattle.layout_tuner.specs.Plays.{Mine, IsUser}

-- the user's seat is one of the table's
pub record Sits (table : TuneTable) (seat : TuneSeat) : Type 0 where
  pub joined : seat.seat.table_id ≡ table.table.shared.table_id
  pub idle : IsUser seat.number seat.seat.me

-- what the user's seat knows
abbrev pub known_by : TuneSeat → UserView
known_by seat = view_of seat.seat.me.0

-- the user has claimed this chunk
pub record HasClaimed (table : TuneTable) (view : UserView) (page place : ℕ) : Type 0 where
  pub page_in : page < table.shape.pages
  pub place_in : place < 14
  pub claimed : 0 < times (spot page place) view.claimed

-- the user holds this chunk
pub record HasHeld (table : TuneTable) (view : UserView) (page place : ℕ) : Type 0 where
  pub page_in : page < table.shape.pages
  pub place_in : place < 14
  pub held : 0 < times (spot page place) view.held

-- the seat is the collector's
abbrev pub IsCollector : Mine → Type 0
IsCollector me = me ≡ (Collector (made_of me.0) (joined_of me.0) (watch_of me.0) (collector_of me.0), [])

-- The collector's seat is the table's. Each user has its seat.
pub record Serving (table : TuneTable) (seat : CollectSeat) : Type 0 where
  pub joined : seat.seat.table_id ≡ table.table.shared.table_id
  pub idle : IsCollector seat.seat.me
  pub all_made : made_of seat.seat.me.0 ≡ table.shape.users
  pub none_joined : joined_of seat.seat.me.0 ≡ []

-- what the collector's seat knows
abbrev pub known_by_collector : CollectSeat → CollectView
known_by_collector seat = collector_of seat.seat.me.0

-- what it watches
abbrev pub watched_by : CollectSeat → Watch
watched_by seat = watch_of seat.seat.me.0

-- No call of the collector's seat is going on: it reads no chunk.
pub record Attends (table : TuneTable) (seat : CollectSeat) : Type 0 where
  pub serving : Serving table seat
  pub none_read : (known_by_collector seat).reading ≡ []
