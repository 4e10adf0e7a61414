-- The seat of a user of a table of four pages, who has claimed nothing.
use Rattle.std.specs.Prelude.{◌≡◌, []}
use Rattle.layout_tuner.specs.declared.table.TuneTable.{TuneTable}
use Rattle.layout_tuner.specs.declared.seats.TuneSeat.{TuneSeat}
use Rattle.layout_tuner.specs.Sits.{Sits, known_by}

-- the user of this seat can partition a page anew
pub record IsReady (table : TuneTable) (seat : TuneSeat) : Type 0 where
  pub four : table.shape.pages ≡ 4
  pub sits : Sits table seat
  pub none : (known_by seat).claimed ≡ []
