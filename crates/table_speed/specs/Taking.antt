-- What the service took of each writer, that all of it has arrived, and that it reads none of it any more.
use Rattle.std.specs.Prelude.{◌≡◌, ◌≢◌, ℕ, ◌+◌, ◌<◌, List, [], slice_index_or}
use Rattle.chunk_plain.specs.Views.{taken_of}
use Rattle.chunk_plain.specs.Words.{AllArrived}
use Rattle.chunk_words.specs.declared.seats.ServiceSeat.{ServiceSeat}
use Rattle.chunk_words.specs.Knows.{service_of}

-- how many chunks were taken of the writer at this place
abbrev pub count_of : ServiceSeat → ℕ → ℕ
count_of seat place = (taken_of (service_of seat.seat.me.0) place).count

-- so many of the writer at this place
pub record HasTaken (place count : ℕ) (seat : ServiceSeat) : Type 0 where
  pub count_is : count_of seat place ≡ count
  pub none_out : (service_of seat.seat.me.0).reading ≡ []
  pub arrived : AllArrived (service_of seat.seat.me.0)

-- so many of each of the four writers
pub record HasTakenEach (counts : List ℕ) (seat : ServiceSeat) : Type 0 where
  pub counts_are : (place : ℕ) → place < 4 → count_of seat place ≡ slice_index_or counts place 0
  pub none_out : (service_of seat.seat.me.0).reading ≡ []
  pub arrived : AllArrived (service_of seat.seat.me.0)

-- none of any writer
pub record HasTakenNone (seat : ServiceSeat) : Type 0 where
  pub counts_are : (place : ℕ) → place < 4 → count_of seat place ≡ 0
  pub none_out : (service_of seat.seat.me.0).reading ≡ []
  pub arrived : AllArrived (service_of seat.seat.me.0)

-- one chunk more was taken of the writer at this place, noted to have arrived, and let go
pub record TakesOne (place : ℕ) (old new : ServiceSeat) : Type 0 where
  pub more : count_of new place ≡ count_of old place + 1
  pub others : (other : ℕ) → other ≢ place → count_of new other ≡ count_of old other
  pub none_out : (service_of new.seat.me.0).reading ≡ []
  pub arrived : AllArrived (service_of new.seat.me.0)

-- none was taken
pub record TakesNone (old new : ServiceSeat) : Type 0 where
  pub all : (place : ℕ) → count_of new place ≡ count_of old place
  pub none_out : (service_of new.seat.me.0).reading ≡ []
  pub arrived : AllArrived (service_of new.seat.me.0)
