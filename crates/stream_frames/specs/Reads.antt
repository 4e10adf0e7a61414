-- What a reader of frames takes from a piece of a stream.
use Rattle.std.specs.Prelude.{◌≡◌, ℕ, ◌<◌, ◌≤◌, List, ◌++◌, length, take, drop}
use Rattle.stream_frames.specs.Frames.{Frame, Limits}
use Rattle.stream_frames.specs.Framing.{Short, Bad, Whole, Feeding, stopped, then_fed, by_front, front_of, fed}

-- the reader is between two bytes of a stream without a fault so far: no frame stands whole in its room
pub record IsReading (limits : Limits) (feeding : Feeding) : Type 0 where
  pub short : front_of limits feeding.have ≡ Short

-- So many bytes of the piece were taken, at most up to the frame's end. What comes of the piece is what comes of the bytes behind them.
pub record TakesBytes (limits : Limits) (old : Feeding) (piece : List ℕ) (count : ℕ) (new : Feeding) : Type 0 where
  pub some : 0 < count
  pub within : count ≤ length piece
  pub at : new.at ≡ old.at
  pub have : new.have ≡ old.have ++ take count piece
  pub closed : new.closed ≡ old.closed
  pub short : front_of limits new.have ≡ Short → fed limits old piece ≡ fed limits new (drop count piece)
  pub bad : front_of limits new.have ≡ Bad → fed limits old piece ≡ stopped old.at
  pub whole : (frame : Frame) (size : ℕ) → front_of limits new.have ≡ Whole frame size
      → (size ≡ length new.have)
      × (fed limits old piece ≡ then_fed (by_front old.at new.have (Whole frame size)) (λ next. fed limits next (drop count piece)))
