-- Statements of the laws of frames and streams.
use Rattle.std.specs.Prelude.{◌≡◌, ℕ, List, ◌++◌, Some}
use Rattle.stream_frames.specs.Decoding.{decoded}
use Rattle.stream_frames.specs.Frames.{Frame, Limits, AreBytes, IsFrame, frame_bytes}
use Rattle.stream_frames.specs.Framing.{Feeding, fed, then_fed}

-- Bytes are read as a frame exactly where they spell it.
pub record FramesAreSpelled : Type 0 where
  pub read : (limits : Limits) (bytes : List ℕ) (frame : Frame) → AreBytes bytes → decoded limits bytes ≡ Some frame
      → IsFrame limits frame × (bytes ≡ frame_bytes frame)
  pub again : (limits : Limits) (frame : Frame) → IsFrame limits frame → decoded limits (frame_bytes frame) ≡ Some frame

-- Wherever a stream is cut in two, what comes of it is the same.
abbrev pub PiecesAreOneStream : Type 0
PiecesAreOneStream = (limits : Limits) (feeding : Feeding) (a b : List ℕ)
    → fed limits feeding (a ++ b) ≡ then_fed (fed limits feeding a) (λ next. fed limits next b)
