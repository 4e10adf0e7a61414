-- How a stream is cut into frames: each is a length of four bytes, and then so many bytes. This profile's own. A stream comes byte by byte,
-- so that whatever pieces it comes in, what is known behind each of them is said by its bytes alone.
use Rattle.std.specs.Prelude.{ℕ, ◌+◌, Bool, false, ◌&&◌, not, nat_lt, nat_le, List, [], ◌∷◌, ◌++◌, length, take, drop, Option, Some, None, Result, Ok, Err, if◌then◌else◌}
use Rattle.std.specs.Int.{w32, from_le_bytes}
use Rattle.stream_frames.specs.declared.check.FrameFault.{FrameFault}
use Rattle.stream_frames.specs.declared.check.FrameFault.TheVariants.{BadFrame, NoEnd}
use Rattle.stream_frames.specs.declared.front.TheConstants.{MAX_FRAME}
use Rattle.stream_frames.specs.Decoding.{decoded}
use Rattle.stream_frames.specs.Frames.{Frame, Limits, closes}

-- a frame can have so many bytes behind its length
abbrev pub is_size : ℕ → Bool
is_size size = nat_le 1 size && nat_le size MAX_FRAME

-- What stands in front of some bytes: too few to say, no frame, or a frame that has so many bytes, its length among them.
pub data Front : Type 0 where
  Short : Front
  Bad : Front
  Whole : (frame : Frame) (size : ℕ) → Front

-- a frame with so many bytes behind its length, or none
abbrev pub whole_of : ℕ → Option Frame → Front
whole_of size None = Bad
whole_of size (Some frame) = Whole frame (4 + size)

-- what stands behind a length. A length out of its range is seen with its last byte, and any other fault with the frame's.
unfoldable pub behind_length : Limits → (size : ℕ) → List ℕ → Front
behind_length limits size bytes =
    if not (is_size size) then Bad
    else if nat_lt (length bytes) size then Short
    else whole_of size (decoded limits (take size bytes))

-- what stands in front of some bytes of a stream
unfoldable pub front_of : Limits → List ℕ → Front
front_of limits bytes =
    if nat_lt (length bytes) 4 then Short
    else behind_length limits (from_le_bytes w32 (take 4 bytes)) (drop 4 bytes)

-- how many bytes are there once the length has come, or, where it has, the frame
abbrev pub reach : List ℕ → ℕ
reach bytes = if nat_lt (length bytes) 4 then 4 else 4 + from_le_bytes w32 (take 4 bytes)

-- ---- a stream that comes byte by byte

-- what has come of a stream: where the frame begins that is read now, its bytes so far, and whether the frame before it closed the stream
pub record Feeding : Type 0 where
  pub at : ℕ
  pub have : List ℕ
  pub closed : Bool

-- nothing has come of the frame
abbrev pub between : ℕ → Bool → Feeding
between at closed = record { at = at; have = []; closed = closed }

-- nothing has come of the stream
abbrev pub beginning : Feeding
beginning = between 0 false

-- the frames that some bytes of a stream end, and what has come of it then, or where the first frame begins that is none
pub record Progress : Type 0 where
  pub frames : List Frame
  pub ends : Result Feeding ℕ

-- no frame is at its end
abbrev pub going : Feeding → Progress
going feeding = record { frames = []; ends = Ok feeding }

-- these bytes are no frame, and never will be
abbrev pub stopped : ℕ → Progress
stopped at = record { frames = []; ends = Err at }

-- what comes of the bytes that are there of a frame
abbrev pub by_front : (at : ℕ) → List ℕ → Front → Progress
by_front at bytes Short = going (record { at = at; have = bytes; closed = false })
by_front at bytes Bad = stopped at
by_front at bytes (Whole frame size) = record { frames = frame ∷ []; ends = Ok (between (at + size) (closes frame)) }

-- the frames before, and what comes of the bytes behind them
abbrev pub goes_on : List Frame → Result Feeding ℕ → (Feeding → Progress) → Progress
goes_on frames (Ok feeding) next = record { frames = frames ++ (next feeding).frames; ends = (next feeding).ends }
goes_on frames (Err at) next = record { frames = frames; ends = Err at }

-- the same behind a progress
abbrev pub then_fed : Progress → (Feeding → Progress) → Progress
then_fed progress next = goes_on progress.frames progress.ends next

-- one more byte; behind a close there is to be none
unfoldable pub fed_byte : Limits → Feeding → ℕ → Progress
fed_byte limits feeding byte =
    if feeding.closed then stopped feeding.at
    else by_front feeding.at (feeding.have ++ byte ∷ []) (front_of limits (feeding.have ++ byte ∷ []))

-- and so many
unfoldable pub fed : Limits → Feeding → List ℕ → Progress
fed limits feeding [] = going feeding
fed limits feeding (byte ∷ bytes) = then_fed (fed_byte limits feeding byte) (λ next. fed limits next bytes)

-- ---- a whole stream

-- what a stream of so many bytes is that ends so: it is right where its last frame is a close
abbrev pub ended : ℕ → Result Feeding ℕ → Result (Unit {0}) FrameFault
ended length (Err at) = Err (BadFrame at)
ended length (Ok feeding) = if feeding.closed then Ok tt else Err (NoEnd length)

-- what a whole stream is
abbrev pub verdict_on : Limits → List ℕ → Result (Unit {0}) FrameFault
verdict_on limits stream = ended (length stream) (fed limits beginning stream).ends

-- the frames of a stream, those before a fault
abbrev pub frames_of : Limits → List ℕ → List Frame
frames_of limits stream = (fed limits beginning stream).frames

-- a stream of so many bytes whose close ends here: bytes behind it are one fault too many
abbrev pub ends_at : ℕ → ℕ → Result (Unit {0}) FrameFault
ends_at end length = if nat_lt end length then Err (BadFrame end) else Ok tt
