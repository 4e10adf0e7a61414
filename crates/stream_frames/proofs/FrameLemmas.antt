-- A frame that the code read keeps to the limits.
use Rattle.std.proofs.Common.{◌≡◌, ℕ, List, Option, Some, None, sym}
use Rattle.std.specs.Prelude.{option_map, IfSome}
use Rattle.stream_frames.specs.declared.frame.Frame.{Frame}
use Rattle.stream_frames.specs.Decoding.{byte_at, frame_of, decoded}
use Rattle.stream_frames.specs.Frames as model
use Rattle.stream_frames.specs.Frames.{Limits, AreBytes, IsFrame}
use Rattle.stream_frames.specs.Values.{frame_value}
use Rattle.stream_frames.proofs.SpelledLemmas.{frame_read}

behind_kind : (limits : Limits) (bytes rest : List ℕ) (kind : ℕ) (frame : Option model.Frame) → Some (kind, rest) ≡ byte_at bytes
    → frame ≡ frame_of limits kind rest → decoded limits bytes ≡ frame
unfolding decoded
behind_kind limits bytes rest kind frame first is = let e = sym first in rw e (sym is)

pub read_within : (limits : Limits) (bytes rest : List ℕ) (kind : ℕ) (found : Option Frame) → AreBytes bytes → Some (kind, rest) ≡ byte_at bytes
    → option_map frame_value found ≡ frame_of limits kind rest → IfSome found (λ frame. IsFrame limits (frame_value frame))
read_within limits bytes rest kind None fit first is = tt
read_within limits bytes rest kind (Some frame) fit first is =
    (frame_read limits bytes (frame_value frame) fit (behind_kind limits bytes rest kind (Some (frame_value frame)) first is)).0
