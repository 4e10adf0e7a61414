-- A whole stream, frame by frame.
use Rattle.std.proofs.Common.{◌≡◌, ℕ, ◌+◌, ◌-◌, ◌<◌, ◌≤◌, Bool, true, false, List, [], ◌∷◌, length, take, drop, Err, refl, sym, ap, ◌∙◌, arith}
use Rattle.std.proofs.lemmas.Bool.{lt-ltb, le-ltb}
use Rattle.std.proofs.lemmas.List.{length-drop, drop-drop, take_rest}
use Rattle.stream_frames.specs.declared.check.FrameFault.TheVariants.{BadFrame, NoEnd}
use Rattle.stream_frames.specs.Frames.{Frame, Limits, closes}
use Rattle.stream_frames.specs.Framing.{Front, Short, Bad, Whole, Progress, between, front_of, fed, ended, ends_at, verdict_on}
use Rattle.stream_frames.proofs.FrontLemmas.{none_front, whole_front}
use Rattle.stream_frames.proofs.PieceLemmas.{behind_front, frames_come, closed_stops, none_fed}

-- what the stream's verdict is, where its frames up to a place are right and don't close it
pub record StandsAt (limits : Limits) (stream : List ℕ) (at : ℕ) : Type 0 where
  pub within : at ≤ length stream
  pub verdict : verdict_on limits stream ≡ ended (length stream) (fed limits (between at false) (drop at stream)).ends

pub stands_first : (limits : Limits) (stream : List ℕ) → StandsAt limits stream 0
stands_first limits stream = record { within = omega arith; verdict = refl }

ends_so : (limits : Limits) (stream : List ℕ) (at : ℕ) (front : Front) → StandsAt limits stream at → front_of limits (drop at stream) ≡ front
    → verdict_on limits stream ≡ ended (length stream) (behind_front limits at (drop at stream) front).ends
ends_so limits stream at front stands is =
    stands.verdict
    ∙ ap (λ (progress : Progress). ended (length stream) progress.ends)
    (frames_come limits at [] (drop at stream) (none_front limits) ∙ ap (behind_front limits at (drop at stream)) is)

pub stands_short : (limits : Limits) (stream : List ℕ) (at : ℕ) → StandsAt limits stream at → front_of limits (drop at stream) ≡ Short
    → verdict_on limits stream ≡ Err (NoEnd (length stream))
stands_short limits stream at stands is = ends_so limits stream at Short stands is

pub stands_bad : (limits : Limits) (stream : List ℕ) (at : ℕ) → StandsAt limits stream at → front_of limits (drop at stream) ≡ Bad
    → verdict_on limits stream ≡ Err (BadFrame at)
stands_bad limits stream at stands is = ends_so limits stream at Bad stands is

-- a frame is inside the stream, and has some byte
pub stands_within : (limits : Limits) (stream : List ℕ) (at : ℕ) (frame : Frame) (size : ℕ) → StandsAt limits stream at
    → front_of limits (drop at stream) ≡ Whole frame size → (at < at + size) × (at + size ≤ length stream)
stands_within limits stream at frame size stands is =
    let w = whole_front limits (drop at stream) frame size is in
    let some = w.some in let there = w.there in let within = stands.within in
    (omega arith, omega (arith, length-drop at stream))

behind_frame : (limits : Limits) (stream : List ℕ) (at : ℕ) (frame : Frame) (size : ℕ) (is_closed : Bool) → StandsAt limits stream at
    → front_of limits (drop at stream) ≡ Whole frame size → closes frame ≡ is_closed
    → verdict_on limits stream ≡ ended (length stream) (fed limits (between (at + size) is_closed) (drop (at + size) stream)).ends
behind_frame limits stream at frame size is_closed stands is closing =
    ends_so limits stream at (Whole frame size) stands is
    ∙ ap (λ (c : Bool). ended (length stream) (fed limits (between (at + size) c) (drop size (drop at stream))).ends) closing
    ∙ ap (λ (rest : List ℕ). ended (length stream) (fed limits (between (at + size) is_closed) rest).ends) (drop-drop size at stream)

pub stands_next : (limits : Limits) (stream : List ℕ) (at : ℕ) (frame : Frame) (size : ℕ) → StandsAt limits stream at
    → front_of limits (drop at stream) ≡ Whole frame size → closes frame ≡ false → StandsAt limits stream (at + size)
stands_next limits stream at frame size stands is going = record {
  within = (stands_within limits stream at frame size stands is).1;
  verdict = behind_frame limits stream at frame size false stands is going;
}

behind_close : (limits : Limits) (stream : List ℕ) (end : ℕ) (rest : List ℕ) → drop end stream ≡ rest → end ≤ length stream
    → ended (length stream) (fed limits (between end true) rest).ends ≡ ends_at end (length stream)
behind_close limits stream end [] is within =
    let none : length stream ≤ end = omega (arith, ap length is, length-drop end stream) in
    let e = le-ltb end (length stream) none in
    rw (none_fed limits (between end true), e) refl
behind_close limits stream end (byte ∷ bytes) is within =
    let some : end < length stream = omega (arith, ap length is, length-drop end stream) in
    let e = lt-ltb end (length stream) some in
    rw (closed_stops limits end byte bytes, e) refl

pub stands_closed : (limits : Limits) (stream : List ℕ) (at : ℕ) (frame : Frame) (size : ℕ) → StandsAt limits stream at
    → front_of limits (drop at stream) ≡ Whole frame size → closes frame ≡ true
    → verdict_on limits stream ≡ ends_at (at + size) (length stream)
stands_closed limits stream at frame size stands is closed =
    behind_frame limits stream at frame size true stands is closed
    ∙ behind_close limits stream (at + size) (drop (at + size) stream) refl (stands_within limits stream at frame size stands is).1

-- what is known of the rest of a stream, as the code lends it
pub rest_front : (limits : Limits) (stream : List ℕ) (at : ℕ) (front : Front) → front ≡ front_of limits (take (length stream - at) (drop at stream))
    → front_of limits (drop at stream) ≡ front
rest_front limits stream at front is = ap (front_of limits) (sym (take_rest stream at)) ∙ sym is
