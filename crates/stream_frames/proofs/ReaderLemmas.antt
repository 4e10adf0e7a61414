-- What a reader of frames takes.
use Rattle.std.proofs.Common.{◌≡◌, ◌≢◌, ℕ, ◌+◌, ◌<◌, ◌≤◌, List, ◌∷◌, ◌++◌, length, take, drop, refl, sym, ap, ◌∙◌, arith, append_assoc}
use Rattle.std.proofs.lemmas.List.{length-append, length-take, take-append-drop, drop_at}
use Rattle.stream_frames.specs.Frames.{Frame, Limits, closes}
use Rattle.stream_frames.specs.Framing.{Short, Bad, Whole, between, by_front, then_fed, stopped, front_of, fed, reach}
use Rattle.stream_frames.specs.Reads.{TakesBytes}
use Rattle.stream_frames.proofs.FrontLemmas.{front_grows, reached}
use Rattle.stream_frames.proofs.PieceLemmas.{opened, behind_front, fronted, frames_come}

module _ (limits : Limits) (at : ℕ) (have piece : List ℕ) (count : ℕ) (short : front_of limits have ≡ Short) (within : count ≤ length piece)
    (below : length have + count ≤ reach have) where
  cut : have ++ piece ≡ (have ++ take count piece) ++ drop count piece
  cut = ap (λ (bytes : List ℕ). have ++ bytes) (sym (take-append-drop count piece)) ∙ sym (append_assoc have (take count piece) (drop count piece))

  all : fed limits (opened at have) piece ≡ fronted limits at ((have ++ take count piece) ++ drop count piece)
  all = frames_come limits at have piece short ∙ ap (fronted limits at) cut

  if_short : front_of limits (have ++ take count piece) ≡ Short
      → fed limits (opened at have) piece ≡ fed limits (opened at (have ++ take count piece)) (drop count piece)
  if_short still = all ∙ sym (frames_come limits at (have ++ take count piece) (drop count piece) still)

  if_bad : front_of limits (have ++ take count piece) ≡ Bad → fed limits (opened at have) piece ≡ stopped at
  if_bad is =
      let known : front_of limits (have ++ take count piece) ≢ Short = λ e. let f = sym is ∙ e in cc in
      all ∙ ap (behind_front limits at ((have ++ take count piece) ++ drop count piece)) (front_grows limits (have ++ take count piece) (drop count piece) known ∙ is)

  if_whole : (frame : Frame) (size : ℕ) → front_of limits (have ++ take count piece) ≡ Whole frame size
      → (size ≡ length (have ++ take count piece))
      × (fed limits (opened at have) piece ≡ then_fed (by_front at (have ++ take count piece) (Whole frame size)) (λ next. fed limits next (drop count piece)))
  if_whole frame size is =
      let known : front_of limits (have ++ take count piece) ≢ Short = λ e. let f = sym is ∙ e in cc in
      let long : length (have ++ take count piece) ≤ reach have = omega (arith, length-append have (take count piece), length-take count piece) in
      let size_is = reached limits have (take count piece) frame size long is in (
        size_is,
        all ∙ ap (behind_front limits at ((have ++ take count piece) ++ drop count piece)) (front_grows limits (have ++ take count piece) (drop count piece) known ∙ is)
            ∙ ap (λ (behind : List ℕ). record { frames = frame ∷ (fed limits (between (at + size) (closes frame)) behind).frames; ends = (fed limits (between (at + size) (closes frame)) behind).ends })
            (drop_at (have ++ take count piece) (drop count piece) size (sym size_is)),
      )

  pub takes : 0 < count → TakesBytes limits (opened at have) piece count (opened at (have ++ take count piece))
  takes some = record {
    some = some;
    within = within;
    at = refl;
    have = refl;
    closed = refl;
    short = if_short;
    bad = if_bad;
    whole = if_whole;
  }
