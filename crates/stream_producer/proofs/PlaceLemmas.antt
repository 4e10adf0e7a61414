-- A frame that stands whole in front of a piece, and is played where it stands.
use Rattle.std.proofs.Common.{◌≡◌, ◌∙◌, ℕ, ◌+◌, ◌^◌, ◌<◌, ◌==◌, Bool, true, false, List, [], ◌∷◌, length, drop, Result, Ok, sym, ap, subst, arith}
use Rattle.std.proofs.lemmas.Bool.{eqb-true}
use Rattle.std.proofs.lemmas.List.{nil_from_length}
use Rattle.byte_io.specs.Bytes.{Intake, TakesPart}
use Rattle.chunk_plain.specs.Meaning.{Meaning}
use Rattle.stream_frames.specs.Frames.{Frame, closes}
use Rattle.stream_frames.specs.Framing.{Feeding, Whole, Progress, between, by_front, front_of, then_fed, fed}
use Rattle.stream_frames.specs.Reads.{IsReading}
use Rattle.stream_frames.specs.Values.{limits_of, feeding_of}
use Rattle.stream_frames.proofs.FrontLemmas.{whole_front}
use Rattle.stream_frames.proofs.PieceLemmas.{whole_fed}
use Rattle.stream_producer.specs.declared.fault.StreamFault.TheVariants.{WriteFault}
use Rattle.stream_producer.specs.declared.producer.StreamCore.{StreamCore}
use Rattle.stream_producer.specs.Feeding.{IsFeeding, FeedsSome, Stops}
use Rattle.stream_producer.specs.Standing.{Plays, due_of}
use Rattle.stream_producer.proofs.FrontLemmas.{ready_on}
use Rattle.stream_producer.proofs.TakeLemmas.{part_of_due}

-- no byte is there where the length says so
pub no_bytes : (have : List ℕ) (none : Bool) → none ≡ (length have == 0) → none ≡ true → have ≡ []
no_bytes have none is holds = nil_from_length have (eqb-true _ _ (sym is ∙ holds))

module _ {T W S : Type 0} (means : Meaning T W S) (piece : List ℕ) (old : StreamCore T S) (was : IsFeeding means old)
    (fits : (feeding_of old.reader).at + length (feeding_of old.reader).have + length piece < 2 ^ 64)
    (shut : (feeding_of old.reader).closed ≡ false) (none : (feeding_of old.reader).have ≡ [])
    (frame : Frame) (size : ℕ) (whole : Whole frame size ≡ front_of (limits_of old.reader) piece) where
  abbrev at : ℕ
  at = (feeding_of old.reader).at

  is_between : feeding_of old.reader ≡ between at false
  is_between =
      ap (λ (have : List ℕ). let f : Feeding = record { at = at; have = have; closed = (feeding_of old.reader).closed } in f) none
      ∙ ap (λ (closed : Bool). let f : Feeding = record { at = at; have = []; closed = closed } in f) shut

  abbrev progress : Progress
  progress = by_front at [] (Whole frame size)

  comes : fed (limits_of old.reader) (feeding_of old.reader) piece
      ≡ then_fed progress (λ next. fed (limits_of old.reader) next (drop size piece))
  comes =
      ap (λ (f : Feeding). fed (limits_of old.reader) f piece) is_between
      ∙ whole_fed (limits_of old.reader) at piece frame size (sym whole)

  -- the frame's bytes are inside the piece
  pub place_fits : at + size < 2 ^ 64
  place_fits =
      let there = (whole_front (limits_of old.reader) piece frame size (sym whole)).there in
      omega (arith, there, fits)

  pub place_fed : (new : StreamCore T S) (before after : Intake)
      → Plays means (limits_of old.reader) (frame ∷ []) old.player new.player before after
      → limits_of new.reader ≡ limits_of old.reader → new.done ≡ old.done
      → feeding_of new.reader ≡ between ((feeding_of old.reader).at + size) (closes frame)
      → IsReading (limits_of new.reader) (feeding_of new.reader)
      → FeedsSome means piece size old new before after
  place_fed new before after plays same done next reading =
      let inside = whole_front (limits_of old.reader) piece frame size (sym whole) in
      let some = inside.some in
      let less = place_fits in
      let here : (feeding_of new.reader).at + length (feeding_of new.reader).have ≡ at + size =
      ap (λ (f : Feeding). f.at + length f.have) next ∙ (let sum : at + size + 0 ≡ at + size = omega arith in sum) in
      let empty = ap length none in
      record {
        some = omega (arith, some);
        within = inside.there;
        progress = progress;
        rest = comes;
        feeds = record {
          ends = ap (λ (f : Feeding). let ends : Result Feeding ℕ = Ok f in ends) (sym next);
          limits = same;
          feeding = record {
            ready = ready_on means old new (limits_of old.reader) (frame ∷ []) before after was.ready plays same done (omega (arith, here, less));
            reading = reading;
          };
          plays = plays;
        };
        counted = omega (arith, here, empty);
      }

  -- or a write fails in it
  pub place_fails : (new : StreamCore T S) (before after : Intake)
      → TakesPart before after (due_of means (limits_of old.reader) old.player (frame ∷ []))
      → Stops means (fed (limits_of old.reader) (feeding_of old.reader) piece) old new before after WriteFault
  place_fails new before after part =
      subst (λ (p : Progress). TakesPart before after (due_of means (limits_of old.reader) old.player p.frames)) (sym comes)
      (part_of_due means (limits_of old.reader) (frame ∷ [])
      (fed (limits_of old.reader) (between (at + size) (closes frame)) (drop size piece)).frames old.player before after part)
