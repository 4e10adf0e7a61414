-- What stands in front of a reader, and what is played of it.
use Rattle.std.proofs.Common.{◌≡◌, ◌∙◌, ℕ, suc, ◌+◌, ◌^◌, ◌<◌, ◌≤◌, Bool, List, [], ◌∷◌, length, map, Result, Ok, Err, refl, sym, ap, subst, arith}
use Rattle.std.specs.Prelude.{vec_len}
use Rattle.std.proofs.lemmas.List.{length-map}
use Rattle.trace_base.specs.declared.limits.TheConstants.{MAX_BUFFERS, MAX_WRITERS}
use Rattle.byte_io.specs.Bytes.{Intake, TakesPart}
use Rattle.trace_model.specs.Buffers.{Buffer}
use Rattle.chunk_plain.specs.Meaning.{Meaning}
use Rattle.chunk_plain.specs.Setup.{Setup}
use Rattle.world_model.specs.FirstBuffers as first
use Rattle.service_core.specs.declared.service.ServiceCore.{ServiceCore}
use Rattle.service_core.specs.Agreement.{first_of, spec_value}
use Rattle.stream_frames.specs.Frames.{Frame, Limits, closes}
use Rattle.stream_frames.specs.Framing.{Feeding, Front, Short, Bad, Whole, Progress, between, by_front, front_of}
use Rattle.stream_frames.specs.Reads.{IsReading}
use Rattle.stream_frames.specs.Values.{limits_of, feeding_of}
use Rattle.stream_producer.specs.declared.fault.StreamFault.TheVariants.{WriteFault, BadFrame}
use Rattle.stream_producer.specs.declared.producer.StreamCore.{StreamCore}
use Rattle.stream_producer.specs.Feeding.{HasRoom, IsReady, HasAtMostOneFrame, Feeds, Stops}
use Rattle.stream_producer.specs.Standing.{FitsSetup, Plays, due_of}
use Rattle.stream_producer.proofs.PlayLemmas.{plays_none}

-- as many buffers are made as there are specifications
buffers_long : (setup : Setup) (buffer : ℕ) (specs : List first.BufferSpec) → length (first.first_buffers setup buffer specs) ≡ length specs
buffers_long setup buffer [] = refl
buffers_long setup buffer (spec ∷ specs) = ap suc (buffers_long setup (suc buffer) specs)

pub specs_long : {S : Type 0} (setup : Setup) (core : ServiceCore S) → length (first_of setup core) ≡ length core.specs.items
specs_long setup core = buffers_long setup 1 (map spec_value core.specs.items) ∙ length-map core.specs.items spec_value

module _ {T W S : Type 0} (means : Meaning T W S) (old new : StreamCore T S) (limits : Limits) (frames : List Frame) (before after : Intake)
    (was : IsReady means old) (plays : Plays means limits frames old.player new.player before after)
    (same : limits_of new.reader ≡ limits_of old.reader) (done : new.done ≡ old.done) where
  room_on : HasRoom means new
  room_on =
      let setup : Setup = means.setup old.player.table in
      let long : length new.player.service.specs.items ≡ length old.player.service.specs.items =
      sym (specs_long setup new.player.service) ∙ ap (λ (bs : List Buffer). length bs) plays.first ∙ specs_long setup old.player.service in
      let writers = ap (λ (s : Setup). length s.writers) plays.setup_stays in
      record {
        buffers = ap (λ (d : _). vec_len d.buffers) done ∙ was.room.buffers ∙ sym long;
        few_buffers = subst (λ (d : _). vec_len d.buffers ≤ MAX_BUFFERS) (sym done) was.room.few_buffers;
        sequences = ap (λ (d : _). vec_len d.sequences) done ∙ was.room.sequences ∙ sym writers;
        few_sequences = subst (λ (d : _). vec_len d.sequences ≤ MAX_WRITERS) (sym done) was.room.few_sequences;
      }

  pub ready_on : (feeding_of new.reader).at + length (feeding_of new.reader).have < 2 ^ 64 → IsReady means new
  ready_on counted = record {
    stands = plays.stands;
    fits = subst (λ (l : Limits). FitsSetup l (means.setup new.player.table)) (sym same)
        (subst (λ (s : Setup). FitsSetup (limits_of old.reader) s) (sym plays.setup_stays) was.fits);
    room = room_on;
    counted = counted;
  }

module _ {T W S : Type 0} (means : Meaning T W S) (old : StreamCore T S) (so : HasAtMostOneFrame means old) (before : Intake) where
  abbrev limits : Limits
  limits = limits_of old.reader

  abbrev at : ℕ
  at = (feeding_of old.reader).at

  abbrev have : List ℕ
  have = (feeding_of old.reader).have

  abbrev come : Progress
  come = by_front (feeding_of old.reader).at (feeding_of old.reader).have (front_of (limits_of old.reader) (feeding_of old.reader).have)

  at_front : (front : Front) → front_of (limits_of old.reader) (feeding_of old.reader).have ≡ front
      → by_front (feeding_of old.reader).at (feeding_of old.reader).have front ≡ come
  at_front front is = ap (by_front at have) (sym is)

  -- too few bytes: nothing is played
  pub front_short : Short ≡ front_of (limits_of old.reader) (feeding_of old.reader).have
      → Feeds means (by_front (feeding_of old.reader).at (feeding_of old.reader).have
      (front_of (limits_of old.reader) (feeding_of old.reader).have))
      old old before before
  front_short is =
      subst (λ (p : Progress). Feeds means p old old before before) (at_front Short (sym is)) (record {
        ends = ap (λ (shut : Bool). let ends : Result Feeding ℕ = Ok (record { at = at; have = have; closed = shut }) in ends)
            (sym so.opened);
        limits = refl;
        feeding = record { ready = so.ready; reading = record { short = sym is } };
        plays = plays_none means limits old.player before so.ready.stands;
      })

  -- no frame: the fault is where it begins
  pub front_bad : Bad ≡ front_of (limits_of old.reader) (feeding_of old.reader).have → (offset : ℕ) → offset ≡ (feeding_of old.reader).at
      → Stops means (by_front (feeding_of old.reader).at (feeding_of old.reader).have
      (front_of (limits_of old.reader) (feeding_of old.reader).have))
      old old before before (BadFrame offset)
  front_bad is offset there =
      subst (λ (p : Progress). Stops means p old old before before (BadFrame offset)) (at_front Bad (sym is)) (
        ap (λ (n : ℕ). let ends : Result Feeding ℕ = Err n in ends) (sym there),
        plays_none means limits old.player before so.ready.stands,
      )

  -- a frame is played
  pub front_whole : (frame : Frame) (size : ℕ) → Whole frame size ≡ front_of (limits_of old.reader) (feeding_of old.reader).have
      → (new : StreamCore T S) (after : Intake)
      → Plays means (limits_of old.reader) (frame ∷ []) old.player new.player before after
      → limits_of new.reader ≡ limits_of old.reader → new.done ≡ old.done
      → feeding_of new.reader ≡ between ((feeding_of old.reader).at + length (feeding_of old.reader).have) (closes frame)
      → IsReading (limits_of new.reader) (feeding_of new.reader)
      → Feeds means (by_front (feeding_of old.reader).at (feeding_of old.reader).have
      (front_of (limits_of old.reader) (feeding_of old.reader).have))
      old new before after
  front_whole frame size is new after plays same done next reading =
      let long = so.whole frame size (sym is) in
      let was = so.ready.counted in
      let here : (feeding_of new.reader).at + length (feeding_of new.reader).have ≡ at + length have =
      ap (λ (f : Feeding). f.at + length f.have) next ∙ (let none : at + length have + 0 ≡ at + length have = omega arith in none) in
      subst (λ (p : Progress). Feeds means p old new before after) (at_front (Whole frame size) (sym is)) (record {
        ends = ap (λ (n : ℕ). let ends : Result Feeding ℕ = Ok (between (at + n) (closes frame)) in ends) long
            ∙ ap (λ (f : Feeding). let ends : Result Feeding ℕ = Ok f in ends) (sym next);
        limits = same;
        feeding = record {
          ready = ready_on means old new limits (frame ∷ []) before after so.ready plays same done (omega (arith, here, was));
          reading = reading;
        };
        plays = plays;
      })

  -- or a write fails in it
  pub front_fails : (frame : Frame) (size : ℕ) → Whole frame size ≡ front_of (limits_of old.reader) (feeding_of old.reader).have
      → (new : StreamCore T S) (after : Intake)
      → TakesPart before after (due_of means (limits_of old.reader) old.player (frame ∷ []))
      → Stops means (by_front (feeding_of old.reader).at (feeding_of old.reader).have
      (front_of (limits_of old.reader) (feeding_of old.reader).have))
      old new before after WriteFault
  front_fails frame size is new after part =
      subst (λ (p : Progress). Stops means p old new before after WriteFault) (at_front (Whole frame size) (sym is)) part
