-- A piece of a stream that is taken frame by frame.
use Rattle.std.proofs.Common.{◌≡◌, ℕ, ◌+◌, ◌^◌, ◌<◌, ◌≤◌, List, [], ◌++◌, length, drop, Result, Ok, refl, sym, ap, subst, ◌∙◌, append_assoc, arith}
use Rattle.std.proofs.lemmas.List.{length-drop, drop-drop, drop_all, append-nil}
use Rattle.byte_io.specs.Bytes.{Intake, TakesPart}
use Rattle.chunk_plain.specs.Meaning.{Meaning}
use Rattle.stream_frames.specs.Frames.{Frame, Limits}
use Rattle.stream_frames.specs.Framing.{Feeding, Progress, going, goes_on, then_fed, fed}
use Rattle.stream_frames.specs.Values.{limits_of, feeding_of}
use Rattle.stream_frames.proofs.PieceLemmas.{none_fed}
use Rattle.stream_producer.specs.declared.fault.StreamFault.{StreamFault}
use Rattle.stream_producer.specs.declared.fault.StreamFault.TheVariants.{WriteFault, BadFrame, NoEnd}
use Rattle.stream_producer.specs.declared.producer.StreamCore.{StreamCore}
use Rattle.stream_producer.specs.Feeding.{IsFeeding, Feeds, FeedsSome, Stops}
use Rattle.stream_producer.specs.Standing.{Plays, due_of}
use Rattle.stream_producer.proofs.PlayLemmas.{plays_none, plays_both, due_first}

-- what comes behind a progress without a fault
abbrev pub joined : List Frame → Progress → Progress
joined frames progress = record { frames = frames ++ progress.frames; ends = progress.ends }

pub joined_is : (progress : Progress) (feeding : Feeding) (next : Feeding → Progress) → progress.ends ≡ Ok feeding
    → then_fed progress next ≡ joined progress.frames (next feeding)
joined_is progress feeding next is = ap (λ (ends : Result Feeding ℕ). goes_on progress.frames ends next) is

module _ {T W S : Type 0} (means : Meaning T W S) (piece : List ℕ) (old : StreamCore T S) (before : Intake) where
  -- so many bytes of the piece were taken
  pub record FedTo (at : ℕ) (now : StreamCore T S) (taken : Intake) : Type 0 where
    pub within : at ≤ length piece
    pub progress : Progress
    pub rest : fed (limits_of old.reader) (feeding_of old.reader) piece
        ≡ then_fed progress (λ next. fed (limits_of old.reader) next (drop at piece))
    pub feeds : Feeds means progress old now before taken
    pub counted : (feeding_of now.reader).at + length (feeding_of now.reader).have
        ≡ (feeding_of old.reader).at + length (feeding_of old.reader).have + at

  pub fed_first : IsFeeding means old → FedTo 0 old before
  fed_first feeding = record {
    within = omega arith;
    progress = going (feeding_of old.reader);
    rest = refl;
    feeds = record {
      ends = refl;
      limits = refl;
      feeding = feeding;
      plays = plays_none means (limits_of old.reader) old.player before feeding.ready.stands;
    };
    counted = omega arith;
  }

  rest_is : (at : ℕ) (now : StreamCore T S) (taken : Intake) (f : FedTo at now taken)
      → fed (limits_of old.reader) (feeding_of old.reader) piece
      ≡ joined f.progress.frames (fed (limits_of now.reader) (feeding_of now.reader) (drop at piece))
  rest_is at now taken f =
      f.rest ∙ joined_is f.progress (feeding_of now.reader) (λ next. fed (limits_of old.reader) next (drop at piece)) f.feeds.ends
      ∙ ap (λ (limits : Limits). joined f.progress.frames (fed limits (feeding_of now.reader) (drop at piece))) (sym f.feeds.limits)

  pub fed_done : (at : ℕ) (now : StreamCore T S) (taken : Intake) → length piece ≤ at → FedTo at now taken
      → Feeds means (fed (limits_of old.reader) (feeding_of old.reader) piece) old now before taken
  fed_done at now taken end f =
      let none : drop at piece ≡ [] = drop_all at piece end in
      let whole : fed (limits_of old.reader) (feeding_of old.reader) piece ≡ record { frames = f.progress.frames; ends = f.progress.ends } =
      rest_is at now taken f
      ∙ ap (λ (bytes : List ℕ). joined f.progress.frames (fed (limits_of now.reader) (feeding_of now.reader) bytes)) none
      ∙ ap (joined f.progress.frames) (none_fed (limits_of now.reader) (feeding_of now.reader))
      ∙ ap (λ (frames : List Frame). record { frames = frames; ends = Ok (feeding_of now.reader) }) (append-nil f.progress.frames)
      ∙ ap (λ (ends : Result Feeding ℕ). record { frames = f.progress.frames; ends = ends }) (sym f.feeds.ends) in
      subst (λ (progress : Progress). Feeds means progress old now before taken) (sym whole) f.feeds

  pub fed_more : (at count : ℕ) (now new : StreamCore T S) (taken after : Intake) → FedTo at now taken
      → FeedsSome means (drop at piece) count now new taken after
      → FedTo (at + count) new after
  fed_more at count now new taken after f some =
      let q = some.progress in
      let within = some.within in
      let further = f.within in
      record {
        within = omega (arith, length-drop at piece);
        progress = joined f.progress.frames q;
        rest = rest_is at now taken f
            ∙ ap (joined f.progress.frames) (some.rest
            ∙ joined_is q (feeding_of new.reader) (λ next. fed (limits_of now.reader) next (drop count (drop at piece)))
            some.feeds.ends)
            ∙ ap (λ (bytes : List ℕ). joined f.progress.frames (joined q.frames (fed (limits_of now.reader) (feeding_of new.reader) bytes)))
            (drop-drop count at piece)
            ∙ ap (λ (limits : Limits). joined f.progress.frames
            (joined q.frames (fed limits (feeding_of new.reader) (drop (at + count) piece)))) f.feeds.limits
            ∙ ap (λ (frames : List Frame).
            record { frames = frames; ends = (fed (limits_of old.reader) (feeding_of new.reader) (drop (at + count) piece)).ends })
            (sym (append_assoc f.progress.frames q.frames
            (fed (limits_of old.reader) (feeding_of new.reader) (drop (at + count) piece)).frames))
            ∙ sym (joined_is (joined f.progress.frames q) (feeding_of new.reader)
            (λ next. fed (limits_of old.reader) next (drop (at + count) piece)) some.feeds.ends);
        feeds = record {
          ends = some.feeds.ends;
          limits = some.feeds.limits ∙ f.feeds.limits;
          feeding = some.feeds.feeding;
          plays = plays_both means (limits_of old.reader) f.progress.frames q.frames old.player now.player new.player before taken after
              f.feeds.plays
              (subst (λ (limits : Limits). Plays means limits q.frames now.player new.player taken after) f.feeds.limits some.feeds.plays);
        };
        counted = let one = f.counted in let two = some.counted in omega (arith, one, two);
      }

  -- the rest of the piece
  pub rest_fits : (at : ℕ) (now : StreamCore T S) (taken : Intake) → FedTo at now taken
      → (feeding_of old.reader).at + length (feeding_of old.reader).have + length piece < 2 ^ 64
      → (feeding_of now.reader).at + length (feeding_of now.reader).have + length (drop at piece) < 2 ^ 64
  rest_fits at now taken f fits =
      let counted = f.counted in let within = f.within in let long = length-drop at piece in omega (arith, counted, within, long, fits)

  pub fed_stops : (at : ℕ) (now new : StreamCore T S) (taken after : Intake) (fault : StreamFault) → FedTo at now taken
      → Stops means (fed (limits_of now.reader) (feeding_of now.reader) (drop at piece)) now new taken after fault
      → Stops means (fed (limits_of old.reader) (feeding_of old.reader) piece) old new before after fault
  fed_stops at now new taken after WriteFault f part =
      let rest = fed (limits_of now.reader) (feeding_of now.reader) (drop at piece) in
      rw (rest_is at now taken f) (due_first means (limits_of old.reader) f.progress.frames rest.frames old.player now.player before taken
      after f.feeds.plays
      (subst (λ (limits : Limits). TakesPart taken after (due_of means limits now.player rest.frames)) f.feeds.limits part))
  fed_stops at now new taken after (BadFrame offset) f stops =
      let rest = fed (limits_of now.reader) (feeding_of now.reader) (drop at piece) in
      rw (rest_is at now taken f) (
        stops.0,
        plays_both means (limits_of old.reader) f.progress.frames rest.frames old.player now.player new.player before taken after
            f.feeds.plays
            (subst (λ (limits : Limits). Plays means limits rest.frames now.player new.player taken after) f.feeds.limits stops.1),
      )
  fed_stops at now new taken after (NoEnd offset) f stops = absurd stops
