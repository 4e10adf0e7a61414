-- Bytes of a piece that the reader takes, and what comes of the piece then.
use Rattle.std.proofs.Common.{◌≡◌, ◌∙◌, ℕ, ◌+◌, ◌^◌, ◌<◌, Bool, true, false, cond, List, [], ◌∷◌, ◌++◌, length, take, drop, Result, Ok, Err, refl, sym, ap, subst, arith}
use Rattle.std.proofs.lemmas.List.{length-append, length-take}
use Rattle.byte_io.specs.Bytes.{Intake, TakesPart}
use Rattle.byte_io.proofs.Told.{part_first}
use Rattle.trace_model.specs.Delivery.{trace_of}
use Rattle.trace_model.specs.History.{Event, buffers_after, records_after}
use Rattle.chunk_plain.specs.Meaning.{Meaning}
use Rattle.service_core.proofs.ReadingLemmas.{records_append, trace_append}
use Rattle.stream_frames.specs.Frames.{Frame, Limits, closes}
use Rattle.stream_frames.specs.Framing.{Feeding, Front, Short, Bad, Whole, Progress, between, stopped, by_front, front_of, goes_on, then_fed, fed_byte, fed}
use Rattle.stream_frames.specs.Reads.{TakesBytes}
use Rattle.stream_frames.specs.Values.{limits_of, feeding_of}
use Rattle.stream_producer.specs.declared.fault.StreamFault.{StreamFault}
use Rattle.stream_producer.specs.declared.fault.StreamFault.TheVariants.{WriteFault, BadFrame, NoEnd}
use Rattle.stream_producer.specs.declared.player.Player.{Player}
use Rattle.stream_producer.specs.declared.producer.StreamCore.{StreamCore}
use Rattle.stream_producer.specs.Feeding.{HasRoom, IsReady, IsFeeding, HasAtMostOneFrame, Feeds, FeedsSome, Stops}
use Rattle.stream_producer.specs.History.{played}
use Rattle.stream_producer.specs.Standing.{Stands, FitsSetup, Plays, due_of}
use Rattle.stream_producer.proofs.PlayLemmas.{plays_none, played_append}

-- behind a close the first byte is a fault
pub closed_fed : (limits : Limits) (feeding : Feeding) (piece : List ℕ) → feeding.closed ≡ true → 0 < length piece
    → fed limits feeding piece ≡ stopped feeding.at
unfolding fed fed_byte
closed_fed limits feeding [] shut some = absurd (omega (arith, some))
closed_fed limits feeding (byte ∷ bytes) shut some =
    ap (λ (b : Bool). then_fed (cond b (stopped feeding.at)
    (by_front feeding.at (feeding.have ++ byte ∷ []) (front_of limits (feeding.have ++ byte ∷ [])))) (λ next. fed limits next bytes)) shut

-- what comes of a piece, by what stands in front once bytes of it were taken
pub rest_of : (limits : Limits) (old new : Feeding) (piece : List ℕ) (count : ℕ) → TakesBytes limits old piece count new
    → new.closed ≡ false
    → fed limits old piece ≡ then_fed (by_front new.at new.have (front_of limits new.have)) (λ next. fed limits next (drop count piece))
rest_of limits old new piece count takes opened = by_case (front_of limits new.have) refl
  where
    by_case : (front : Front) → front_of limits new.have ≡ front
        → fed limits old piece ≡ then_fed (by_front new.at new.have front) (λ next. fed limits next (drop count piece))
    by_case Short is = takes.short is
        ∙ ap (λ (shut : Bool). fed limits (record { at = new.at; have = new.have; closed = shut }) (drop count piece)) opened
    by_case Bad is = takes.bad is ∙ ap stopped (sym takes.at)
    by_case (Whole frame size) is = (takes.whole frame size is).1
        ∙ ap (λ (n : ℕ). then_fed (by_front n new.have (Whole frame size)) (λ next. fed limits next (drop count piece))) (sym takes.at)

-- a part of what is due of the first frames is one of what is due of all
pub part_of_due : {T W S : Type 0} (means : Meaning T W S) (limits : Limits) (a b : List Frame) (player : Player T S)
    (before after : Intake)
    → TakesPart before after (due_of means limits player a) → TakesPart before after (due_of means limits player (a ++ b))
part_of_due means limits a b player before after part =
    let setup = means.setup player.table in
    let bs = player.service.buffers.items in
    let first : List Event = played setup limits bs a in
    let next : List Event = played setup limits (buffers_after bs first) b in
    let due : due_of means limits player (a ++ b) ≡ due_of means limits player a ++ trace_of (records_after (buffers_after bs first) next) =
    ap (λ (events : List Event). trace_of (records_after bs events)) (played_append setup limits bs a b)
    ∙ ap trace_of (records_append bs first next)
    ∙ trace_append (records_after bs first) (records_after (buffers_after bs first) next) in
    subst (λ (bytes : List ℕ). TakesPart before after bytes) (sym due)
    (part_first before after (due_of means limits player a) (trace_of (records_after (buffers_after bs first) next)) part)

-- so many bytes of the stream have come behind the frame that is played as before it
place_of : (at : ℕ) (have : List ℕ) (front : Front) (next : Feeding)
    → ((frame : Frame) (size : ℕ) → front ≡ Whole frame size → size ≡ length have)
    → (by_front at have front).ends ≡ Ok next → next.at + length next.have ≡ at + length have
place_of at have Short next whole is =
    let same : record { at = at; have = have; closed = false } ≡ next = cc in sym (ap (λ (f : Feeding). f.at + length f.have) same)
place_of at have Bad next whole is = absurd (cc)
place_of at have (Whole frame size) next whole is =
    let same : between (at + size) (closes frame) ≡ next = cc in
    let long = whole frame size refl in
    sym (ap (λ (f : Feeding). f.at + length f.have) same) ∙ (let sum : at + size + 0 ≡ at + length have = omega (arith, long) in sum)

module _ {T W S : Type 0} (means : Meaning T W S) (piece : List ℕ) (old mid : StreamCore T S) (was : IsFeeding means old)
    (fits : (feeding_of old.reader).at + length (feeding_of old.reader).have + length piece < 2 ^ 64)
    (shut : (feeding_of old.reader).closed ≡ false) (count : ℕ)
    (takes : TakesBytes (limits_of old.reader) (feeding_of old.reader) piece count (feeding_of mid.reader))
    (same : limits_of mid.reader ≡ limits_of old.reader) (player : mid.player ≡ old.player) (done : mid.done ≡ old.done) where
  abbrev progress : Progress
  progress = by_front (feeding_of mid.reader).at (feeding_of mid.reader).have (front_of (limits_of mid.reader) (feeding_of mid.reader).have)

  -- the bytes that were taken count
  counted_more : (feeding_of mid.reader).at + length (feeding_of mid.reader).have
      ≡ (feeding_of old.reader).at + length (feeding_of old.reader).have + count
  counted_more =
      let at = takes.at in
      let within = takes.within in
      let long : length (feeding_of mid.reader).have ≡ length (feeding_of old.reader).have + length (take count piece) =
      ap (λ (bs : List ℕ). length bs) takes.have ∙ length-append (feeding_of old.reader).have (take count piece) in
      let few = length-take count piece in
      omega (arith, at, long, few, within)

  counted_on : (feeding_of mid.reader).at + length (feeding_of mid.reader).have < 2 ^ 64
  counted_on = let more = counted_more in let within = takes.within in omega (arith, more, within, fits)

  pub at_most_one_there : HasAtMostOneFrame means mid
  at_most_one_there = record {
    ready = ready;
    opened = takes.closed ∙ shut;
    whole = λ frame size is.
        (takes.whole frame size (ap (λ (l : Limits). front_of l (feeding_of mid.reader).have) (sym same) ∙ is)).0;
  }
    where
      ready : IsReady means mid
      ready = record {
        stands = subst (λ (p : _). Stands means p) (sym player) was.ready.stands;
        fits = subst (λ (l : Limits). FitsSetup l (means.setup mid.player.table)) (sym same)
            (subst (λ (p : _). FitsSetup (limits_of old.reader) (means.setup p.table)) (sym player) was.ready.fits);
        room = subst (λ (d : _). HasRoom means (record mid { done = d })) (sym done)
            (subst (λ (p : _). HasRoom means (record old { reader = mid.reader; player = p })) (sym player) (record {
              buffers = was.ready.room.buffers;
              few_buffers = was.ready.room.few_buffers;
              sequences = was.ready.room.sequences;
              few_sequences = was.ready.room.few_sequences;
            }));
        counted = counted_on;
      }

  -- what comes of the piece
  comes : fed (limits_of old.reader) (feeding_of old.reader) piece
      ≡ then_fed progress (λ next. fed (limits_of old.reader) next (drop count piece))
  comes =
      rest_of (limits_of old.reader) (feeding_of old.reader) (feeding_of mid.reader) piece count takes (takes.closed ∙ shut)
      ∙ ap (λ (l : Limits). then_fed (by_front (feeding_of mid.reader).at (feeding_of mid.reader).have
      (front_of l (feeding_of mid.reader).have))
      (λ next. fed (limits_of old.reader) next (drop count piece))) (sym same)

  pub some_fed : (new : StreamCore T S) (before after : Intake)
      → Feeds means (by_front (feeding_of mid.reader).at (feeding_of mid.reader).have
      (front_of (limits_of mid.reader) (feeding_of mid.reader).have))
      mid new before after
      → FeedsSome means piece count old new before after
  some_fed new before after feeds = record {
    some = takes.some;
    within = takes.within;
    progress = progress;
    rest = comes;
    feeds = record {
      ends = feeds.ends;
      limits = feeds.limits ∙ same;
      feeding = feeds.feeding;
      plays = subst (λ (p : Player T S). Plays means (limits_of old.reader) progress.frames p new.player before after) player
          (subst (λ (l : Limits). Plays means l progress.frames mid.player new.player before after) same feeds.plays);
    };
    counted = place_of (feeding_of mid.reader).at (feeding_of mid.reader).have
        (front_of (limits_of mid.reader) (feeding_of mid.reader).have)
        (feeding_of new.reader) at_most_one_there.whole feeds.ends ∙ counted_more;
  }

  -- a fault in the frame is one in the piece
  pub some_stops : (new : StreamCore T S) (before after : Intake) (fault : StreamFault)
      → Stops means (by_front (feeding_of mid.reader).at (feeding_of mid.reader).have
      (front_of (limits_of mid.reader) (feeding_of mid.reader).have))
      mid new before after fault
      → Stops means (fed (limits_of old.reader) (feeding_of old.reader) piece) old new before after fault
  some_stops new before after WriteFault part =
      let here : TakesPart before after (due_of means (limits_of old.reader) old.player progress.frames) =
      subst (λ (p : Player T S). TakesPart before after (due_of means (limits_of old.reader) p progress.frames)) player
      (subst (λ (l : Limits). TakesPart before after (due_of means l mid.player progress.frames)) same part) in
      subst (λ (p : Progress). TakesPart before after (due_of means (limits_of old.reader) old.player p.frames)) (sym comes)
      (by_ends progress.frames progress.ends here)
    where
      by_ends : (frames : List Frame) (ends : Result Feeding ℕ)
          → TakesPart before after (due_of means (limits_of old.reader) old.player frames)
          → TakesPart before after (due_of means (limits_of old.reader) old.player
          (goes_on frames ends (λ next. fed (limits_of old.reader) next (drop count piece))).frames)
      by_ends frames (Ok feeding) there =
          part_of_due means (limits_of old.reader) frames (fed (limits_of old.reader) feeding (drop count piece)).frames old.player before
          after there
      by_ends frames (Err offset) there = there
  some_stops new before after (BadFrame offset) stops =
      let whole : fed (limits_of old.reader) (feeding_of old.reader) piece ≡ record { frames = progress.frames; ends = Err offset } =
      comes ∙ ap (λ (ends : Result Feeding ℕ). goes_on progress.frames ends (λ next. fed (limits_of old.reader) next (drop count piece)))
      stops.0 in
      subst (λ (p : Progress). Stops means p old new before after (BadFrame offset)) (sym whole) (
        refl,
        subst (λ (p : Player T S). Plays means (limits_of old.reader) progress.frames p new.player before after) player
            (subst (λ (l : Limits). Plays means l progress.frames mid.player new.player before after) same stops.1),
      )
  some_stops new before after (NoEnd offset) stops = absurd stops

-- a piece behind the close
pub closed_stops : {T W S : Type 0} (means : Meaning T W S) (piece : List ℕ) (old : StreamCore T S) → IsFeeding means old
    → (feeding_of old.reader).closed ≡ true → 0 < length piece → (offset : ℕ) → offset ≡ (feeding_of old.reader).at → (taken : Intake)
    → Stops means (fed (limits_of old.reader) (feeding_of old.reader) piece) old old taken taken (BadFrame offset)
closed_stops means piece old was shut some offset there taken =
    subst (λ (p : Progress). Stops means p old old taken taken (BadFrame offset))
    (sym (closed_fed (limits_of old.reader) (feeding_of old.reader) piece shut some)) (
      ap (λ (n : ℕ). let ends : Result Feeding ℕ = Err n in ends) (sym there),
      plays_none means (limits_of old.reader) old.player taken was.ready.stands,
    )
