-- A run of packets that lie whole in one chunk.
use Rattle.std.proofs.Common.{◌≡◌, ℕ, suc, ◌+◌, ◌-◌, ◌<◌, ◌≤◌, ◌&&◌, not, true, false, List, length, refl, sym, ap, ◌∙◌, subst, arith}
use Rattle.byte_io.specs.Bytes.{Intake, after_told, TakesPart}
use Rattle.ring_bytes.specs.declared.key.RecordKey.{RecordKey}
use Rattle.trace_model.specs.Buffers.{Buffer, live_at}
use Rattle.trace_model.specs.Images.{Chunk}
use Rattle.trace_model.specs.Reading.{reading_of, is_readable}
use Rattle.trace_model.specs.Reads.{Delivers, link_bytes, is_marked}
use Rattle.trace_model.specs.Record.{record_of}
use Rattle.trace_model.specs.Sequences.{sequence_in}
use Rattle.trace_buffer.specs.Calls.{with_advance, with_deliveries, IsImageOf}
use Rattle.trace_buffer.specs.Records.{chunk_of}
use Rattle.trace_buffer.proofs.DeliverLemmas.{next_delivery}
use Rattle.sequence_reader.specs.declared.held.Held.{Held}
use Rattle.sequence_reader.specs.declared.link.Chain.{Chain}
use Rattle.sequence_reader.specs.declared.progress.Progress.{Progress}
use Rattle.sequence_reader.specs.declared.run.Ran.{Ran}
use Rattle.sequence_reader.specs.declared.run.RunEnd.{RunEnd}
use Rattle.sequence_reader.specs.declared.run.RunEnd.TheVariants as run
use Rattle.sequence_reader.specs.declared.spot.Bounds.{Bounds}
use Rattle.sequence_reader.specs.declared.step.Piece.{Piece}
use Rattle.sequence_reader.specs.declared.step.Step.{Step}
use Rattle.sequence_reader.specs.declared.step.Step.TheVariants as step
use Rattle.sequence_reader.specs.Ends.{row_met}
use Rattle.sequence_reader.specs.Links.{first_bytes, IsPacket}
use Rattle.sequence_reader.specs.Runs.{IsPlain, RunsOn, RunEnds, Runs, PutsRun}
use Rattle.sequence_reader.specs.Spots.{FitsChunk, IsHeld, rows_of, cursor_of}
use Rattle.sequence_reader.specs.Steps.{IsPieceAt, Shows, ShowsIn}
use Rattle.sequence_reader.specs.Turns.{IsAt, IsReadTo, GoesOn, Fails}
use Rattle.sequence_reader.proofs.ChainLemmas.{last_fate, begun_chain, walked_begun}
use Rattle.sequence_reader.proofs.FoundLemmas.{piece_bytes, piece_judged, found_packet}
use Rattle.sequence_reader.proofs.ReadLemmas.{read_none, read_both, read_further, fails_here, goes_by, taken_one}
use Rattle.sequence_reader.proofs.StepLemmas.{lent, shown}

-- a run has come to a place, and the buffer is to be told
pub record IsRunTo (old : Buffer) (bounds : Bounds) (limit : ℕ) (before after : Intake) (start next : Progress) : Type 0 where
  pub now : Buffer
  pub told : now ≡ with_deliveries old bounds.sequence (cursor_of next.at) (next.delivered - start.delivered)
  pub on : RunsOn old now before after bounds limit start next

-- it stands in a chunk whose record has this header and this payload
pub record IsRunning (old : Buffer) (bounds : Bounds) (limit : ℕ) (key : RecordKey) (payload : List ℕ) (before after : Intake) (start next : Progress) : Type 0 where
  pub to : IsRunTo old bounds limit before after start next
  pub image : IsImageOf key payload (live_at to.now bounds.sequence next.at.chunk_id)

-- where it ends

pub ends_other : (old : Buffer) (bounds : Bounds) (limit : ℕ) (before after : Intake) (start next : Progress) → IsRunTo old bounds limit before after start next
    → PutsRun old before after bounds limit start (record { progress = next; end = run.Other })
ends_other old bounds limit before after start next to = record {
  now = to.now;
  told = to.told;
  runs = record { mid = after; on = to.on; ends = refl };
}

ends_chunk : (old : Buffer) (bounds : Bounds) (limit : ℕ) (before after : Intake) (start next : Progress) (to : IsRunTo old bounds limit before after start next)
    → length (row_met to.now bounds.sequence) < length (row_met old bounds.sequence) → PutsRun old before after bounds limit start (record { progress = next; end = run.Chunk })
ends_chunk old bounds limit before after start next to shorter = record {
  now = to.now;
  told = to.told;
  runs = record { mid = after; on = to.on; ends = (refl, shorter) };
}

ends_fault : (old : Buffer) (bounds : Bounds) (limit : ℕ) (before mid after : Intake) (start next : Progress) (to : IsRunTo old bounds limit before mid start next)
    → Fails to.now to.now mid after bounds.sequence (limit - next.delivered) → PutsRun old before after bounds limit start (record { progress = next; end = run.Fault })
ends_fault old bounds limit before mid after start next to fails = record {
  now = to.now;
  told = to.told;
  runs = record { mid = mid; on = to.on; ends = fails };
}

-- where it begins
abbrev begins : (b : Buffer) (bounds : Bounds) (limit : ℕ) (intake : Intake) (start : Progress) → IsAt b bounds start → start.delivered ≤ limit → IsRunTo b bounds limit intake intake start start
begins b bounds limit intake start at most =
    let none : 0 ≡ start.delivered - start.delivered = omega arith in
    record {
      now = b;
      told = ap (with_deliveries b bounds.sequence (cursor_of start.at)) none;
      on = record {
        at = at;
        most = most;
        later = omega arith;
        read = subst (IsReadTo b b intake intake bounds.sequence) none (read_none b bounds.sequence intake);
        no_longer = omega arith;
      };
    }

pub runs_none : (b : Buffer) (bounds : Bounds) (limit : ℕ) (intake : Intake) (progress : Progress) (held : Held) → IsAt b bounds progress → IsHeld b bounds.sequence held
    → progress.delivered ≤ limit → PutsRun b intake intake bounds limit progress (record { progress = record progress { held = held }; end = run.Other })
runs_none b bounds limit intake progress held at holds most =
    let start : Progress = record progress { held = held } in
    let there : IsAt b bounds start = record { bounds_are = at.bounds_are; spot = at.spot; held = holds; links = at.links; marked = at.marked } in
    let to : IsRunTo b bounds limit intake intake start start = begins b bounds limit intake start there most in
    record {
      now = to.now;
      told = to.told;
      runs = record {
        mid = intake;
        on = record { at = to.on.at; most = to.on.most; later = to.on.later; read = to.on.read; no_longer = to.on.no_longer };
        ends = refl;
      };
    }

pub runs_from : (b : Buffer) (bounds : Bounds) (limit : ℕ) (key : RecordKey) (payload : List ℕ) (intake : Intake) (start : Progress) → IsAt b bounds start → start.delivered ≤ limit
    → IsImageOf key payload (live_at b bounds.sequence start.at.chunk_id) → IsRunning b bounds limit key payload intake intake start start
runs_from b bounds limit key payload intake start at most image = record { to = begins b bounds limit intake start at most; image = image }

-- what the chunk shows where it stands
module _ (old : Buffer) (bounds : Bounds) (limit : ℕ) (key : RecordKey) (payload : List ℕ) (before after : Intake) (start next : Progress)
    (running : IsRunning old bounds limit key payload before after start next) where
  pub run_reads : is_readable (reading_of key.count payload) ≡ true
  run_reads = ap is_readable (lent key payload (live_at running.to.now bounds.sequence next.at.chunk_id) running.image).tells.reads

  pub run_fits : next.at.chunk_id < bounds.end → FitsChunk bounds.closed (chunk_of key payload) next.at
  run_fits low =
      let image = lent key payload (live_at running.to.now bounds.sequence next.at.chunk_id) running.image in
      subst (λ (chunk : Chunk). FitsChunk bounds.closed chunk next.at) (sym image.tells.chunk) (running.to.on.at.spot low image.stored image.live)

  pub run_shows : next.at.chunk_id < bounds.end → (found : Step) → ShowsIn bounds.closed (chunk_of key payload) next.at found → Shows running.to.now bounds next.at found
  run_shows low found shows =
      let image = lent key payload (live_at running.to.now bounds.sequence next.at.chunk_id) running.image in
      shown running.to.now bounds next.at image.stored running.to.on.at.bounds_are low image.live found
      (subst (λ (chunk : Chunk). ShowsIn bounds.closed chunk next.at found) image.tells.chunk shows)

-- one packet more
module _ (old : Buffer) (bounds : Bounds) (limit : ℕ) (key : RecordKey) (payload : List ℕ) (before mid after : Intake) (start progress : Progress)
    (running : IsRunning old bounds limit key payload before mid start progress) (low : progress.at.chunk_id < bounds.end) (piece : Piece)
    (shows : ShowsIn bounds.closed (chunk_of key payload) progress.at (step.Fragment piece)) (plain : IsPlain piece) (due : progress.delivered < limit) where
  abbrev now : Buffer
  now = running.to.now

  abbrev on : RunsOn old now before mid bounds limit start progress
  on = running.to.on

  here : IsPieceAt now bounds progress.at piece
  here = run_shows old bounds limit key payload before mid start progress running low (step.Fragment piece) shows

  abbrev chain : Chain
  chain = begun_chain now bounds progress.at piece

  stops : (piece.runs_on && not piece.dropped) ≡ false
  stops = ap (λ r. r && not piece.dropped) plain.ends

  packet : IsPacket now bounds progress.at piece.behind piece (length piece.bytes.now)
  packet =
      found_packet now bounds chain (walked_begun now bounds progress.at piece here) stops (ap last_fate plain.undropped) plain.begins plain.done
      true (piece_judged now bounds progress.at piece true here stops (sym plain.accepted)) refl piece here

  bytes : piece.bytes.now ≡ link_bytes packet.is.link
  bytes = sym (piece_bytes now bounds progress.at piece here stops) ∙ ap first_bytes packet.is.links_are

  -- it is delivered

  abbrev further : Progress
  further = record { at = piece.behind; held = progress.held; marked = false; delivered = progress.delivered + 1 }

  goes : after ≡ after_told mid (record_of piece.bytes.now bounds.sequence progress.marked)
      → GoesOn now (with_advance now bounds.sequence (cursor_of piece.behind) Delivers) mid after bounds limit progress further
  goes took =
      goes_by now bounds mid after limit progress further Delivers on.at refl packet.is
      (taken_one mid after bounds.sequence piece.bytes.now (link_bytes packet.is.link) progress.marked (is_marked (sequence_in now.sequences bounds.sequence)) bytes on.at.marked took)
      packet.behind on.at.held refl (omega (arith, due)) refl

  abbrev goes_further : after ≡ after_told mid (record_of piece.bytes.now bounds.sequence progress.marked) → IsRunTo old bounds limit before after start further
  goes_further took =
      let go = goes took in
      let next : Buffer = with_advance now bounds.sequence (cursor_of piece.behind) Delivers in
      let one : suc (progress.delivered - start.delivered) ≡ progress.delivered + 1 - start.delivered = omega (arith, on.later) in
      let sum : (progress.delivered - start.delivered) + (progress.delivered + 1 - progress.delivered) ≡ progress.delivered + 1 - start.delivered = omega (arith, on.later) in
      record {
        now = next;
        told =
            ap (λ (b : Buffer). with_advance b bounds.sequence (cursor_of piece.behind) Delivers) running.to.told
            ∙ next_delivery old bounds.sequence (cursor_of progress.at) (cursor_of piece.behind) (progress.delivered - start.delivered)
            ∙ ap (with_deliveries old bounds.sequence (cursor_of piece.behind)) one;
        on = record {
          at = go.at;
          most = go.most;
          later = omega (arith, on.later);
          read = subst (IsReadTo old next before after bounds.sequence) sum
              (read_both old now next before mid after bounds.sequence (progress.delivered - start.delivered) (progress.delivered + 1 - progress.delivered) on.read go.read);
          no_longer = omega (arith, go.shorter, on.no_longer);
        };
      }

  pub put_more : after ≡ after_told mid (record_of piece.bytes.now bounds.sequence progress.marked) → piece.behind.chunk_id ≡ progress.at.chunk_id
      → IsRunning old bounds limit key payload before after start (record { at = piece.behind; held = progress.held; marked = false; delivered = progress.delivered + 1 })
  put_more took same = record {
    to = goes_further took;
    image = subst (λ n. IsImageOf key payload (live_at now bounds.sequence n)) (sym same) running.image;
  }

  pub put_chunk : after ≡ after_told mid (record_of piece.bytes.now bounds.sequence progress.marked)
      → PutsRun old before after bounds limit start
      (record { progress = record { at = piece.behind; held = progress.held; marked = false; delivered = progress.delivered + 1 }; end = run.Chunk })
  put_chunk took =
      let go = goes took in
      ends_chunk old bounds limit before after start further (goes_further took) (omega (arith, go.shorter, on.no_longer))

  -- its record isn't written whole
  pub put_fault : TakesPart mid after (record_of piece.bytes.now bounds.sequence progress.marked)
      → PutsRun old before after bounds limit start (record { progress = progress; end = run.Fault })
  put_fault part =
      ends_fault old bounds limit before mid after start progress running.to
      (fails_here now bounds.sequence (limit - progress.delivered) mid after (rows_of now bounds.sequence (cursor_of progress.at)) (cursor_of piece.behind) progress.marked
      (omega (arith, due)) on.at.bounds_are.known on.at.links packet.is on.at.marked
      (subst (λ body. TakesPart mid after (record_of body bounds.sequence progress.marked)) bytes part))

-- a run as a part of a read
module _ (start old new : Buffer) (first before after : Intake) (bounds : Bounds) (limit : ℕ) (progress : Progress) (ran : Ran)
    (read : IsReadTo start old first before bounds.sequence progress.delivered) (runs : Runs old new before after bounds limit progress ran) where
  pub ran_to : IsReadTo start new first runs.mid bounds.sequence ran.progress.delivered
  ran_to = read_further start old new first before runs.mid bounds.sequence progress.delivered ran.progress.delivered read runs.on.read runs.on.later

  ran_on : after ≡ runs.mid → IsReadTo start new first after bounds.sequence ran.progress.delivered
  ran_on same = subst (λ intake. IsReadTo start new first intake bounds.sequence ran.progress.delivered) (sym same) ran_to

  ends_as : (end : RunEnd) → ran.end ≡ end → RunEnds old new runs.mid after bounds.sequence (limit - ran.progress.delivered) end
  ends_as end is = subst (RunEnds old new runs.mid after bounds.sequence (limit - ran.progress.delivered)) is runs.ends

  pub ran_chunk : ran.end ≡ run.Chunk → IsReadTo start new first after bounds.sequence ran.progress.delivered
  ran_chunk is = ran_on (ends_as run.Chunk is).0

  pub ran_shorter : ran.end ≡ run.Chunk → length (row_met new bounds.sequence) < length (row_met old bounds.sequence)
  ran_shorter is = (ends_as run.Chunk is).1

  pub ran_other : ran.end ≡ run.Other → IsReadTo start new first after bounds.sequence ran.progress.delivered
  ran_other is = ran_on (ends_as run.Other is)

  pub ran_fault : ran.end ≡ run.Fault → Fails new new runs.mid after bounds.sequence (limit - ran.progress.delivered)
  ran_fault is = ends_as run.Fault is
